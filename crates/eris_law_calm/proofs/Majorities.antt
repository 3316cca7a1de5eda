-- HOW MANY OF 2f+1 REPLICAS ARE UP, where at most f crashed, and how many different ones a list has that has each
-- of them. Used where the last packets have come and a client has a majority's votes.
use Rattle.std.proofs.Common.{◌≡◌, ◌⊎◌, inl, inr, ◌≤◌, ◌<◌, ◌+◌, ◌*◌, ℕ, zero, suc, Bool, true, false, not, cond, ◌==◌, ◌||◌, ◌&&◌, List, [], ◌∷◌, length, refl, ap, sym, ◌∙◌, arith}
use Rattle.std.proofs.lemmas.Bool.{eq-eqb, eqb-true, not-true, or_cases, or_left, or_right}
use Rattle.std.specs.Set.{distinct_count, is_member, unique_keys}
use Rattle.eris_base.specs.declared.ids.ReplicaId.{ReplicaId}
use Rattle.eris_base.specs.declared.ids.ShardId.{ShardId}
use Rattle.eris_base.specs.Quorums.{same_replica}
use Rattle.eris_law_calm.specs.Crashes.{how_many_down, is_down, one_if}

-- how many of so many numbers from one on pass a test
abbrev pub how_many : (ℕ → Bool) → ℕ → ℕ → ℕ
how_many test from zero = 0
how_many test from (suc many) = one_if (test from) + how_many test (from + 1) many

-- a number that isn't among them makes no more pass
none_more : (test : ℕ → Bool) (x from many : ℕ) → x < from → how_many (λ r. (r == x) || test r) from many ≡ how_many test from many
none_more test x from zero low = refl
none_more test x from (suc many) low = by_test (from == x) refl (none_more test x (from + 1) many (omega arith))
  where
    by_test : (b : Bool) → (from == x) ≡ b → how_many (λ r. (r == x) || test r) (from + 1) many ≡ how_many test (from + 1) many
        → one_if (b || test from) + how_many (λ r. (r == x) || test r) (from + 1) many ≡ one_if (test from) + how_many test (from + 1) many
    by_test true e rest = let same = eqb-true from x e in absurd (omega arith)
    by_test false e rest = ap (λ n. one_if (test from) + n) rest

few_ones : (b : Bool) → one_if b ≤ 1
few_ones true = omega arith
few_ones false = omega arith

-- and any one at most one
pub one_more : (test : ℕ → Bool) (x from many : ℕ) → how_many (λ r. (r == x) || test r) from many ≤ suc (how_many test from many)
one_more test x from zero = omega arith
one_more test x from (suc many) = by_test (from == x) refl (one_more test x (from + 1) many)
  where
    by_test : (b : Bool) → (from == x) ≡ b → how_many (λ r. (r == x) || test r) (from + 1) many ≤ suc (how_many test (from + 1) many)
        → one_if (b || test from) + how_many (λ r. (r == x) || test r) (from + 1) many ≤ suc (one_if (test from) + how_many test (from + 1) many)
    by_test true e rest = let same = eqb-true from x e in let none = none_more test x (from + 1) many (omega arith) in omega arith
    by_test false e rest = omega arith

-- those that pass and those that don't are all
pub both_kinds : (test : ℕ → Bool) (from many : ℕ) → how_many test from many + how_many (λ r. not (test r)) from many ≡ many
both_kinds test from zero = refl
both_kinds test from (suc many) = by_test (test from) (both_kinds test (from + 1) many)
  where
    by_test : (b : Bool) → how_many test (from + 1) many + how_many (λ r. not (test r)) (from + 1) many ≡ many
        → (one_if b + how_many test (from + 1) many) + (one_if (not b) + how_many (λ r. not (test r)) (from + 1) many) ≡ suc many
    by_test true rest = omega arith
    by_test false rest = omega arith

-- where one test passes another does, so no fewer do
pub no_fewer : (test other : ℕ → Bool) (from many : ℕ) → ((r : ℕ) → from ≤ r → r < from + many → test r ≡ true → other r ≡ true) → how_many test from many ≤ how_many other from many
no_fewer test other from zero passes = omega arith
no_fewer test other from (suc many) passes =
    by_test (test from) (other from) (passes from (omega arith) (omega arith))
    (no_fewer test other (from + 1) many (λ r low high. passes r (omega arith) (omega arith)))
  where
    by_test : (b c : Bool) → (b ≡ true → c ≡ true) → how_many test (from + 1) many ≤ how_many other (from + 1) many
        → one_if b + how_many test (from + 1) many ≤ one_if c + how_many other (from + 1) many
    by_test true true both rest = omega arith
    by_test true false both rest = let clash : false ≡ true = both refl in absurd (cc)
    by_test false true both rest = omega arith
    by_test false false both rest = omega arith

-- no more numbers stand in a list than it has different items
pub members_few : (replicas : List ReplicaId) (from many : ℕ) → how_many (λ r. is_member same_replica replicas (record { 0 = r })) from many ≤ distinct_count same_replica replicas
members_few [] from many = let none = nothing from many in omega arith
  where
    nothing : (from many : ℕ) → how_many (λ r. false) from many ≡ 0
    nothing from zero = refl
    nothing from (suc many) = let rest = nothing (from + 1) many in omega arith
members_few (one ∷ replicas) from many = by_test (is_member same_replica replicas one) (members_few replicas from many) refl
  where
    by_test : (b : Bool) → how_many (λ r. is_member same_replica replicas (record { 0 = r })) from many ≤ distinct_count same_replica replicas
        → is_member same_replica replicas one ≡ b
        → how_many (λ r. (r == one.0) || is_member same_replica replicas (record { 0 = r })) from many
        ≤ length (cond b (unique_keys same_replica replicas) (one ∷ unique_keys same_replica replicas))
    by_test true rest e =
        let passes = λ (r : ℕ) (low : from ≤ r) (high : r < from + many) (h : ((r == one.0) || is_member same_replica replicas (record { 0 = r })) ≡ true). there r e (or_cases (r == one.0) _ h) in
        let fewer = no_fewer (λ r. (r == one.0) || is_member same_replica replicas (record { 0 = r })) (λ r. is_member same_replica replicas (record { 0 = r })) from many passes in omega arith
      where
        there : (r : ℕ) → is_member same_replica replicas one ≡ true → ((r == one.0) ≡ true) ⊎ (is_member same_replica replicas (record { 0 = r }) ≡ true) → is_member same_replica replicas (record { 0 = r }) ≡ true
        there r e (inl same) = ap (λ (n : ℕ). is_member same_replica replicas (record { 0 = n })) (eqb-true r one.0 same) ∙ e
        there r e (inr here) = here
    by_test false rest e = let more = one_more (λ r. is_member same_replica replicas (record { 0 = r })) one.0 from many in omega arith

pub few_down : (down : List (ShardId × ReplicaId)) (shard from many : ℕ) → how_many (λ r. is_down down shard r) from many ≤ how_many_down down shard
few_down [] shard from many = let none = nothing from many in omega arith
  where
    nothing : (from many : ℕ) → how_many (λ r. false) from many ≡ 0
    nothing from zero = refl
    nothing from (suc many) = let rest = nothing (from + 1) many in omega arith
few_down (pair ∷ down) shard from many = by_test (pair.0.0 == shard) (few_down down shard from many)
  where
    by_test : (b : Bool) → how_many (λ r. is_down down shard r) from many ≤ how_many_down down shard
        → how_many (λ r. (b && (pair.1.0 == r)) || is_down down shard r) from many ≤ one_if b + how_many_down down shard
    by_test false rest = omega arith
    by_test true rest =
        let more = one_more (λ r. is_down down shard r) pair.1.0 from many in
        let turned = no_fewer (λ r. (pair.1.0 == r) || is_down down shard r) (λ r. (r == pair.1.0) || is_down down shard r) from many
        (λ r low high h. elim (or_cases (pair.1.0 == r) _ h) [ inl same ↦ or_left (r == pair.1.0) _ (eq-eqb r pair.1.0 (sym (eqb-true pair.1.0 r same))) | inr there ↦ or_right (r == pair.1.0) _ there ]) in
        omega arith

-- A MAJORITY: where at most f of 2f+1 are down, a list that has every one that is up has more than f different ones
pub majority : (down : List (ShardId × ReplicaId)) (shard f : ℕ) (replicas : List ReplicaId) → how_many_down down shard ≤ f
    → ((r : ℕ) → r < 2 * f + 1 → is_down down shard r ≡ false → is_member same_replica replicas (record { 0 = r }) ≡ true)
    → f < distinct_count same_replica replicas
majority down shard f replicas few there =
    let gone = few_down down shard 0 (2 * f + 1) in
    let all = both_kinds (λ r. is_down down shard r) 0 (2 * f + 1) in
    let members = members_few replicas 0 (2 * f + 1) in
    let up = no_fewer (λ r. not (is_down down shard r)) (λ r. is_member same_replica replicas (record { 0 = r })) 0 (2 * f + 1)
    (λ r low high h. there r (omega arith) (not-true (is_down down shard r) h)) in
    omega arith
