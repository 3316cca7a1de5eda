-- A stamp's shards and the shards of keys both strictly ascend. So they are the same list where each stands
-- among the others.
use Rattle.std.proofs.Common.{◌≡◌, inl, inr, ◌≤◌, ℕ, Bool, true, false, ◌&&◌, ◌||◌, ◌==◌, nat_lt, Option, Some, None, is_some, List, [], ◌∷◌, map, find, length, cond, refl, ap, sym, ◌∙◌, subst, arith, IsTrue}
use Rattle.std.specs.List.{list_all, list_any}
use Rattle.std.specs.Option.{option_map}
use Rattle.std.proofs.lemmas.Bool.{and_parts, and_from, eqb-true, eq-eqb, ne_eqb, ltb-true, or_cases, both_ways, cases_lt, or_right}
use Rattle.std.proofs.Math.Nat.{le_antisymm}
use Rattle.std.specs.Cmp.{both_ways as either_way}
use Rattle.std.proofs.lemmas.List.Folds.{list_all-map}
use Rattle.eris_base.specs.declared.ids.ShardId.{ShardId}
use Rattle.eris_base.specs.declared.stamp.Stamp.{Stamp}
use Rattle.eris_base.specs.Places as base
use Rattle.eris_base.specs.Places.{is_later, number_in, are_stamp_places}
use Rattle.eris_txn.specs.declared.key.Key.{Key}
use Rattle.eris_txn.specs.Bodies.{shards_of, ascends_from, has_shard, any_on}
use Rattle.eris_txn.proofs.BodyLaws.{shards_of-ascend, has_shard-shards_of}
use Rattle.eris_epoch.specs.SamePackets.{same_list}
use Rattle.eris_rules.specs.InPlace.{names_exactly}

-- a test of each item of a mapped list
pub list_any-map : {X Y : Type 0} (p : Y → Bool) (f : X → Y) (xs : List X) → list_any p (map f xs) ≡ list_any (λ x. p (f x)) xs
list_any-map p f [] = refl
list_any-map p f (x ∷ xs) = ap (λ rest. p (f x) || rest) (list_any-map p f xs)

-- shards above some shard have none that isn't above it
none_below : (before : ShardId) (shards : List ShardId) (one : ShardId) → ascends_from (Some before) shards ≡ true → one.0 ≤ before.0 → has_shard shards one ≡ false
none_below before [] one h low = refl
none_below before (shard ∷ shards) one h low =
    let parts = and_parts (nat_lt before.0 shard.0) (ascends_from (Some shard) shards) h in
    let above = ltb-true before.0 shard.0 parts.0 in
    let apart : shard.0 ≡ one.0 → ⊥ = λ e. omega (arith, above, low, e) in
    let first : (shard.0 == one.0) ≡ false = ne_eqb shard.0 one.0 apart in
    let rest : has_shard shards one ≡ false = none_below shard shards one parts.1 (omega (arith, above, low)) in
    rw (first, rest) refl

-- what follows a shard ascends above it
abbrev Follow : ShardId → List ShardId → Type 0
Follow shard shards = ascends_from (Some shard) shards ≡ true

-- the first of two ascending lists is among the second only where it isn't below that one's first
not_below : (some other : ShardId) (others : List ShardId) → Follow other others → has_shard (other ∷ others) some ≡ true → other.0 ≤ some.0
not_below some other others h is =
    elim (or_cases (other.0 == some.0) (has_shard others some) is) [
      | inl same ↦ (let e = eqb-true other.0 some.0 same in omega (arith, e))
      | inr later ↦ (elim (cases_lt some.0 other.0) [
        | inl below ↦ absurd (both_ways _ (none_below other others some h (omega (arith, below))) later)
        | inr above ↦ above
      ])
    ]

-- the rest of two lists that begin alike and have the same shards
same_rest : (first : ShardId) (shards others : List ShardId) → Follow first shards → Follow first others
    → ((one : ShardId) → has_shard (first ∷ shards) one ≡ has_shard (first ∷ others) one) → (one : ShardId) → has_shard shards one ≡ has_shard others one
same_rest first shards others h k same one = by_test (first.0 == one.0) refl
  where
    by_test : (b : Bool) → (first.0 == one.0) ≡ b → has_shard shards one ≡ has_shard others one
    by_test true e =
        let low : one.0 ≤ first.0 = (let is = eqb-true first.0 one.0 e in omega (arith, is)) in
        none_below first shards one h low ∙ sym (none_below first others one k low)
    by_test false e =
        let dropped : (list : List ShardId) → has_shard (first ∷ list) one ≡ has_shard list one = λ list. ap (λ b. b || has_shard list one) e in
        sym (dropped shards) ∙ same one ∙ dropped others

-- TWO ASCENDING LISTS WITH THE SAME SHARDS ARE THE SAME
same_members : (before after : Option ShardId) (shards others : List ShardId) → ascends_from before shards ≡ true → ascends_from after others ≡ true
    → ((one : ShardId) → has_shard shards one ≡ has_shard others one) → shards ≡ others
same_members before after [] [] h k same = refl
same_members before after [] (other ∷ others) h k same =
    absurd (both_ways _ (sym (same other)) (ap (λ b. b || has_shard others other) (eq-eqb other.0 other.0 refl)))
same_members before after (shard ∷ shards) [] h k same =
    absurd (both_ways _ (same shard) (ap (λ b. b || has_shard shards shard) (eq-eqb shard.0 shard.0 refl)))
same_members before after (shard ∷ shards) (other ∷ others) h k same =
    let first = (and_parts (is_later before shard) (ascends_from (Some shard) shards) h).1 in
    let second = (and_parts (is_later after other) (ascends_from (Some other) others) k).1 in
    let here : has_shard (shard ∷ shards) shard ≡ true = ap (λ b. b || has_shard shards shard) (eq-eqb shard.0 shard.0 refl) in
    let there : has_shard (other ∷ others) other ≡ true = ap (λ b. b || has_shard others other) (eq-eqb other.0 other.0 refl) in
    let up : other.0 ≤ shard.0 = not_below shard other others second (sym (same shard) ∙ here) in
    let down : shard.0 ≤ other.0 = not_below other shard shards first (same other ∙ there) in
    let e : shard ≡ other = ap (λ (n : ℕ). record { 0 = n }) (le_antisymm down up) in
    let follow : Follow shard others = subst (λ (start : ShardId). Follow start others) (sym e) second in
    let alike : (one : ShardId) → has_shard (shard ∷ shards) one ≡ has_shard (shard ∷ others) one
    = λ one. subst (λ (start : ShardId). has_shard (shard ∷ shards) one ≡ has_shard (start ∷ others) one) (sym e) (same one) in
    ap (λ (rest : List ShardId). shard ∷ rest) (same_members (Some shard) (Some shard) shards others first follow (same_rest shard shards others first follow alike))
    ∙ ap (λ (start : ShardId). start ∷ others) e

abbrev same_shards : List ShardId → List ShardId → Bool
same_shards shards others = same_list (λ some other. some.0 == other.0) shards others

same_from : (shards others : List ShardId) → same_shards shards others ≡ true → shards ≡ others
unfolding same_list
same_from [] [] h = refl
same_from [] (other ∷ others) h = absurd (both_ways _ refl h)
same_from (shard ∷ shards) [] h = absurd (both_ways _ refl h)
same_from (shard ∷ shards) (other ∷ others) h =
    let parts = and_parts (shard.0 == other.0) (same_shards shards others) h in
    ap (λ (n : ℕ). record { 0 = n } ∷ shards) (eqb-true shard.0 other.0 parts.0) ∙ ap (λ rest. other ∷ rest) (same_from shards others parts.1)

same_itself : (shards : List ShardId) → same_shards shards shards ≡ true
unfolding same_list
same_itself [] = refl
same_itself (shard ∷ shards) = and_from (shard.0 == shard.0) (same_shards shards shards) (eq-eqb shard.0 shard.0 refl) (same_itself shards)

-- a test that each shard passes, and the shards that are there
pub each_passes : (test : ShardId → Bool) (shards : List ShardId) → list_all test shards ≡ true → (one : ShardId) → has_shard shards one ≡ true → test one ≡ true
each_passes test [] h one is = absurd (both_ways _ refl is)
each_passes test (shard ∷ shards) h one is =
    let parts = and_parts (test shard) (list_all test shards) h in
    elim (or_cases (shard.0 == one.0) (has_shard shards one) is) [
      | inl same ↦ ap (λ (n : ℕ). test (record { 0 = n })) (sym (eqb-true shard.0 one.0 same)) ∙ parts.0
      | inr later ↦ each_passes test shards parts.1 one later
    ]

pub all_pass : (test : ShardId → Bool) (shards : List ShardId) → ((one : ShardId) → has_shard shards one ≡ true → test one ≡ true) → list_all test shards ≡ true
all_pass test [] h = refl
all_pass test (shard ∷ shards) h =
    and_from (test shard) (list_all test shards)
    (h shard (ap (λ b. b || has_shard shards shard) (eq-eqb shard.0 shard.0 refl)))
    (all_pass test shards (λ one is. h one (or_right (shard.0 == one.0) (has_shard shards one) is)))

-- the shards of places
abbrev shards_in : List (ShardId × ℕ) → List ShardId
shards_in places = map (λ place. place.0) places

shards_ascend : (before : Option ShardId) (places : List (ShardId × ℕ)) → base.ascends_from before places ≡ true → ascends_from before (shards_in places) ≡ true
shards_ascend before [] h = refl
shards_ascend before (place ∷ places) h =
    let parts = and_parts (is_later before place.0) (base.ascends_from (Some place.0) places) h in
    and_from (is_later before place.0) (ascends_from (Some place.0) (shards_in places)) parts.0 (shards_ascend (Some place.0) places parts.1)

-- a shard is named where it has a number
named : (places : List (ShardId × ℕ)) (one : ShardId) → is_some (number_in places one) ≡ has_shard (shards_in places) one
named [] one = refl
named (place ∷ places) one = by_test (place.0.0 == one.0) (named places one)
  where
    by_test : (b : Bool) → is_some (option_map (λ (found : ShardId × ℕ). found.1) (find (λ found. found.0.0 == one.0) places)) ≡ has_shard (shards_in places) one
        → is_some (option_map (λ (found : ShardId × ℕ). found.1) (cond b (Some place) (find (λ found. found.0.0 == one.0) places))) ≡ (b || has_shard (shards_in places) one)
    by_test true rest = refl
    by_test false rest = rest

-- the shards of keys
has_key : (keys : List Key) (one : ShardId) → any_on keys one ≡ has_shard (map (λ key. key.shard) keys) one
has_key keys one = sym (list_any-map (λ (other : ShardId). other.0 == one.0) (λ (key : Key). key.shard) keys)

abbrev have_keys : List (ShardId × ℕ) → List Key → Bool
have_keys places keys = list_all (λ place. any_on keys place.0) places

abbrev are_named : List (ShardId × ℕ) → List Key → Bool
are_named places keys = list_all (λ key. is_some (number_in places key.shard)) keys

have_keys-shards : (places : List (ShardId × ℕ)) (keys : List Key) → have_keys places keys ≡ list_all (λ shard. any_on keys shard) (shards_in places)
have_keys-shards places keys = sym (list_all-map (λ (shard : ShardId). any_on keys shard) (λ (place : ShardId × ℕ). place.0) places)

are_named-shards : (places : List (ShardId × ℕ)) (keys : List Key) → are_named places keys ≡ list_all (λ shard. is_some (number_in places shard)) (map (λ key. key.shard) keys)
are_named-shards places keys = sym (list_all-map (λ (shard : ShardId). is_some (number_in places shard)) (λ (key : Key). key.shard) keys)

to_exact : (places : List (ShardId × ℕ)) (keys : List Key) → base.ascends_from None places ≡ true → (have_keys places keys && are_named places keys) ≡ true
    → same_shards (shards_in places) (shards_of keys) ≡ true
to_exact places keys h both =
    let parts = and_parts (have_keys places keys) (are_named places keys) both in
    let there = each_passes (λ shard. any_on keys shard) (shards_in places) (sym (have_keys-shards places keys) ∙ parts.0) in
    let back = each_passes (λ shard. is_some (number_in places shard)) (map (λ key. key.shard) keys) (sym (are_named-shards places keys) ∙ parts.1) in
    let same : shards_in places ≡ shards_of keys = same_members None None (shards_in places) (shards_of keys) (shards_ascend None places h) (shards_of-ascend keys)
    (λ one. either_way (has_shard (shards_in places) one) (has_shard (shards_of keys) one)
    (λ is. has_shard-shards_of keys one ∙ there one is)
    (λ is. sym (named places one) ∙ back one (sym (has_key keys one) ∙ (sym (has_shard-shards_of keys one) ∙ is)))) in
    subst (λ others. same_shards (shards_in places) others ≡ true) same (same_itself (shards_in places))

from_exact : (places : List (ShardId × ℕ)) (keys : List Key) → same_shards (shards_in places) (shards_of keys) ≡ true → (have_keys places keys && are_named places keys) ≡ true
from_exact places keys h =
    let same : shards_in places ≡ shards_of keys = same_from (shards_in places) (shards_of keys) h in
    let alike : (one : ShardId) → has_shard (shards_in places) one ≡ any_on keys one = λ one. ap (λ shards. has_shard shards one) same ∙ has_shard-shards_of keys one in
    and_from (have_keys places keys) (are_named places keys)
    (have_keys-shards places keys ∙ all_pass (λ shard. any_on keys shard) (shards_in places) (λ one is. sym (alike one) ∙ is))
    (are_named-shards places keys ∙ all_pass (λ shard. is_some (number_in places shard)) (map (λ key. key.shard) keys) (λ one is. named places one ∙ alike one ∙ has_key keys one ∙ is))

-- THE STAMP NAMES EXACTLY THE SHARDS OF THE KEYS where each of its shards has a key and each key is of one
pub exactly : (stamp : Stamp) (keys : List Key) → IsTrue (are_stamp_places stamp.places)
    → names_exactly stamp (shards_of keys) ≡ (have_keys stamp.places keys && are_named stamp.places keys)
unfolding names_exactly
exactly stamp keys h =
    either_way (same_shards (shards_in stamp.places) (shards_of keys)) (have_keys stamp.places keys && are_named stamp.places keys)
    (from_exact stamp.places keys)
    (to_exact stamp.places keys (and_parts (nat_lt 0 (length stamp.places)) (base.ascends_from None stamp.places) h).1)
