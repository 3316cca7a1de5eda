-- Acknowledged lengths: one more, and how far a quorum has come.
use Rattle.std.proofs.Common.{◌≡◌, ◌≤◌, ◌<◌, ◌+◌, ◌-◌, ℕ, zero, suc, Bool, true, false, ◌&&◌, ◌==◌, nat_lt, cond, Option, Some, None, List, [], ◌∷◌, length, get_or, take, set, max, min, refl, ap, sym, ◌∙◌, arith, ◌⊎◌, inl, inr}
use Rattle.std.proofs.lemmas.Bool.{and_parts, and_from, cond-true, cond-false, ltb-true, ltb-false, lt-ltb, le-ltb, eq-eqb, ne_eqb, eqb-true, eqb-false, leb-true, le-leb}
use Rattle.std.proofs.lemmas.Bool.Decides.{nat_tests}
use Rattle.std.proofs.lemmas.List.Sums.{sum_by-cons}
use Rattle.std.specs.Ordering.{nat_cmp, ord_max}
use Rattle.std.specs.Prelude.{nat_le, count_by}
use Rattle.eris_base.specs.declared.ids.ReplicaId.{ReplicaId}
use Rattle.eris_base.specs.Each.{Each}
use Rattle.eris_view.specs.AckCells.{acks_from, cell_has, length_after, offered}
use Rattle.eris_view.proofs.Replicas.{is_lt-nat_lt}
use Rattle.eris_view.specs.AckTallies.{AckTallyValue, with_ack, how_many_have, quorum_has, greatest, settled, IsSettled}

abbrev pub Ack : Type 0
Ack = ReplicaId × ℕ

pub not_le_from : (a b : ℕ) → nat_le a b ≡ false → b < a
not_le_from a b h = grind (arith, nat_tests)

-- ---- one more length
with_ack-first : (number from : ℕ) (cells : List (Option ℕ)) (len : ℕ) → number < from
    → with_ack (acks_from from cells) (record { 0 = number }) len ≡ (record { 0 = number }, len) ∷ acks_from from cells
unfolding with_ack acks_from
with_ack-first number from [] len lt = refl
with_ack-first number from (None ∷ cells) len lt = with_ack-first number (from + 1) cells len (omega arith)
with_ack-first number from (Some other ∷ cells) len lt = cond-true (nat_lt number from) _ _ (lt-ltb number from lt)

abbrev at_from : ℕ → ℕ → List Ack → List Ack
at_from number len acks = (record { 0 = number }, len) ∷ acks

pub acks_from-set : (from at number : ℕ) (cells : List (Option ℕ)) (len : ℕ) → from + at ≡ number → at < length cells
    → acks_from from (set cells at (Some (length_after (get_or cells at None) len))) ≡ with_ack (acks_from from cells) (record { 0 = number }) len
unfolding with_ack acks_from
acks_from-set from at number [] len e lt = absurd (omega arith)
acks_from-set from zero number (None ∷ cells) len e lt =
    let same : from ≡ number = omega arith in
    ap (λ n. at_from n len (acks_from (from + 1) cells)) same ∙ sym (with_ack-first number (from + 1) cells len (omega arith))
acks_from-set from zero number (Some other ∷ cells) len e lt =
    let same : from ≡ number = omega arith in
    ap (λ n. at_from n (max other len) (acks_from (from + 1) cells)) same
    ∙ sym (cond-false (nat_lt number from) _ _ (le-ltb number from (omega arith)) ∙ cond-true (number == from) _ _ (eq-eqb number from (sym same)))
acks_from-set from (suc at) number (None ∷ cells) len e lt = acks_from-set (from + 1) at number cells len (omega arith) (omega arith)
acks_from-set from (suc at) number (Some other ∷ cells) len e lt =
    ap (λ more. at_from from other more) (acks_from-set (from + 1) at number cells len (omega arith) (omega arith))
    ∙ sym (cond-false (nat_lt number from) _ _ (le-ltb number from (omega arith)) ∙ cond-false (number == from) _ _ (ne_eqb number from (λ same. absurd (omega arith))))

-- ---- how many have a number
how_many_have-cons : (number : ℕ) (ack : Ack) (acks : List Ack) → how_many_have (ack ∷ acks) number ≡ cond (nat_le number ack.1) 1 0 + how_many_have acks number
unfolding how_many_have
how_many_have-cons number ack acks = sum_by-cons _ ack acks

pub how_many_have-cells : (number from : ℕ) (cells : List (Option ℕ)) → how_many_have (acks_from from cells) number ≡ count_by (cell_has number) cells
unfolding how_many_have acks_from
how_many_have-cells number from [] = refl
how_many_have-cells number from (None ∷ cells) = how_many_have-cells number (from + 1) cells ∙ sym (sum_by-cons _ None cells ∙ omega arith)
how_many_have-cells number from (Some len ∷ cells) =
    how_many_have-cons number (record { 0 = from }, len) (acks_from (from + 1) cells)
    ∙ ap (λ more. cond (nat_le number len) 1 0 + more) (how_many_have-cells number (from + 1) cells)
    ∙ sym (sum_by-cons _ (Some len) cells)

module _ (P : Ack → Type 0) where
  -- where some length is at least the number, there is one
  some_has : (acks : List Ack) (number : ℕ) → 1 ≤ how_many_have acks number → Each P acks → (ack : Ack) × ((number ≤ ack.1) × P ack)
  unfolding how_many_have
  some_has [] number some all = absurd (omega arith)
  some_has (ack ∷ acks) number some all = by_test (nat_le number ack.1) refl (rw (how_many_have-cons number ack acks) at some) (λ more. some_has acks number more all.1)
    where
      by_test : (t : Bool) → nat_le number ack.1 ≡ t → 1 ≤ cond t 1 0 + how_many_have acks number → (1 ≤ how_many_have acks number → (ack : Ack) × ((number ≤ ack.1) × P ack))
          → (ack : Ack) × ((number ≤ ack.1) × P ack)
      by_test true is some more = (ack, (leb-true number ack.1 is, all.0))
      by_test false is some more = more (omega arith)

  -- where fewer have the next number, some length is the number
  some_is : (acks : List Ack) (number : ℕ) → how_many_have acks (number + 1) < how_many_have acks number → Each P acks → (ack : Ack) × ((ack.1 ≡ number) × P ack)
  unfolding how_many_have
  some_is [] number fewer all = absurd (omega arith)
  some_is (ack ∷ acks) number fewer all = by_tests (nat_le (number + 1) ack.1) refl (nat_le number ack.1) refl (rw (how_many_have-cons (number + 1) ack acks, how_many_have-cons number ack acks) at fewer) (λ more. some_is acks number more all.1)
    where
      by_tests : (s : Bool) → nat_le (number + 1) ack.1 ≡ s → (t : Bool) → nat_le number ack.1 ≡ t
          → cond s 1 0 + how_many_have acks (number + 1) < cond t 1 0 + how_many_have acks number
          → (how_many_have acks (number + 1) < how_many_have acks number → (ack : Ack) × ((ack.1 ≡ number) × P ack)) → (ack : Ack) × ((ack.1 ≡ number) × P ack)
      by_tests true next t is fewer more = by_second t fewer more
        where
          by_second : (t : Bool) → 1 + how_many_have acks (number + 1) < cond t 1 0 + how_many_have acks number
              → (how_many_have acks (number + 1) < how_many_have acks number → (ack : Ack) × ((ack.1 ≡ number) × P ack)) → (ack : Ack) × ((ack.1 ≡ number) × P ack)
          by_second true fewer more = more (omega arith)
          by_second false fewer more = more (omega arith)
      by_tests false next false is fewer more = more (omega arith)
      by_tests false next true is fewer more =
          let low = leb-true number ack.1 is in let high = not_le_from (number + 1) ack.1 next in
          (ack, (omega arith, all.0))

-- ---- the greatest number that passes
pub greatest-within : (test : ℕ → Bool) (bound : ℕ) → greatest test bound ≤ bound
unfolding greatest
greatest-within test zero = omega arith
greatest-within test (suc bound) = by_test (test (suc bound)) (greatest-within test bound)
  where
    by_test : (t : Bool) → greatest test bound ≤ bound → cond t (suc bound) (greatest test bound) ≤ suc bound
    by_test true le = omega arith
    by_test false le = omega arith

pub greatest-passes : (test : ℕ → Bool) (bound : ℕ) → (greatest test bound ≡ 0) ⊎ (test (greatest test bound) ≡ true)
unfolding greatest
greatest-passes test zero = inl refl
greatest-passes test (suc bound) = by_test (test (suc bound)) refl (greatest-passes test bound)
  where
    by_test : (t : Bool) → test (suc bound) ≡ t → (greatest test bound ≡ 0) ⊎ (test (greatest test bound) ≡ true)
        → (cond t (suc bound) (greatest test bound) ≡ 0) ⊎ (test (cond t (suc bound) (greatest test bound)) ≡ true)
    by_test true is more = inr is
    by_test false is more = more

pub greatest-above : (test : ℕ → Bool) (bound number : ℕ) → test number ≡ true → number ≤ bound → number ≤ greatest test bound
unfolding greatest
greatest-above test zero number passes le = le
greatest-above test (suc bound) number passes le = by_test (test (suc bound)) refl (greatest-above test bound number passes)
  where
    by_test : (t : Bool) → test (suc bound) ≡ t → (number ≤ bound → number ≤ greatest test bound) → number ≤ cond t (suc bound) (greatest test bound)
    by_test true is more = le
    by_test false is more = more (below (number == suc bound) refl)
      where
        below : (s : Bool) → number == suc bound ≡ s → number ≤ bound
        below true same = let e = eqb-true number (suc bound) same in let clash = sym passes ∙ ap test e ∙ is in cc
        below false apart = let ne = eqb-false number (suc bound) apart in omega arith

-- ---- how far a quorum has come
at_most_own : (tally : AckTallyValue) (own number : ℕ) → quorum_has tally own number ≡ true → number ≤ own
unfolding quorum_has
at_most_own tally own number has = leb-true number own (and_parts _ _ has).0

pub IsSettled-settled : (tally : AckTallyValue) (own : ℕ) → IsSettled tally own (settled tally own)
unfolding settled
IsSettled-settled tally own = record {
  within = greatest-within (quorum_has tally own) own;
  shared = greatest-passes (quorum_has tally own) own;
  greatest = λ other has. greatest-above (quorum_has tally own) own other has (at_most_own tally own other has);
}

lower : (tally : AckTallyValue) (own some other : ℕ) → IsSettled tally own some → IsSettled tally own other → some ≤ other
lower tally own some other h k = elim h.shared as (λ _. some ≤ other) [ inl zero_is ↦ omega arith | inr has ↦ k.greatest some has ]

-- there is one such number
pub settled-unique : (tally : AckTallyValue) (own number : ℕ) → IsSettled tally own number → number ≡ settled tally own
settled-unique tally own number h =
    let low = lower tally own number (settled tally own) h (IsSettled-settled tally own) in
    let high = lower tally own (settled tally own) number (IsSettled-settled tally own) h in
    omega arith

-- ---- a walk over the lengths
module _ (cells : List (Option ℕ)) (f own : ℕ) where
  abbrev pub tally_of : AckTallyValue
  tally_of = record { f = f; acks = acks_from 0 cells }

  -- what was found of some of the lengths
  pub record IsFarSoFar (seen : List (Option ℕ)) (number : ℕ) : Type 0 where
    pub within : number ≤ own
    pub shared : (number ≡ 0) ⊎ (quorum_has tally_of own number ≡ true)
    pub offers : Each (λ cell. offered cells f own cell ≤ number) seen

  offered-within : (cell : Option ℕ) → offered cells f own cell ≤ own
  unfolding offered
  offered-within None = omega arith
  offered-within (Some len) = by_test (nat_le f (how_many_have (acks_from 0 cells) (min len own)))
    where
      by_test : (t : Bool) → cond t (min len own) 0 ≤ own
      by_test true = omega arith
      by_test false = omega arith

  offered-shared : (cell : Option ℕ) → (offered cells f own cell ≡ 0) ⊎ (quorum_has tally_of own (offered cells f own cell) ≡ true)
  unfolding offered quorum_has
  offered-shared None = inl refl
  offered-shared (Some len) = by_test (nat_le f (how_many_have (acks_from 0 cells) (min len own))) refl
    where
      by_test : (t : Bool) → nat_le f (how_many_have (acks_from 0 cells) (min len own)) ≡ t
          → (cond t (min len own) 0 ≡ 0) ⊎ ((nat_le (cond t (min len own) 0) own && nat_le f (how_many_have (acks_from 0 cells) (cond t (min len own) 0))) ≡ true)
      by_test true is = inr (and_from _ _ (le-leb (min len own) own (omega arith)) is)
      by_test false is = inl refl

-- ---- what a walk over the lengths finds
-- with no fault the own length is the one
pub IsSettled-no_faults : (cells : List (Option ℕ)) (own : ℕ) → IsSettled (tally_of cells 0 own) own own
unfolding quorum_has
IsSettled-no_faults cells own = record {
  within = omega arith;
  shared = inr (and_from _ _ (le-leb own own (omega arith)) (le-leb 0 _ (omega arith)));
  greatest = λ other has. leb-true other own (and_parts _ _ has).0;
}

pub far-none : (cells : List (Option ℕ)) (f own : ℕ) → IsFarSoFar cells f own [] 0
far-none cells f own = record { within = omega arith; shared = inl refl; offers = tt }

offers-more : (cells : List (Option ℕ)) (f own : ℕ) (seen : List (Option ℕ)) (number more : ℕ) → number ≤ more
    → Each (λ cell. offered cells f own cell ≤ number) seen → Each (λ cell. offered cells f own cell ≤ more) seen
offers-more cells f own [] number more le all = tt
offers-more cells f own (cell ∷ seen) number more le all = (omega (arith, all.0), offers-more cells f own seen number more le all.1)

offers-take : (P : Option ℕ → Type 0) (cells : List (Option ℕ)) (at : ℕ) → at < length cells → Each P (take at cells) → P (get_or cells at None) → Each P (take (at + 1) cells)
offers-take P [] at lt all one = absurd (omega arith)
offers-take P (other ∷ cells) zero lt all one = (one, tt)
offers-take P (other ∷ cells) (suc at) lt all one =
    let e : suc at + 1 ≡ suc (at + 1) = omega arith in
    rw e (all.0, offers-take P cells at (omega arith) all.1 one)

-- one more length
pub far-more : (cells : List (Option ℕ)) (f own at number : ℕ) → at < length cells → IsFarSoFar cells f own (take at cells) number
    → IsFarSoFar cells f own (take (at + 1) cells) (max number (offered cells f own (get_or cells at None)))
far-more cells f own at number lt so_far = record {
  within = let le = offered-within cells f own (get_or cells at None) in let low = so_far.within in omega arith;
  shared = greater_shares number other so_far.shared (offered-shared cells f own (get_or cells at None));
  offers = offers-take (λ cell. offered cells f own cell ≤ max number other) cells at lt (offers-more cells f own (take at cells) number (max number other) (omega arith) so_far.offers) (omega arith);
}
  where
    other : ℕ
    other = offered cells f own (get_or cells at None)

    greater_shares : (a b : ℕ) → (a ≡ 0) ⊎ (quorum_has (tally_of cells f own) own a ≡ true) → (b ≡ 0) ⊎ (quorum_has (tally_of cells f own) own b ≡ true)
        → (max a b ≡ 0) ⊎ (quorum_has (tally_of cells f own) own (max a b) ≡ true)
    greater_shares a b h k = by_test (nat_le a b) refl
      where
        by_test : (t : Bool) → nat_le a b ≡ t → (max a b ≡ 0) ⊎ (quorum_has (tally_of cells f own) own (max a b) ≡ true)
        by_test true le = let low = leb-true a b le in let e : max a b ≡ b = omega arith in rw e k
        by_test false gt = let high = not_le_from a b gt in let e : max a b ≡ a = omega arith in rw e h

module _ (cells : List (Option ℕ)) (f own number : ℕ) where
  -- a length that as many as f have isn't above the number
  abbrev IsOffered : Ack → Type 0
  IsOffered ack = f ≤ how_many_have (acks_from 0 cells) (min ack.1 own) → min ack.1 own ≤ number

  offers-acks : (from : ℕ) (seen : List (Option ℕ)) → Each (λ cell. offered cells f own cell ≤ number) seen → Each IsOffered (acks_from from seen)
  unfolding acks_from offered
  offers-acks from [] all = tt
  offers-acks from (None ∷ seen) all = offers-acks (from + 1) seen all.1
  offers-acks from (Some len ∷ seen) all =
      (λ enough. let e = cond-true (nat_le f (how_many_have (acks_from 0 cells) (min len own))) (min len own) 0 (le-leb _ _ enough) in omega (arith, all.0), offers-acks (from + 1) seen all.1)

  reaches : (gap other : ℕ) → other + gap ≡ own → 1 ≤ f → Each IsOffered (acks_from 0 cells) → f ≤ how_many_have (acks_from 0 cells) other → other ≤ number
  reaches zero other e some all enough =
      let high = some_has IsOffered (acks_from 0 cells) other (omega arith) all in
      let least : min (high.0).1 own ≡ other = let above = high.1.0 in omega arith in
      let le = high.1.1 (rw least enough) in omega arith
  reaches (suc gap) other e some all enough = by_test (nat_le f (how_many_have (acks_from 0 cells) (other + 1))) refl (λ more. reaches gap (other + 1) (omega arith) some all more)
    where
      by_test : (t : Bool) → nat_le f (how_many_have (acks_from 0 cells) (other + 1)) ≡ t → (f ≤ how_many_have (acks_from 0 cells) (other + 1) → other + 1 ≤ number) → other ≤ number
      by_test true more rest = let le = rest (leb-true _ _ more) in omega arith
      by_test false fewer rest =
          let below = not_le_from _ _ fewer in
          let here = some_is IsOffered (acks_from 0 cells) other (omega arith) all in
          let is = here.1.0 in
          let least : min (here.0).1 own ≡ other = omega arith in
          let le = here.1.1 (rw least enough) in omega arith

-- what was found of all lengths is how far a quorum has come
pub IsSettled-far : (cells : List (Option ℕ)) (f own number : ℕ) → 1 ≤ f → IsFarSoFar cells f own cells number → IsSettled (tally_of cells f own) own number
unfolding quorum_has
IsSettled-far cells f own number some far = record {
  within = far.within;
  shared = far.shared;
  greatest = λ other has.
      let parts = and_parts _ _ has in
      let within = leb-true other own parts.0 in
      reaches cells f own number (own - other) other (omega arith) some (offers-acks cells f own number 0 cells far.offers) (leb-true f _ parts.1);
}

pub ord_max-max : (a b : ℕ) → ord_max nat_cmp a b ≡ max a b
ord_max-max a b = rw (is_lt-nat_lt b a) (by_test (nat_lt b a) refl)
  where
    by_test : (t : Bool) → nat_lt b a ≡ t → cond t a b ≡ max a b
    by_test true lt = let h = ltb-true b a lt in omega arith
    by_test false lt = let h = ltb-false b a lt in omega arith
