-- What holds of entries, lengths, covers and holders.
use Rattle.std.proofs.Common.{◌≡◌, ◌≤◌, ◌<◌, ◌+◌, ℕ, zero, suc, Bool, true, false, not, ◌&&◌, ◌||◌, ◌==◌, nat_le, cond, Option, Some, None, is_some, List, [], ◌∷◌, length, refl, ap, sym, ◌∙◌, subst, arith, ◌⊎◌, inl, inr}
use Rattle.std.proofs.lemmas.Bool.{and_parts, and_from, or_cases, or_left, or_right, or_parts, cases_Bool, cases_eq, cases_lt, cond-true, cond-false, cond_both, not-true, not-false, eqb-true, eq-eqb, lt-ltb}
use Rattle.std.proofs.lemmas.Bool.Decides.{nat_tests}
use Rattle.std.proofs.lemmas.Cmp.{nat_cmp_total, tied_itself}
use Rattle.std.specs.List.{list_any, list_all}
use Rattle.std.specs.Option.{option_map}
use Rattle.std.specs.Ordering.{nat_cmp, is_eq}
use Rattle.std.specs.Prelude.{find}
use Rattle.std.specs.declared.cmp.Ordering.TheVariants.{Less}
use Rattle.eris_base.specs.declared.ids.Place.{Place}
use Rattle.eris_base.specs.declared.stamp.Stamp.{Stamp}
use Rattle.eris_base.specs.StampPlaces.{has_place}
use Rattle.eris_base.proofs.Orders.{nat_tie}
use Rattle.eris_txn.specs.declared.packet.Packet.{Packet}
use Rattle.eris_log.specs.declared.entry.Entry.{Entry}
use Rattle.eris_log.specs.declared.entry.Entry.TheVariants.{Dropped, Txn, Gap}
use Rattle.eris_log.specs.Entries.{own_place, all_found, is_lost, is_clear, is_held_and, is_dropped, is_txn, entry_of, is_gap, reach, length_of, IsLength, is_covered, covers, holder_of}
use Rattle.eris_log.specs.Growth.{HasAll, IsWithin}
use Rattle.eris_log.specs.Held.{numbers_ascend, packet_at}
use Rattle.eris_log.specs.PartFacts.{IsPart}
use Rattle.eris_log.specs.PartValues.{PartValue}
use Rattle.eris_log.specs.Places.{same_place, contains_place, places_of, any_among}
use Rattle.eris_log.specs.Sorted.{item_at}
use Rattle.eris_log.specs.Laws.Held.{packet_at-item_at, item_at-find}
use Rattle.eris_log.specs.Laws.Places.{same_place-true, same_place-refl}
use Rattle.eris_log.specs.Laws.Sorted.{Below, below_from, below_lower, ascends_tail, item_at-below}

-- ---- the places of a stamp among others
any_in : (some places : List Place) (place : Place) → contains_place some place ≡ true → contains_place places place ≡ true → list_any (λ p. contains_place places p) some ≡ true
unfolding contains_place
any_in [] places place h k = cc
any_in (one ∷ some) places place h k = elim (or_cases (same_place one place) (contains_place some place) h) [
  | inl same ↦ or_left _ _ (subst (λ (p : Place). contains_place places p ≡ true) (sym (same_place-true one place same)) k)
  | inr more ↦ or_right (contains_place places one) _ (any_in some places place more k)
]

-- a place of the stamp is in the list
pub any_among-from : (places : List Place) (stamp : Stamp) (place : Place) → contains_place (places_of stamp) place ≡ true → contains_place places place ≡ true → any_among places stamp ≡ true
unfolding any_among
any_among-from places stamp place h k = any_in (places_of stamp) places place h k

in_any : (some places : List Place) → list_any (λ p. contains_place places p) some ≡ true → (place : Place) × (contains_place some place ≡ true) × (contains_place places place ≡ true)
unfolding contains_place
in_any [] places h = cc
in_any (one ∷ some) places h = elim (or_cases (contains_place places one) (list_any (λ p. contains_place places p) some) h) [
  | inl here ↦ (one, or_left _ _ (same_place-refl one), here)
  | inr more ↦ let found = in_any some places more in (found.0, or_right (same_place one found.0) _ found.1, found.2)
]

pub any_among-some : (places : List Place) (stamp : Stamp) → any_among places stamp ≡ true
    → (place : Place) × (contains_place (places_of stamp) place ≡ true) × (contains_place places place ≡ true)
unfolding any_among
any_among-some places stamp h = in_any (places_of stamp) places h

-- no place of the stamp is in the list
pub any_among-none : (places : List Place) (stamp : Stamp) (place : Place) → any_among places stamp ≡ false → contains_place (places_of stamp) place ≡ true → contains_place places place ≡ false
any_among-none places stamp place h k = elim (cases_Bool (contains_place places place)) [
  | inl here ↦ let found = any_among-from places stamp place k here in cc
  | inr absent ↦ absent
]

pub any_among-within : (some all : List Place) (stamp : Stamp) → HasAll some all → any_among some stamp ≡ true → any_among all stamp ≡ true
any_among-within some all stamp within h =
    let found = any_among-some some stamp h in
    any_among-from all stamp found.0 found.1 (within.at found.0 found.2)

all_in : (some temp fnd : List Place) (place : Place) → list_all (λ p. not (contains_place temp p) || contains_place fnd p) some ≡ true
    → contains_place some place ≡ true → contains_place temp place ≡ true → contains_place fnd place ≡ true
unfolding contains_place
all_in [] temp fnd place h k t = cc
all_in (one ∷ some) temp fnd place h k t =
    let parts = and_parts (not (contains_place temp one) || contains_place fnd one) (list_all (λ p. not (contains_place temp p) || contains_place fnd p) some) h in
    elim (or_cases (same_place one place) (contains_place some place) k) [
      | inl same ↦ by_test (contains_place temp place) t (subst (λ (p : Place). (not (contains_place temp p) || contains_place fnd p) ≡ true) (same_place-true one place same) parts.0)
      | inr more ↦ all_in some temp fnd place parts.1 more t
    ]
  where
    by_test : (b : Bool) → b ≡ true → {c : Bool} → (not b || c) ≡ true → c ≡ true
    by_test true e h = h
    by_test false e h = cc

-- each place of the stamp that is in the first list is in the second
pub all_found-at : (temp fnd : List Place) (stamp : Stamp) (place : Place) → all_found temp fnd stamp ≡ true → contains_place (places_of stamp) place ≡ true → contains_place temp place ≡ true → contains_place fnd place ≡ true
unfolding all_found
all_found-at temp fnd stamp place h k t = all_in (places_of stamp) temp fnd place h k t

-- ---- entries
held_some : (test : Packet → Bool) (found : Option Packet) → is_held_and test found ≡ true → (packet : Packet) × (found ≡ Some packet) × (test packet ≡ true)
held_some test None h = cc
held_some test (Some packet) h = (packet, refl, h)

held_and-from : (test : Packet → Bool) (found : Option Packet) (packet : Packet) → found ≡ Some packet → test packet ≡ true → is_held_and test found ≡ true
held_and-from test found packet e h = rw e h

-- an entry that is a transaction has a held packet
pub record HoldsTxn (part : PartValue) (number : ℕ) : Type 0 where
  pub packet : Packet
  pub held : packet_at part.held number ≡ Some packet
  pub kept : is_lost part packet ≡ false
  pub clear : is_clear part packet ≡ true

pub HoldsTxn-is_txn : (part : PartValue) (number : ℕ) → is_txn part number ≡ true → HoldsTxn part number
unfolding is_txn
HoldsTxn-is_txn part number h =
    let found = held_some (λ packet. not (is_lost part packet) && is_clear part packet) (packet_at part.held number) h in
    let parts = and_parts (not (is_lost part found.0)) (is_clear part found.0) found.2 in
    record { packet = found.0; held = found.1; kept = not-true _ parts.0; clear = parts.1 }

pub is_txn-from : (part : PartValue) (number : ℕ) → HoldsTxn part number → is_txn part number ≡ true
unfolding is_txn
is_txn-from part number h =
    held_and-from (λ packet. not (is_lost part packet) && is_clear part packet) (packet_at part.held number) h.packet h.held
    (and_from (not (is_lost part h.packet)) (is_clear part h.packet) (rw h.kept refl) h.clear)

pub entry_of-dropped : (part : PartValue) (number : ℕ) → is_dropped part number ≡ true → entry_of part number ≡ Dropped
unfolding entry_of
entry_of-dropped part number h = rw h refl

pub entry_of-txn : (part : PartValue) (number : ℕ) → is_dropped part number ≡ false → is_txn part number ≡ true → entry_of part number ≡ Txn
unfolding entry_of
entry_of-txn part number h k = rw (h, k) refl

pub entry_of-gap : (part : PartValue) (number : ℕ) → is_gap part number ≡ true → entry_of part number ≡ Gap
unfolding entry_of is_gap
entry_of-gap part number h =
    let parts = or_parts (is_dropped part number) (is_txn part number) (not-true _ h) in
    rw (parts.0, parts.1) refl

by_entry : (dropped txn : Bool) (entry : Entry) → cond dropped Dropped (cond txn Txn Gap) ≡ entry
    → ((entry ≡ Dropped) × (dropped ≡ true)) ⊎ (((entry ≡ Txn) × (dropped ≡ false) × (txn ≡ true)) ⊎ ((entry ≡ Gap) × (dropped ≡ false) × (txn ≡ false)))
by_entry true txn entry h = inl (sym h, refl)
by_entry false true entry h = inr (inl (sym h, refl, refl))
by_entry false false entry h = inr (inr (sym h, refl, refl))

pub is_dropped-entry_of : (part : PartValue) (number : ℕ) → entry_of part number ≡ Dropped → is_dropped part number ≡ true
unfolding entry_of
is_dropped-entry_of part number h = elim (by_entry (is_dropped part number) (is_txn part number) Dropped h) [
  | inl one ↦ one.1
  | inr other ↦ elim other [ inl two ↦ let e = two.0 in cc | inr three ↦ let e = three.0 in cc ]
]

pub is_txn-entry_of : (part : PartValue) (number : ℕ) → entry_of part number ≡ Txn → (is_dropped part number ≡ false) × (is_txn part number ≡ true)
unfolding entry_of
is_txn-entry_of part number h = elim (by_entry (is_dropped part number) (is_txn part number) Txn h) [
  | inl one ↦ let e = one.0 in cc
  | inr other ↦ elim other [ inl two ↦ (two.1, two.2) | inr three ↦ let e = three.0 in cc ]
]

pub is_gap-entry_of : (part : PartValue) (number : ℕ) → entry_of part number ≡ Gap → is_gap part number ≡ true
unfolding entry_of is_gap
is_gap-entry_of part number h = elim (by_entry (is_dropped part number) (is_txn part number) Gap h) [
  | inl one ↦ let e = one.0 in cc
  | inr other ↦ elim other [ inl two ↦ let e = two.0 in cc | inr three ↦ rw (three.1, three.2) refl ]
]

-- what is no gap is held or dropped at its place
pub is_covered-entry : (part : PartValue) (number : ℕ) → is_gap part number ≡ false → is_covered part number ≡ true
unfolding is_gap is_covered is_dropped is_txn
is_covered-entry part number h =
    by_tests (contains_place part.perm (own_place part number)) (packet_at part.held number) (not-false _ h)
  where
    by_tests : (b : Bool) (found : Option Packet)
        → ((b || is_held_and (λ packet. is_lost part packet) found) || is_held_and (λ packet. not (is_lost part packet) && is_clear part packet) found) ≡ true
        → (is_some found || b) ≡ true
    by_tests true None h = refl
    by_tests true (Some packet) h = refl
    by_tests false None h = h
    by_tests false (Some packet) h = refl

-- ---- the length
-- no entry from 1 to the number is a gap
pub record NoGap (part : PartValue) (number : ℕ) : Type 0 where
  pub at : (n : ℕ) → 1 ≤ n → n ≤ number → is_gap part n ≡ false

pub NoGap-none : (part : PartValue) → NoGap part 0
NoGap-none part = record { at = λ n low high. absurd (omega arith) }

pub NoGap-more : (part : PartValue) (number : ℕ) → NoGap part number → is_gap part (number + 1) ≡ false → NoGap part (number + 1)
NoGap-more part number whole h =
    record { at = λ n low high. elim (cases_eq n (number + 1)) [ inl e ↦ ap (λ m. is_gap part m) e ∙ h | inr differ ↦ whole.at n low (omega arith) ] }

-- how many of the items have at most this number
upto : {X : Type 0} → (X → ℕ) → ℕ → List X → ℕ
upto num n [] = 0
upto num n (x ∷ xs) = cond (nat_le (num x) n) 1 0 + upto num n xs

upto-length : {X : Type 0} (num : X → ℕ) (n : ℕ) (xs : List X) → upto num n xs ≤ length xs
unfolding upto
upto-length num n [] = omega arith
upto-length num n (x ∷ xs) =
    cond_both (nat_le (num x) n) 1 0 (λ m. m + upto num n xs ≤ length (x ∷ xs)) (λ e. omega (arith, upto-length num n xs)) (λ e. omega (arith, upto-length num n xs))

upto-next : {X : Type 0} (num : X → ℕ) (n : ℕ) (xs : List X) → upto num n xs ≤ upto num (n + 1) xs
unfolding upto
upto-next num n [] = omega arith
upto-next num n (x ∷ xs) = grind (arith, nat_tests, upto-next num n xs)

-- an item with the next number is one more
upto-more : {X : Type 0} (num : X → ℕ) (n : ℕ) (xs : List X) → list_any (λ x. num x == n + 1) xs ≡ true → upto num n xs + 1 ≤ upto num (n + 1) xs
unfolding upto
upto-more num n [] h = cc
upto-more num n (x ∷ xs) h = elim (or_cases (num x == n + 1) (list_any (λ y. num y == n + 1) xs) h) [
  | inl here ↦ let e : num x ≡ n + 1 = eqb-true _ _ here in grind (arith, nat_tests, upto-next num n xs)
  | inr more ↦ grind (arith, nat_tests, upto-more num n xs more)
]

held_any : (held : List (ℕ × Packet)) (number : ℕ) → is_some (packet_at held number) ≡ true → list_any (λ (pair : ℕ × Packet). pair.0 == number) held ≡ true
unfolding packet_at
held_any [] number h = cc
held_any (pair ∷ held) number h = by_test (pair.0 == number) h (held_any held number)
  where
    by_test : (b : Bool) → is_some (option_map (λ (p : ℕ × Packet). p.1) (cond b (Some pair) (find (λ p. p.0 == number) held))) ≡ true
        → (is_some (option_map (λ (p : ℕ × Packet). p.1) (find (λ p. p.0 == number) held)) ≡ true → list_any (λ (p : ℕ × Packet). p.0 == number) held ≡ true)
        → (b || list_any (λ (p : ℕ × Packet). p.0 == number) held) ≡ true
    by_test true h more = refl
    by_test false h more = more h

place_any : (places : List Place) (place : Place) → contains_place places place ≡ true → list_any (λ (p : Place). p.number == place.number) places ≡ true
unfolding contains_place
place_any [] place h = cc
place_any (one ∷ places) place h = elim (or_cases (same_place one place) (contains_place places place) h) [
  | inl same ↦ or_left _ _ (eq-eqb _ _ (ap (λ (p : Place). p.number) (same_place-true one place same)))
  | inr more ↦ or_right (one.number == place.number) _ (place_any places place more)
]

-- so many entries can be without a gap
known : PartValue → ℕ → ℕ
known part number = upto (λ (pair : ℕ × Packet). pair.0) number part.held + upto (λ (place : Place). place.number) number part.perm

known-next : (part : PartValue) (number : ℕ) → is_covered part (number + 1) ≡ true → known part number + 1 ≤ known part (number + 1)
unfolding known is_covered
known-next part number h = elim (or_cases (is_some (packet_at part.held (number + 1))) (contains_place part.perm (own_place part (number + 1))) h) [
  | inl held ↦
      let more = upto-more (λ (pair : ℕ × Packet). pair.0) number part.held (held_any part.held (number + 1) held) in
      omega (arith, more, upto-next (λ (place : Place). place.number) number part.perm)
  | inr dropped ↦
      let more = upto-more (λ (place : Place). place.number) number part.perm (place_any part.perm (own_place part (number + 1)) dropped) in
      omega (arith, more, upto-next (λ (pair : ℕ × Packet). pair.0) number part.held)
]

known-enough : (part : PartValue) (number : ℕ) → NoGap part number → number ≤ known part number
known-enough part zero whole = omega arith
known-enough part (suc number) whole =
    let before : NoGap part number = record { at = λ n low high. whole.at n low (omega arith) } in
    let e : number + 1 ≡ suc number = omega arith in
    let here : is_gap part (number + 1) ≡ false = whole.at (number + 1) (omega arith) (omega arith) in
    let more = known-next part number (is_covered-entry part (number + 1) here) in
    let last : known part (number + 1) ≡ known part (suc number) = ap (known part) e in
    omega (arith, known-enough part number before, more, last)

known-few : (part : PartValue) (number : ℕ) → known part number ≤ length part.held + length part.perm
unfolding known
known-few part number =
    omega (arith, upto-length (λ (pair : ℕ × Packet). pair.0) number part.held, upto-length (λ (place : Place). place.number) number part.perm)

reached : (part : PartValue) (number more : ℕ) → NoGap part number → ((m : ℕ) → NoGap part m → m ≤ number + more) → IsLength part (reach part number more)
unfolding reach
reached part number zero whole few =
    record { whole = whole.at; ends = ends (cases_Bool (is_gap part (number + 1))) }
  where
    ends : ((is_gap part (number + 1) ≡ true) ⊎ (is_gap part (number + 1) ≡ false)) → is_gap part (number + 1) ≡ true
    ends (inl h) = h
    ends (inr h) = let le = few (number + 1) (NoGap-more part number whole h) in absurd (omega arith)
reached part number (suc more) whole few =
    cond_both (is_gap part (number + 1)) number (reach part (number + 1) more) (IsLength part)
    (λ h. record { whole = whole.at; ends = h })
    (λ h. reached part (number + 1) more (NoGap-more part number whole h) (λ m w. omega (arith, few m w)))

-- there is no gap to the length, and there is one right behind it
pub IsLength-length_of : (part : PartValue) → IsLength part (length_of part)
unfolding length_of
IsLength-length_of part =
    reached part 0 (length part.held + length part.perm) (NoGap-none part) (λ m whole. omega (arith, known-enough part m whole, known-few part m))

-- the length is the greatest number to which there is no gap
pub length_of-greatest : (part : PartValue) (number : ℕ) → NoGap part number → number ≤ length_of part
length_of-greatest part number whole = elim (cases_lt (length_of part) number) [
  | inl lt ↦
      let ends = (IsLength-length_of part).ends in
      let none = whole.at (length_of part + 1) (omega arith) (omega arith) in cc
  | inr le ↦ le
]

pub NoGap-length_of : (part : PartValue) → NoGap part (length_of part)
NoGap-length_of part = record { at = (IsLength-length_of part).whole }

-- and the only one
pub length_of-unique : (part : PartValue) (number : ℕ) → IsLength part number → number ≡ length_of part
length_of-unique part number h = elim (cases_lt number (length_of part)) [
  | inl lt ↦
      let none = (IsLength-length_of part).whole (number + 1) (omega arith) (omega arith) in
      let ends = h.ends in cc
  | inr le ↦ let most = length_of-greatest part number (record { at = h.whole }) in omega arith
]

-- ---- covers
pub covers-at : (part : PartValue) (number n : ℕ) → covers part number ≡ true → 1 ≤ n → n ≤ number → is_covered part n ≡ true
unfolding covers
covers-at part zero n h low high = absurd (omega arith)
covers-at part (suc number) n h low high =
    let parts = and_parts (covers part number) (is_covered part (number + 1)) h in
    elim (cases_eq n (number + 1)) [ inl e ↦ ap (is_covered part) e ∙ parts.1 | inr differ ↦ covers-at part number n parts.0 low (omega arith) ]

pub covers-from : (part : PartValue) (number : ℕ) → ((n : ℕ) → 1 ≤ n → n ≤ number → is_covered part n ≡ true) → covers part number ≡ true
unfolding covers
covers-from part zero each = refl
covers-from part (suc number) each =
    and_from _ _ (covers-from part number (λ n low high. each n low (omega arith))) (each (number + 1) (omega arith) (omega arith))

pub covers-next : (part : PartValue) (number : ℕ) → covers part (number + 1) ≡ (covers part number && is_covered part (number + 1))
unfolding covers
covers-next part number = let e : number + 1 ≡ suc number = omega arith in ap (λ n. covers part n) e

pub covers-none : (part : PartValue) → covers part 0 ≡ true
unfolding covers
covers-none part = refl

-- one number that isn't covered is enough
pub covers-missing : (part : PartValue) (number n : ℕ) → is_covered part (n + 1) ≡ false → n < number → covers part number ≡ false
covers-missing part number n h lt = elim (cases_Bool (covers part number)) [
  | inl all ↦ let here = covers-at part number (n + 1) all (omega arith) (omega arith) in cc
  | inr none ↦ none
]

pub ruleset cover_rules = (covers-none, covers-next, covers-missing)

-- a part covers its length
pub covers-length_of : (part : PartValue) → covers part (length_of part) ≡ true
covers-length_of part = covers-from part (length_of part) (λ n low high. is_covered-entry part n ((IsLength-length_of part).whole n low high))

-- ---- holders
found_item : (test : ℕ × Packet → Bool) (held : List (ℕ × Packet)) (pair : ℕ × Packet) → numbers_ascend held ≡ true → find test held ≡ Some pair
    → (item_at (λ p. p.0) nat_cmp held pair.0 ≡ Some pair) × (test pair ≡ true)
unfolding item_at
found_item test [] pair h e = cc
found_item test (x ∷ held) pair h e = by_test (test x) refl e (found_item test held pair (ascends_tail (λ p. p.0) nat_cmp_total x held h))
  where
    by_test : (b : Bool) → test x ≡ b → cond b (Some x) (find test held) ≡ Some pair
        → (find test held ≡ Some pair → (find (λ p. is_eq (nat_cmp p.0 pair.0)) held ≡ Some pair) × (test pair ≡ true))
        → (find (λ p. is_eq (nat_cmp p.0 pair.0)) (x ∷ held) ≡ Some pair) × (test pair ≡ true)
    by_test true t e more =
        let same : x ≡ pair = cc in (
          subst (λ (p : ℕ × Packet). find (λ q. is_eq (nat_cmp q.0 p.0)) (x ∷ held) ≡ Some p) same (cond-true (is_eq (nat_cmp x.0 x.0)) (Some x) _ (ap is_eq (tied_itself nat_cmp_total x.0))),
          subst (λ (p : ℕ × Packet). test p ≡ true) same t,
        )
    by_test false t e more =
        let rest = more e in
        (cond-false (is_eq (nat_cmp x.0 pair.0)) (Some x) _ (apart rest.0) ∙ rest.0, rest.1)
      where
        apart : find (λ p. is_eq (nat_cmp p.0 pair.0)) held ≡ Some pair → is_eq (nat_cmp x.0 pair.0) ≡ false
        apart found = elim (cases_Bool (is_eq (nat_cmp x.0 pair.0))) [
          | inl tie ↦
              let same : x.0 ≡ pair.0 = eqb-true x.0 pair.0 (nat_tie x.0 pair.0 ∙ tie) in
              let below : Below (λ (p : ℕ × Packet). p.0) nat_cmp_total x.0 held = below_from (λ p. p.0) nat_cmp_total x.0 held h in
              let none = subst (λ n. find (λ (p : ℕ × Packet). is_eq (nat_cmp p.0 n)) held ≡ None) same (item_at-below (λ p. p.0) nat_cmp_total x.0 held below) in
              let clash = sym found ∙ none in cc
          | inr differ ↦ differ
        ]

-- the holder holds a packet with the place
pub holder_of-holds : (part : PartValue) (place : Place) (number : ℕ) → IsPart part → holder_of part place ≡ Some number
    → (packet : Packet) × (packet_at part.held number ≡ Some packet) × (has_place packet.stamp place ≡ true)
unfolding holder_of
holder_of-holds part place number facts h = by_found (find (λ pair. has_place pair.1.stamp place) part.held) refl h
  where
    by_found : (found : Option (ℕ × Packet)) → find (λ pair. has_place pair.1.stamp place) part.held ≡ found → option_map (λ (pair : ℕ × Packet). pair.0) found ≡ Some number
        → (packet : Packet) × (packet_at part.held number ≡ Some packet) × (has_place packet.stamp place ≡ true)
    by_found None e h = cc
    by_found (Some pair) e h =
        let parts = found_item (λ p. has_place p.1.stamp place) part.held pair facts.held.ascend e in
        let same : pair.0 ≡ number = cc in
        (pair.1, subst (λ n. packet_at part.held n ≡ Some pair.1) same (packet_at-item_at part.held pair.0 ∙ ap (option_map (λ (p : ℕ × Packet). p.1)) parts.0), parts.1)

-- no item with a lower number passes the test
least_item : (test : ℕ × Packet → Bool) (held : List (ℕ × Packet)) (number : ℕ) (packet : Packet) → numbers_ascend held ≡ true
    → packet_at held number ≡ Some packet → test (number, packet) ≡ true → (pair : ℕ × Packet) × (find test held ≡ Some pair) × (pair.0 ≤ number)
unfolding packet_at
least_item test [] number packet h e t = cc
least_item test (x ∷ held) number packet h e t =
    by_test (test x) refl (x.0 == number) refl e (λ e. least_item test held number packet (ascends_tail (λ p. p.0) nat_cmp_total x held h) e t)
  where
    no_lower : option_map (λ (p : ℕ × Packet). p.1) (find (λ p. p.0 == number) held) ≡ Some packet → x.0 ≤ number
    no_lower e = elim (cases_lt number x.0) [
      | inl lt ↦
          let less : nat_cmp number x.0 ≡ Less = cond-true _ Less _ (lt-ltb number x.0 lt) in
          let below : Below (λ (p : ℕ × Packet). p.0) nat_cmp_total x.0 held = below_from (λ p. p.0) nat_cmp_total x.0 held h in
          let none = item_at-below (λ p. p.0) nat_cmp_total number held (below_lower (λ p. p.0) nat_cmp_total number x.0 held less below) in
          let clash = sym e ∙ ap (option_map (λ (p : ℕ × Packet). p.1)) (sym (item_at-find held number) ∙ none) in cc
      | inr le ↦ le
    ]

    by_test : (b : Bool) → test x ≡ b → (c : Bool) → x.0 == number ≡ c
        → option_map (λ (p : ℕ × Packet). p.1) (cond c (Some x) (find (λ p. p.0 == number) held)) ≡ Some packet
        → (packet_at held number ≡ Some packet → (pair : ℕ × Packet) × (find test held ≡ Some pair) × (pair.0 ≤ number))
        → (pair : ℕ × Packet) × (cond b (Some x) (find test held) ≡ Some pair) × (pair.0 ≤ number)
    by_test true f true g e more = let same : x.0 ≡ number = eqb-true _ _ g in (x, refl, omega arith)
    by_test true f false g e more = (x, refl, no_lower e)
    by_test false f true g e more =
        let same : x.0 ≡ number = eqb-true _ _ g in
        let packets : x.1 ≡ packet = cc in
        let passes = subst (λ (p : ℕ × Packet). test p ≡ true) (λ i. (sym same i, sym packets i)) t in cc
    by_test false f false g e more = more e

-- no lower number holds a packet with the place
pub holder_of-least : (part : PartValue) (place : Place) (number : ℕ) (packet : Packet) → IsPart part → packet_at part.held number ≡ Some packet → has_place packet.stamp place ≡ true
    → (least : ℕ) × (holder_of part place ≡ Some least) × (least ≤ number)
unfolding holder_of
holder_of-least part place number packet facts h has =
    let found = least_item (λ pair. has_place pair.1.stamp place) part.held number packet facts.held.ascend h has in
    (found.0.0, ap (option_map (λ (pair : ℕ × Packet). pair.0)) found.1, found.2)

-- where there is no holder, no held packet has the place
pub holder_of-none : (part : PartValue) (place : Place) (number : ℕ) (packet : Packet) → IsPart part → holder_of part place ≡ None → packet_at part.held number ≡ Some packet → has_place packet.stamp place ≡ false
holder_of-none part place number packet facts none h = elim (cases_Bool (has_place packet.stamp place)) [
  | inl has ↦ let least = holder_of-least part place number packet facts h has in let clash = sym none ∙ least.1 in cc
  | inr without ↦ without
]

-- ---- what a part that has all that another has keeps
own_place-within : (some all : PartValue) (number : ℕ) → IsWithin some all → own_place all number ≡ own_place some number
own_place-within some all number within = λ i. record { epoch = within.epoch i; shard = within.shard i; number = number }

-- what is dropped stays dropped
pub is_dropped-within : (some all : PartValue) (number : ℕ) → IsWithin some all → is_dropped some number ≡ true → is_dropped all number ≡ true
unfolding is_dropped
is_dropped-within some all number within h = elim (or_cases (contains_place some.perm (own_place some number)) (is_held_and (λ packet. is_lost some packet) (packet_at some.held number)) h) [
  | inl dropped ↦
      or_left _ _ (ap (contains_place all.perm) (own_place-within some all number within) ∙ within.perm.at (own_place some number) dropped)
  | inr lost ↦
      let found = held_some (λ packet. is_lost some packet) (packet_at some.held number) lost in
      or_right (contains_place all.perm (own_place all number)) _
      (held_and-from (λ packet. is_lost all packet) (packet_at all.held number) found.0 (within.held.at number found.0 found.1) (any_among-within some.perm all.perm found.0.stamp within.perm found.2))
]

-- what is covered stays covered
pub is_covered-within : (some all : PartValue) (number : ℕ) → IsWithin some all → is_covered some number ≡ true → is_covered all number ≡ true
unfolding is_covered
is_covered-within some all number within h = elim (or_cases (is_some (packet_at some.held number)) (contains_place some.perm (own_place some number)) h) [
  | inl held ↦ or_left _ _ (still (packet_at some.held number) held refl)
  | inr dropped ↦
      or_right (is_some (packet_at all.held number)) _
      (ap (contains_place all.perm) (own_place-within some all number within) ∙ within.perm.at (own_place some number) dropped)
]
  where
    still : (found : Option Packet) → is_some found ≡ true → packet_at some.held number ≡ found → is_some (packet_at all.held number) ≡ true
    still None h e = cc
    still (Some packet) h e = ap is_some (within.held.at number packet e)

pub covers-within : (some all : PartValue) (number : ℕ) → IsWithin some all → covers some number ≡ true → covers all number ≡ true
covers-within some all number within h =
    covers-from all number (λ n low high. is_covered-within some all n within (covers-at some number n h low high))
