-- A walk over a part from number to number.
use Rattle.std.proofs.Common.{◌≡◌, ◌≤◌, ◌<◌, ◌+◌, ℕ, get_or, Bool, true, false, not, ◌&&◌, ◌||◌, nat_lt, cond, Option, Some, None, is_some, List, [], ◌∷◌, drop, length, refl, ap, sym, ◌∙◌, arith}
use Rattle.std.proofs.lemmas.Bool.{and_parts, cond-true, cond-false, ltb-true, lt-ltb}
use Rattle.std.proofs.lemmas.Bool.Decides.{nat_tests}
use Rattle.std.proofs.lemmas.Cmp.{nat_cmp_total, tied_itself}
use Rattle.std.specs.Option.{option_map}
use Rattle.std.specs.Ordering.{nat_cmp, ordering_then, is_lt, is_eq}
use Rattle.std.specs.declared.cmp.Ordering.{Ordering}
use Rattle.std.specs.declared.cmp.Ordering.TheVariants.{Less, Equal, Greater}
use Rattle.eris_base.specs.declared.ids.Epoch.{Epoch}
use Rattle.eris_base.specs.declared.ids.Place.{Place}
use Rattle.eris_base.specs.declared.ids.ShardId.{ShardId}
use Rattle.eris_txn.specs.declared.packet.Packet.{Packet}
use Rattle.eris_log.specs.Entries.{own_place, is_lost, is_clear, is_held_and, is_dropped, is_txn, is_gap, is_gap_by, length_of}
use Rattle.eris_log.specs.Held.{count_from_one, packet_at}
use Rattle.eris_log.specs.PartFacts.{IsPart}
use Rattle.eris_log.specs.PartValues.{PartValue}
use Rattle.eris_log.specs.Places.{place_cmp, contains_place}
use Rattle.eris_log.specs.Sorted.{items_from, head_at, item_at}
use Rattle.eris_log.specs.Laws.Entries.{NoGap, NoGap-none, NoGap-more, length_of-unique}
use Rattle.eris_log.specs.Laws.Held.{packet_at-item_at}
use Rattle.eris_log.specs.Laws.Places.{place_cmp-total, contains_place-item_at}
use Rattle.eris_log.specs.Laws.Sorted.{IsNext, head_at-items_from, items_from-next}

-- ---- one number comes right behind another, and so do their places
nat_close : (a n : ℕ) → nat_cmp a (n + 1) ≡ Less → is_lt (nat_cmp a n) ≡ false → nat_cmp a n ≡ Equal
nat_close a n less not_less = grind (arith, nat_tests)

number-next : (n : ℕ) → IsNext (λ (pair : ℕ × Packet). pair.0) nat_cmp_total n (n + 1)
number-next n = record { above = cond-true (nat_lt n (n + 1)) Less _ (lt-ltb n (n + 1) (omega arith)); close = λ a less not_less. nat_close a n less not_less }

then_close : (o p q : Ordering) → ordering_then o q ≡ Less → is_lt (ordering_then o p) ≡ false → (q ≡ Less → is_lt p ≡ false → p ≡ Equal) → ordering_then o p ≡ Equal
then_close Less p q h k f = cc
then_close Equal p q h k f = f h k
then_close Greater p q h k f = cc

module _ (epoch : Epoch) (shard : ShardId) (n : ℕ) where
  abbrev here : Place
  here = record { epoch = epoch; shard = shard; number = n }

  abbrev there : Place
  there = record { epoch = epoch; shard = shard; number = n + 1 }

  place_above : place_cmp here there ≡ Less
  place_above =
      ap (λ o. ordering_then o (ordering_then (nat_cmp shard.0 shard.0) (nat_cmp n (n + 1)))) (tied_itself nat_cmp_total epoch.0)
      ∙ ap (λ o. ordering_then o (nat_cmp n (n + 1))) (tied_itself nat_cmp_total shard.0)
      ∙ cond-true (nat_lt n (n + 1)) Less _ (lt-ltb n (n + 1) (omega arith))

  place_close : (a : Place) → place_cmp a there ≡ Less → is_lt (place_cmp a here) ≡ false → place_cmp a here ≡ Equal
  place_close a less not_less =
      then_close (nat_cmp a.epoch.0 epoch.0) _ _ less not_less
      (λ less not_less. then_close (nat_cmp a.shard.0 shard.0) _ _ less not_less (λ less not_less. nat_close a.number n less not_less))

  place-next : IsNext (λ (place : Place). place) place_cmp-total here there
  place-next = record { above = place_above; close = place_close }

-- ---- the first item of a slice
pub head_at-empty : {X K : Type 0} (key : X → K) (cmp : K → K → Ordering) (xs : List X) (k : K) → length xs < 1 → head_at key cmp xs k ≡ None
unfolding head_at
head_at-empty key cmp [] k lt = refl
head_at-empty key cmp (x ∷ xs) k lt = absurd (omega arith)

pub head_at-first : {X K : Type 0} (key : X → K) (cmp : K → K → Ordering) (xs : List X) (x : X) (k : K) → 0 < length xs → x ≡ get_or xs 0 x
    → head_at key cmp xs k ≡ cond (is_eq (cmp (key x) k)) (Some x) None
unfolding head_at
head_at-first key cmp [] x k lt is = absurd (omega arith)
head_at-first key cmp (y ∷ xs) x k lt is = rw is refl

pub head_at-at : {X K : Type 0} (key : X → K) (cmp : K → K → Ordering) (xs : List X) (d : X) (k : K) → 0 < length xs
    → head_at key cmp xs k ≡ cond (is_eq (cmp (key (get_or xs 0 d)) k)) (Some (get_or xs 0 d)) None
unfolding head_at
head_at-at key cmp [] d k lt = absurd (omega arith)
head_at-at key cmp (y ∷ xs) d k lt = refl

shorter : {X : Type 0} (b : Bool) (items : List X) → length (cond b (drop 1 items) items) ≤ length items
shorter true [] = omega arith
shorter false [] = omega arith
shorter true (x ∷ items) = omega arith
shorter false (x ∷ items) = omega arith

-- ---- the walk
-- where a walk stands: no gap up to the number, and of packets and dropped places those behind it are left
pub record IsWalk (part : PartValue) (number : ℕ) (packets : List (ℕ × Packet)) (drops : List Place) : Type 0 where
  pub whole : NoGap part number
  pub held : packets ≡ items_from (λ pair. pair.0) nat_cmp part.held (number + 1)
  pub dropped : drops ≡ items_from (λ place. place) place_cmp part.perm (own_place part (number + 1))

all_from_one : (held : List (ℕ × Packet)) → count_from_one held ≡ true → held ≡ items_from (λ pair. pair.0) nat_cmp held 1
unfolding items_from
all_from_one [] h = refl
all_from_one (pair ∷ held) h =
    let some = ltb-true 0 pair.0 (and_parts _ _ h).0 in
    sym (cond-false (is_lt (nat_cmp pair.0 1)) (items_from (λ p. p.0) nat_cmp held 1) (pair ∷ held) (not_below pair.0 some))
  where
    not_below : (n : ℕ) → 0 < n → is_lt (nat_cmp n 1) ≡ false
    not_below n lt = grind (arith, nat_tests)

pub IsWalk-same : (part : PartValue) (number : ℕ) (held others : List (ℕ × Packet)) (dropped more : List Place) → IsWalk part number held dropped → others ≡ held → more ≡ dropped → IsWalk part number others more
IsWalk-same part number held others dropped more walk e f = rw (e, f) walk

pub IsWalk-start : (part : PartValue) (dropped : List Place) → IsPart part → dropped ≡ items_from (λ place. place) place_cmp part.perm (own_place part 1) → IsWalk part 0 part.held dropped
IsWalk-start part dropped facts h = record { whole = NoGap-none part; held = all_from_one part.held facts.held.from_one; dropped = h }

module _ (part : PartValue) (number : ℕ) (held : List (ℕ × Packet)) (dropped : List Place) (facts : IsPart part) (walk : IsWalk part number held dropped) where
  -- the packet and the drop at the next number
  packet_first : packet_at part.held (number + 1) ≡ option_map (λ (pair : ℕ × Packet). pair.1) (head_at (λ pair. pair.0) nat_cmp held (number + 1))
  packet_first =
      packet_at-item_at part.held (number + 1)
      ∙ ap (option_map (λ (pair : ℕ × Packet). pair.1)) (sym (head_at-items_from (λ pair. pair.0) nat_cmp_total part.held (number + 1) facts.held.ascend))
      ∙ ap (λ items. option_map (λ (pair : ℕ × Packet). pair.1) (head_at (λ pair. pair.0) nat_cmp items (number + 1))) (sym walk.held)

  dropped_first : contains_place part.perm (own_place part (number + 1)) ≡ is_some (head_at (λ place. place) place_cmp dropped (own_place part (number + 1)))
  dropped_first =
      contains_place-item_at part.perm (own_place part (number + 1))
      ∙ ap is_some (sym (head_at-items_from (λ place. place) place_cmp-total part.perm (own_place part (number + 1)) facts.perm.ascend))
      ∙ ap (λ items. is_some (head_at (λ place. place) place_cmp items (own_place part (number + 1)))) (sym walk.dropped)

  -- what the next entry is
  pub is_gap-next : is_gap part (number + 1)
      ≡ is_gap_by part (is_some (head_at (λ place. place) place_cmp dropped (own_place part (number + 1)))) (option_map (λ (pair : ℕ × Packet). pair.1) (head_at (λ pair. pair.0) nat_cmp held (number + 1)))
  unfolding is_gap is_dropped is_txn
  is_gap-next =
      by_tests (contains_place part.perm (own_place part (number + 1))) (packet_at part.held (number + 1))
      ∙ ap (λ b. is_gap_by part b (packet_at part.held (number + 1))) dropped_first
      ∙ ap (λ found. is_gap_by part (is_some (head_at (λ place. place) place_cmp dropped (own_place part (number + 1)))) found) packet_first
    where
      two : (a b : Bool) → not (a || (not a && b)) ≡ (not a && not b)
      two true b = refl
      two false b = refl

      by_tests : (b : Bool) (found : Option Packet)
          → not ((b || is_held_and (λ packet. is_lost part packet) found) || is_held_and (λ packet. not (is_lost part packet) && is_clear part packet) found) ≡ is_gap_by part b found
      by_tests true found = refl
      by_tests false None = refl
      by_tests false (Some packet) = two (is_lost part packet) (is_clear part packet)

  -- the test that tells whether it is a gap
  pub tested : (b : Bool) (found : Option Packet) (r : Bool) → b ≡ is_some (head_at (λ place. place) place_cmp dropped (own_place part (number + 1)))
      → found ≡ option_map (λ (pair : ℕ × Packet). pair.1) (head_at (λ pair. pair.0) nat_cmp held (number + 1)) → r ≡ is_gap_by part b found → is_gap part (number + 1) ≡ r
  tested b found r e f g = is_gap-next ∙ sym (g ∙ ap (λ d. is_gap_by part d found) e ∙ ap (λ o. is_gap_by part (is_some (head_at (λ place. place) place_cmp dropped (own_place part (number + 1)))) o) f)

  -- at a gap the walk ends with the length
  pub walk_ends : is_gap part (number + 1) ≡ true → number ≡ length_of part
  walk_ends h = length_of-unique part number (record { whole = walk.whole.at; ends = h })

  -- else it goes on behind what stands at the next number
  pub walk_more : is_gap part (number + 1) ≡ false
      → IsWalk part (number + 1)
      (cond (is_some (head_at (λ (pair : ℕ × Packet). pair.0) nat_cmp held (number + 1))) (drop 1 held) held)
      (cond (is_some (head_at (λ (place : Place). place) place_cmp dropped (own_place part (number + 1)))) (drop 1 dropped) dropped)
  walk_more h = record {
    whole = NoGap-more part number walk.whole h;
    held = sym (rw (walk.held) (items_from-next (λ pair. pair.0) nat_cmp_total part.held (number + 1) (number + 1 + 1) facts.held.ascend (number-next (number + 1))));
    dropped = sym (rw (walk.dropped) (items_from-next (λ place. place) place_cmp-total part.perm (own_place part (number + 1)) (own_place part (number + 1 + 1)) facts.perm.ascend (place-next part.epoch part.shard (number + 1))));
  }

  some_front : {X K : Type 0} (key : X → K) (cmp : K → K → Ordering) (items : List X) (k : K) → is_some (head_at key cmp items k) ≡ true → length (drop 1 items) < length items
  unfolding head_at
  some_front key cmp [] k h = cc
  some_front key cmp (x ∷ items) k h = omega arith

  pub walk_shorter : is_gap part (number + 1) ≡ false
      → length (cond (is_some (head_at (λ (pair : ℕ × Packet). pair.0) nat_cmp held (number + 1))) (drop 1 held) held)
      + length (cond (is_some (head_at (λ (place : Place). place) place_cmp dropped (own_place part (number + 1)))) (drop 1 dropped) dropped)
      < length held + length dropped
  walk_shorter h =
      by_tests (is_some (head_at (λ place. place) place_cmp dropped (own_place part (number + 1)))) refl (head_at (λ pair. pair.0) nat_cmp held (number + 1)) refl (sym is_gap-next ∙ h)
    where
      by_tests : (b : Bool) → is_some (head_at (λ place. place) place_cmp dropped (own_place part (number + 1))) ≡ b
          → (found : Option (ℕ × Packet)) → head_at (λ pair. pair.0) nat_cmp held (number + 1) ≡ found
          → is_gap_by part b (option_map (λ (pair : ℕ × Packet). pair.1) found) ≡ false
          → length (cond (is_some found) (drop 1 held) held) + length (cond b (drop 1 dropped) dropped) < length held + length dropped
      by_tests true e found f g =
          omega (arith, some_front (λ place. place) place_cmp dropped (own_place part (number + 1)) e, shorter (is_some found) held)
      by_tests false e (Some pair) f g =
          omega (arith, some_front (λ (p : ℕ × Packet). p.0) nat_cmp held (number + 1) (ap is_some f))
      by_tests false e None f g = cc
