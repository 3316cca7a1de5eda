-- What the rule says of the book at the end, and of each answer of a turn.
use Rattle.std.proofs.Common.{◌≡◌, ℕ, ◌<◌, ◌≤◌, List, refl, sym, ap, ◌∙◌, Some, lt_of_not-le}
use Rattle.std.specs.Prelude.{Option as RustOption}
use mathlib.Core.Option.{Option, some, none, some-ne-none}
use mathlib.Core.Logic.{dite}
use native.Mathlib.Decide.{dec_le}
use lib.ListN.{get_elem?}
use Rattle.atomic_table.specs.Table.{State, Final, Seen}
use Rattle.eris_journal.specs.Lists.{Has}
use Rattle.eris_journal.specs.Turns.{Placed, Knows, Seats, Ruled, Ends}
use Rattle.eris_journal.specs.declared.views.Joined.{Joined}
use Rattle.eris_journal.specs.declared.views.View.{View}
use Rattle.eris_journal.specs.declared.views.View.TheVariants.{Hand}

module _ {L X : Type 0} (legal : L → Type 0) (grows : L → L → Type 0) (part : L → ℕ → X) (stuck : L → Type 0) (start : L) where
  abbrev Rule : State (RustOption L) (View L X) → Type 0
  Rule = Ruled legal grows part stuck start

  abbrev Sees : L → (ℕ → Option ℕ) → ℕ → Option ℕ → ℕ → View L X → Type 0
  Sees = Knows legal grows part stuck start

  abbrev AreJoined : ℕ → List (Joined X) → Type 0
  AreJoined count kept = (node : ℕ) → node < count → (x : Joined X) × Has kept x × (x.node ≡ node)

  -- where each seat was joined, no node has a seat
  no_seat : (book : L) (seat_of : ℕ → Option ℕ) (hand : ℕ) (holder : Option ℕ) (id count : ℕ) (kept : List (Joined X)) (first : L) → AreJoined count kept
      → Sees book seat_of hand holder id (Hand count kept first) → (node : ℕ) → seat_of node ≡ none
  no_seat book seat_of hand holder id count kept first joined knows node = dite (dec_le count node)
      (λ (above : count ≤ node). (knows.2 node above).0)
      (λ (not : count ≤ node → ⊥). let one = joined node (lt_of_not-le not) in ap seat_of (sym one.2) ∙ (knows.3 one.0 one.1).1)

  -- so the book is in its slot
  at_home : (s : State (RustOption L) (View L X)) (book : L) (seat_of : ℕ → Option ℕ) (hand : ℕ) (holder : Option ℕ) → Placed s.words s.homes book holder
      → Seats legal grows part stuck start s.views book seat_of hand holder → ((node : ℕ) → seat_of node ≡ none) → get_elem? s.homes 0 ≡ some (some (Some book))
  at_home s book seat_of hand none placed seats nobody = ap (λ (hs : List (Option (RustOption L))). get_elem? hs 0) placed.1
  at_home s book seat_of hand (some holder) placed seats nobody = let has = seats.has_node holder refl in absurd (some-ne-none holder (sym has.1 ∙ nobody has.0))

  -- where each seat was joined, the slot of the closed table has a book, and all that was joined
  -- holds of it
  pub closes : (id : ℕ) (view : View L X) (count : ℕ) (kept : List (Joined X)) (first : L) (ws : List ℕ) (xs : List (RustOption L)) → view ≡ Hand count kept first → AreJoined count kept
      → Final (Seen Rule id view) ws xs → (book : L) × (get_elem? xs 0 ≡ some (Some book)) × Ends legal grows part stuck count kept start book
  closes id view count kept first ws xs is joined final =
      let s = final.0 in
      let r : Rule s = final.1.0 in
      let knows : Sees r.book r.seat_of r.hand r.holder id (Hand count kept first) = r.seats.each id (Hand count kept first) (final.1.1 ∙ ap some is) in (
        r.book,
        final.4 0 (Some r.book) (at_home s r.book r.seat_of r.hand r.holder r.placed r.seats (no_seat r.book r.seat_of r.hand r.holder id count kept first joined knows)),
        record {
          is_legal = r.seats.is_legal;
          grown = r.seats.grown;
          seats = λ x has. let k = knows.3 x has in (k.2, k.3);
          others = λ node above. (knows.2 node above).1;
        },
      )
