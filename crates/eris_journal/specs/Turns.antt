-- The rule of a journal: one word, the turn, which is 0 where it is free, and one slot, the book's.
-- It speaks of a node only by its part of the book. `legal` says which books are, `grows` which
-- book goes on from which, `part` what a book has of a node, and `stuck` which books have a refused
-- entry.
use Rattle.std.specs.Prelude.{◌≡◌, ◌≢◌, ◌||◌, ℕ, Bool, true, false, ◌+◌, ◌<◌, ◌≤◌, List, [], ◌∷◌, length, Option as RustOption, Some, None}
use mathlib.Core.Option.{Option, none, some}
use lib.ListN.{get_elem?}
use Rattle.atomic_table.specs.Table.{State, Me, Step}
use Rattle.eris_journal.specs.Lists.{Has}
use Rattle.eris_journal.specs.declared.views.Joined.{Joined}
use Rattle.eris_journal.specs.declared.views.Known.{Known}
use Rattle.eris_journal.specs.declared.views.View.{View}
use Rattle.eris_journal.specs.declared.views.View.TheVariants.{Spent, Hand, Free, Holding}

-- where the book is: in its slot where the turn is free, and out with the seat that has the turn
abbrev pub Placed : {L : Type 0} → List ℕ → List (Option (RustOption L)) → L → Option ℕ → Type 0
Placed words homes book none = (words ≡ 0 ∷ []) × (homes ≡ some (Some book) ∷ [])
Placed words homes book (some holder) = (words ≡ 1 ∷ []) × (homes ≡ none ∷ [])

module _ {L X : Type 0} where
  abbrev pub hand_view : ℕ → List (Joined X) → L → View L X
  hand_view count kept start = Hand count kept start

  abbrev pub free_view : Known L X → View L X
  free_view known = Free known

  abbrev pub holding_view : Known L X → L → View L X
  holding_view known book = Holding known book

  abbrev pub spent : View L X
  spent = Spent

  -- what a seat knows once it took the turn and found this book
  abbrev pub noting : Known L X → L → Known L X
  noting known book = record known { noted = Some book; turns = known.turns + 1 }

  abbrev pub held_view : View L X → L → View L X
  held_view (Free known) book = Holding (noting known book) book
  held_view view book = view

  -- what a seat knows once it put this book back
  abbrev pub freed : (L → ℕ → X) → Bool → Known L X → L → Known L X
  freed part full known book = record known { part = part book known.node; full = known.full || full }

  abbrev pub freed_view : (L → ℕ → X) → Bool → View L X → L → View L X
  freed_view part full (Holding known found) book = Free (freed part full known book)
  freed_view part full view book = view

  -- a new seat
  abbrev pub newcomer : (L → ℕ → X) → ℕ → L → Known L X
  newcomer part node start = record { node = node; part = part start node; full = false; turns = 0; noted = None; start = start }

  abbrev pub hand_after : View L X → View L X
  hand_after (Hand count kept start) = Hand (count + 1) kept start
  hand_after view = view

  abbrev pub seat_after : (L → ℕ → X) → View L X → View L X
  seat_after part (Hand count kept start) = Free (newcomer part count start)
  seat_after part view = Spent

  abbrev pub left_by : Known L X → Joined X
  left_by known = record { node = known.node; part = known.part; full = known.full }

  abbrev pub hand_with : View L X → View L X → View L X
  hand_with (Hand count kept start) (Free known) = Hand count (left_by known ∷ kept) start
  hand_with view other = view

  module _ (legal : L → Type 0) (grows : L → L → Type 0) (part : L → ℕ → X) (stuck : L → Type 0) where
    -- what the rule says of one seat: `seat_of` has the seat of each node that has one, `hand` is
    -- the hand's seat, and `holder` the seat that has the turn
    module _ (start : L) (book : L) (seat_of : ℕ → Option ℕ) (hand : ℕ) (holder : Option ℕ) (id : ℕ) where
      abbrev pub Fits : Known L X → Type 0
      Fits known = (seat_of known.node ≡ some id) × (known.part ≡ part book known.node) × (known.full ≡ true → stuck book) × (known.start ≡ start)

      abbrev pub KeptFits : ℕ → Joined X → Type 0
      KeptFits count x = (x.node < count) × (seat_of x.node ≡ none) × (x.part ≡ part book x.node) × (x.full ≡ true → stuck book)

      abbrev pub Knows : View L X → Type 0
      Knows Spent = Unit {0}
      Knows (Hand count kept first) =
          (id ≡ hand) × (first ≡ start)
          × ((node : ℕ) → count ≤ node → (seat_of node ≡ none) × (part book node ≡ part start node))
          × ((x : Joined X) → Has kept x → KeptFits count x)
      Knows (Free known) = Fits known × (holder ≢ some id)
      Knows (Holding known found) = Fits known × (holder ≡ some id) × (found ≡ book)

    -- what the rule says of all seats
    pub record Seats (start : L) (views : List (View L X)) (book : L) (seat_of : ℕ → Option ℕ) (hand : ℕ) (holder : Option ℕ) : Type 0 where
      pub is_legal : legal book
      pub grown : grows start book
      pub has_node : (id : ℕ) → holder ≡ some id → (node : ℕ) × (seat_of node ≡ some id)
      pub seated : (node id : ℕ) → seat_of node ≡ some id → id < length views
      pub each : (id : ℕ) (view : View L X) → get_elem? views id ≡ some view → Knows start book seat_of hand holder id view

    -- the rule
    pub record Ruled (start : L) (s : State (RustOption L) (View L X)) : Type 0 where
      pub book : L
      pub seat_of : ℕ → Option ℕ
      pub hand : ℕ
      pub holder : Option ℕ
      pub placed : Placed s.words s.homes book holder
      pub seats : Seats start s.views book seat_of hand holder

    -- what the book that is found at the turn tells the seat
    abbrev pub Tells : Known L X → L → Type 0
    Tells known book = legal book × (known.part ≡ part book known.node) × (known.full ≡ true → stuck book) × grows known.start book

    abbrev pub TellsView : View L X → L → Type 0
    TellsView (Free known) book = Tells known book
    TellsView view book = Unit {0}

    -- where the turn was free the seat has it, and the book; else nothing changed
    abbrev pub Taken : Step (RustOption L) → Me (RustOption L) (View L X) → ℕ → Me (RustOption L) (View L X) → Type 0
    Taken step me found after =
        (found ≡ 0 → (book : L) × (after ≡ (held_view me.0 book, (0, Some book) ∷ me.1)) × TellsView me.0 book)
        × (found ≢ 0 → after ≡ me)

    -- what a seat that has the turn owes of the book that it puts back
    abbrev pub MayGive : Bool → Known L X → L → L → Type 0
    MayGive full known found book =
        legal book × grows found book × ((node : ℕ) → node ≢ known.node → part book node ≡ part found node) × (full ≡ true → stuck book)

    -- what holds of the closed book, where each seat that was split was joined
    pub record Ends (count : ℕ) (kept : List (Joined X)) (start : L) (book : L) : Type 0 where
      pub is_legal : legal book
      pub grown : grows start book
      pub seats : (x : Joined X) → Has kept x → (x.part ≡ part book x.node) × (x.full ≡ true → stuck book)
      pub others : (node : ℕ) → count ≤ node → part book node ≡ part start node

  -- the seat knows what the book that it put back has of its node
  abbrev pub Released : (L → ℕ → X) → Bool → Step (RustOption L) → Me (RustOption L) (View L X) → ℕ → Me (RustOption L) (View L X) → Type 0
  Released part full step me found after = (book : L) → me.1 ≡ (0, Some book) ∷ [] → after ≡ (freed_view part full me.0 book, [])
