-- What contracts see of a journal, of its hand and of a seat.
use Rattle.std.specs.Prelude.{◌≡◌, ◌<◌, ℕ, Bool, false, List, [], Option, None, Some}
use Rattle.atomic_table.specs.Seated.{TableId}
use Rattle.eris_journal.specs.Lists.{Has}
use Rattle.eris_journal.specs.declared.views.Joined.{Joined}
use Rattle.eris_journal.specs.declared.views.Known.{Known}
use Rattle.eris_journal.specs.declared.views.Part.{Part}
use Rattle.eris_journal.specs.declared.views.View.{View}
use Rattle.eris_journal.specs.declared.views.View.TheVariants.{Hand, Free}

-- a journal: which one it is, and the book that it was started with
pub record JournalValue (L : Type 0) : Type 0 where
  pub table : TableId
  pub start : L

-- a seat: its journal, its node, what the book has of the node, whether an entry met a limit, how
-- often it took the turn, and the book that it found there last
pub record SeatValue (L E : Type 0) : Type 0 where
  pub table : TableId
  pub start : Option L
  pub node : ℕ
  pub part : Part E
  pub full : Bool
  pub turns : ℕ
  pub noted : Option L

-- the hand: its journal, how many nodes there are, how many seats were split, and what the joined
-- ones left
pub record HandValue (L E : Type 0) : Type 0 where
  pub table : TableId
  pub start : L
  pub nodes : ℕ
  pub count : ℕ
  pub kept : List (Joined (Part E))

module _ {L E : Type 0} where
  -- the seat is of this journal
  abbrev pub IsSeatOf : JournalValue L → SeatValue L E → Type 0
  IsSeatOf journal seat = (seat.table ≡ journal.table) × (seat.start ≡ Some journal.start)

  -- the hand is of this journal
  abbrev pub IsHandOf : JournalValue L → HandValue L E → Type 0
  IsHandOf journal hand = (hand.table ≡ journal.table) × (hand.start ≡ journal.start)

  -- what contracts see of a node's seat that knows this
  abbrev pub known_value : TableId → Known L (Part E) → SeatValue L E
  known_value table known = record {
    table = table;
    start = Some known.start;
    node = known.node;
    part = known.part;
    full = known.full;
    turns = known.turns;
    noted = known.noted;
  }

  abbrev pub start_in : View L (Part E) → Option L
  start_in (Free known) = Some known.start
  start_in view = None

  abbrev pub node_in : View L (Part E) → ℕ
  node_in (Free known) = known.node
  node_in view = 0

  abbrev pub part_in : View L (Part E) → Part E
  part_in (Free known) = known.part
  part_in view = record { entries = []; fetches = []; refused = None }

  abbrev pub full_in : View L (Part E) → Bool
  full_in (Free known) = known.full
  full_in view = false

  abbrev pub turns_in : View L (Part E) → ℕ
  turns_in (Free known) = known.turns
  turns_in view = 0

  abbrev pub noted_in : View L (Part E) → Option L
  noted_in (Free known) = known.noted
  noted_in view = None

  abbrev pub seat_value : TableId → View L (Part E) → SeatValue L E
  seat_value table view = record {
    table = table;
    start = start_in view;
    node = node_in view;
    part = part_in view;
    full = full_in view;
    turns = turns_in view;
    noted = noted_in view;
  }

  abbrev pub kept_by : View L (Part E) → List (Joined (Part E))
  kept_by (Hand count kept start) = kept
  kept_by view = []

  -- what a seat leaves with the hand
  abbrev pub left_by_seat : SeatValue L E → Joined (Part E)
  left_by_seat seat = record { node = seat.node; part = seat.part; full = seat.full }

  -- each seat that was split was joined
  abbrev pub AllJoined : HandValue L E → Type 0
  AllJoined hand = (node : ℕ) → node < hand.count → (x : Joined (Part E)) × Has hand.kept x × (x.node ≡ node)
