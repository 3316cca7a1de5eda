-- The seats of a journal's nodes.
use Rattle.std.specs.Prelude.{◌≡◌, ℕ, ◌<◌, List, slice_index_or}
use Rattle.eris_journal.specs.Seats.{JournalValue, SeatValue, IsSeatOf}

module _ {L E : Type 0} where
  -- the journal's seat of this node
  abbrev pub IsSeatAt : JournalValue L → ℕ → SeatValue L E → Type 0
  IsSeatAt journal node seat = IsSeatOf journal seat × (seat.node ≡ node)

  -- each of the first seats is the journal's, of the node of its place
  abbrev pub AreSeats : JournalValue L → ℕ → List (SeatValue L E) → Type 0
  AreSeats journal count seats = (i : ℕ) (d : SeatValue L E) → i < count → IsSeatAt journal i (slice_index_or seats i d)
