-- What the answers of a turn say, by the book that was found there.
use Rattle.std.specs.Prelude.{◌≡◌, ◌+◌, ℕ, true, List, [], ◌∷◌, ◌++◌, Option, None, Some, slice_get}
use Rattle.eris_journal.specs.Packets.{Packet, sent, pending}
use Rattle.eris_journal.specs.Parts.{Refused, Grows, part_of}
use Rattle.eris_journal.specs.Seats.{JournalValue, SeatValue, IsSeatOf}
use Rattle.eris_journal.specs.declared.add_fault.AddFault.{AddFault}
use Rattle.eris_journal.specs.declared.add_fault.AddFault.TheVariants.{NoMemory}
use Rattle.eris_journal.specs.declared.fetched.Fetched.{Fetched}

module _ {L E : Type 0} (entries : L → List (ℕ × E)) (fetches : L → List (ℕ × Fetched)) (refused : L → Option (Refused E)) where
  -- the turn was taken once. There is a noted book, and it is legal, goes on from the start book,
  -- and has of the node just what the seat knew as the call began.
  abbrev pub TookTurn : (L → Type 0) → JournalValue L → SeatValue L E → SeatValue L E → Type 0
  TookTurn legal journal old new =
      IsSeatOf journal new
      × (new.node ≡ old.node)
      × (new.turns ≡ old.turns + 1)
      × ((book : L) × (new.noted ≡ Some book) × legal book × Grows entries fetches refused journal.start book × (part_of entries fetches refused book old.node ≡ old.part))

  module _ (sends : E → List Packet) where
    -- in the noted book nothing was pending for the node; or this packet was, with its bytes, and
    -- is the seat's last
    abbrev pub GivesFetched : SeatValue L E → SeatValue L E → Option Fetched → Type 0
    GivesFetched old new None =
        (new.part.fetches ≡ old.part.fetches)
        × ((book : L) × (new.noted ≡ Some book) × (pending sends (entries book) (fetches book) old.node ≡ None))
    GivesFetched old new (Some packet) =
        (new.part.fetches ≡ old.part.fetches ++ packet ∷ [])
        × ((book : L) × (new.noted ≡ Some book) × (pending sends (entries book) (fetches book) old.node ≡ Some packet.number)
        × (slice_get (sent sends (entries book)) packet.number ≡ Some (old.node, packet.message)))

  module _ (limit : L → ℕ → E → Option AddFault) where
    -- the noted book had no refused entry, and no limit stood in the entry's way
    abbrev pub WasFree : SeatValue L E → E → Type 0
    WasFree new entry = (book : L) × (new.noted ≡ Some book) × (refused book ≡ None) × (limit book new.node entry ≡ None)

    -- the cause by the noted book: that of its refused entry; else its limit, and the seat keeps
    -- the entry and the cause
    abbrev pub RefusedBy : Option (Refused E) → L → SeatValue L E → SeatValue L E → E → AddFault → Type 0
    RefusedBy None book old new entry fault = (new.part.refused ≡ Some (entry, fault)) × (limit book old.node entry ≡ Some fault)
    RefusedBy (Some r) book old new entry fault = (new.part.refused ≡ old.part.refused) × (r.1.1 ≡ fault)

    abbrev pub WasRefused : SeatValue L E → SeatValue L E → E → AddFault → Type 0
    WasRefused old new entry NoMemory = (new.part.refused ≡ old.part.refused) × (new.full ≡ old.full)
    WasRefused old new entry fault =
        (new.full ≡ true) × ((book : L) × (new.noted ≡ Some book) × RefusedBy (refused book) book old new entry fault)
