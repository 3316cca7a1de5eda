-- What the coordinator is, within one epoch and over all of them.
use Rattle.std.specs.Prelude.{List, [], nat_lt, Bool}
use Rattle.eris_base.specs.declared.ids.Epoch.{Epoch}
use Rattle.eris_base.specs.declared.ids.Place.{Place}
use Rattle.eris_txn.specs.declared.packet.Packet.{Packet}
use Rattle.eris_drop.specs.declared.drop_note.DropNote.{DropNote}
use Rattle.eris_epoch.specs.declared.noted.NotedPart.{NotedPart}
use Rattle.eris_msg.specs.declared.outgoing.Outgoing.{Outgoing}
use Rattle.eris_rules.specs.EpochMessages.{EpochSend}

-- The coordinator's state within one epoch: the places that it asks for, ascending; the notes of temporary
-- drops of these; the packets that it found, in that order; and the places that it dropped for good,
-- ascending. A place is in at most one of asked and dropped, and no place of a found packet is in either.
pub record EpochCoord : Type 0 where
  pub asked : List Place
  pub notes : List DropNote
  pub found : List Packet
  pub dropped : List Place

pub record EpochCoordOut : Type 0 where
  pub state : EpochCoord
  pub sends : List EpochSend

-- The coordinator's state over all epochs: the current one, the one that it is on its way to, the packets of
-- the closed epochs in order of epochs, the parts that it noted on its way, and its state within the current
-- epoch.
pub record CoordState : Type 0 where
  pub current : Epoch
  pub target : Epoch
  pub closed : List Packet
  pub noted : List NotedPart
  pub inner : EpochCoord

pub record CoordOut : Type 0 where
  pub state : CoordState
  pub sends : List Outgoing

-- nothing is sent
abbrev pub unmoved : EpochCoord → EpochCoordOut
unmoved state = record { state = state; sends = [] }

-- nothing is asked, found or dropped
unfoldable pub nothing_asked : EpochCoord
nothing_asked = record { asked = []; notes = []; found = []; dropped = [] }

-- in an epoch of which nothing was asked yet, after these closed packets
unfoldable pub begun_epoch : Epoch → List Packet → CoordState
begun_epoch epoch closed = record { current = epoch; target = epoch; closed = closed; noted = []; inner = nothing_asked }

unfoldable pub first_coordinator : CoordState
first_coordinator = begun_epoch (record { 0 = 0 }) []

-- it is on its way to a higher epoch, and decides nothing in the current one
abbrev pub is_frozen : CoordState → Bool
is_frozen state = nat_lt state.current.0 state.target.0
