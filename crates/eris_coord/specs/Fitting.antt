-- What the coordinator keeps stays in the messages' ranges, and so does what it sends.
use Rattle.std.specs.Prelude.{◌≡◌, true, map, ⊤}
use Rattle.eris_base.specs.Each.{Each}
use Rattle.eris_epoch.specs.declared.noted.NotedPart.{NotedPart}
use Rattle.eris_in_place.specs.MessageRanges.{PacketsFit, PlacesFit, SendsFit}
use Rattle.eris_codec.specs.Fields as f
use Rattle.eris_msg.specs.Spellings.{message_fits}
use Rattle.eris_rules.specs.declared.coord_input.CoordInput.{CoordInput}
use Rattle.eris_rules.specs.CoordStates.{EpochCoord, CoordState, CoordOut}

-- the packets that the part holds
abbrev pub HeldFits : NotedPart → Type 0
HeldFits one = PacketsFit (map (λ pair. pair.1) one.part.held)

pub record InnerFits (inner : EpochCoord) : Type 0 where
  pub asked : PlacesFit inner.asked
  pub found : PacketsFit inner.found

pub record StateFits (state : CoordState) : Type 0 where
  pub current : f.epoch.fits state.current ≡ true
  pub target : f.epoch.fits state.target ≡ true
  pub closed : PacketsFit state.closed
  pub noted : Each HeldFits state.noted
  pub inner : InnerFits state.inner

-- the message that comes in has a spelling
abbrev pub InputFits : CoordInput → Type 0
InputFits (CoordInput.Message message) = message_fits message ≡ true
InputFits CoordInput.Nudge = ⊤

pub record StepFits (out : CoordOut) : Type 0 where
  pub state : StateFits out.state
  pub sends : SendsFit out.sends
