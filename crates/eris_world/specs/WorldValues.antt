-- What contracts see of a world.
use Rattle.std.specs.Prelude.{◌≡◌, ◌<◌, Bool, Some, ⊤, IsTrue, ◌||◌}
use Rattle.eris_base.specs.ConfigLimits.{ConfigValue}
use Rattle.eris_base.specs.Each.{Each}
use Rattle.eris_event.specs.declared.event.Event.{Event}
use Rattle.eris_event.specs.EventRanges.{fits_event}
use Rattle.eris_event.specs.declared.refusal.Refusal.{Refusal}
use Rattle.eris_event.specs.declared.refusal.Refusal.TheVariants as refusals
use Rattle.eris_rules.specs.ClientStates.{ClientState}
use Rattle.eris_rules.specs.Refusals.{refusal}
use Rattle.eris_rules.specs.Worlds.{WorldState}
use Rattle.eris_sequencer.specs.Sequencers.{newest_of}

pub record WorldValue : Type 0 where
  pub config : ConfigValue
  pub state : WorldState
  pub spent : Bool

-- an event in the ranges of a script's lines, of one version or the other
abbrev pub EventFits : Event → Type 0
EventFits event = IsTrue (fits_event 1 event || fits_event 2 event)

-- a client can count one more submission
abbrev pub HasRoom : ClientState → Type 0
HasRoom state = state.submitted < 4294967295

-- each client can, and one more sequencer can be counted
pub record CanGoOn (state : WorldState) : Type 0 where
  pub clients : Each HasRoom state.clients
  pub epochs : (newest_of state.stampings).0 < 4294967295

-- why an event is refused; want of memory has no cause in the rules
abbrev pub IsCause : ConfigValue → WorldState → Event → Refusal → Type 0
IsCause config state event refusals.NoMemory = ⊤
IsCause config state event cause = refusal config state event ≡ Some cause
