-- THE RUN of a list of events.
use Rattle.std.specs.Prelude.{Option, Some, None, List, [], ◌∷◌}
use Rattle.eris_base.specs.ConfigLimits.{ConfigValue}
use Rattle.eris_event.specs.declared.event.Event.{Event}
use Rattle.eris_event.specs.declared.refusal.Refusal.{Refusal}
use Rattle.eris_rules.specs.Happenings.{happens}
use Rattle.eris_rules.specs.Refusals.{refusal}
use Rattle.eris_rules.specs.Worlds.{WorldState, first_world}

abbrev pub taken_by : WorldState → Option Refusal → Option WorldState
taken_by after None = Some after
taken_by after (Some cause) = None

-- THE WORLD AFTER AN EVENT, if it isn't refused
unfoldable pub world_after : ConfigValue → WorldState → Event → Option WorldState
world_after config world event = taken_by (happens config world event) (refusal config world event)

-- one event after another; there is no world exactly where one of them is refused
unfoldable pub run_from : ConfigValue → Option WorldState → List Event → Option WorldState
run_from config None events = None
run_from config (Some world) [] = Some world
run_from config (Some world) (event ∷ events) = run_from config (world_after config world event) events

-- from the start
unfoldable pub run : ConfigValue → List Event → Option WorldState
run config events = run_from config (Some (first_world config)) events
