-- A run by its moments. What an event does is said of every world, so there is a world after any number of
-- events, be they accepted or not; and what is shown of all moments holds in each accepted run.
use Rattle.std.specs.Prelude.{ℕ, zero, suc, Option, Some, None, List, slice_get}
use Rattle.eris_base.specs.ConfigLimits.{ConfigValue}
use Rattle.eris_event.specs.declared.event.Event.{Event}
use Rattle.eris_rules.specs.Happenings.{happens}
use Rattle.eris_rules.specs.Worlds.{WorldState, first_world}

-- past the end of the events nothing happens
abbrev pub perhaps : ConfigValue → WorldState → Option Event → WorldState
perhaps config world None = world
perhaps config world (Some event) = happens config world event

-- the world after the first so many events, from this one
unfoldable pub moment_from : ConfigValue → WorldState → List Event → ℕ → WorldState
moment_from config world events zero = world
moment_from config world events (suc number) = perhaps config (moment_from config world events number) (slice_get events number)

-- THE MOMENT of a run: the world after the first so many events
abbrev pub world_at : ConfigValue → List Event → ℕ → WorldState
world_at config events number = moment_from config (first_world config) events number
