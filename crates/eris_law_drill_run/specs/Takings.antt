-- EVENTS THAT ARE TAKEN, one after another, but for the limits of what may be sent: these are no cause of theirs.
use Rattle.std.specs.Prelude.{◌≡◌, None, List, [], ◌∷◌, ⊤}
use Rattle.eris_base.specs.ConfigLimits.{ConfigValue}
use Rattle.eris_event.specs.declared.event.Event.{Event}
use Rattle.eris_rules.specs.Happenings.{happens}
use Rattle.eris_rules.specs.Refusals.{cause}
use Rattle.eris_rules.specs.Worlds.{WorldState}

-- the world after all events
abbrev pub after_all : ConfigValue → WorldState → List Event → WorldState
after_all config world [] = world
after_all config world (event ∷ events) = after_all config (happens config world event) events

-- no event has a cause to be refused where it comes
abbrev pub AreTaken : ConfigValue → WorldState → List Event → Type 0
AreTaken config world [] = ⊤
AreTaken config world (event ∷ events) = (cause config world event ≡ None) × AreTaken config (happens config world event) events
