-- The coordinator after a list of inputs.
use Rattle.std.specs.Prelude.{List, [], ◌∷◌}
use Rattle.eris_base.specs.ConfigLimits.{ConfigValue}
use Rattle.eris_rules.specs.declared.coord_input.CoordInput.{CoordInput}
use Rattle.eris_rules.specs.CoordStates.{CoordState, first_coordinator}
use Rattle.eris_rules.specs.Coordinators.{coord_step}

-- one input after another, from a state on
abbrev pub coord_from : ConfigValue → CoordState → List CoordInput → CoordState
coord_from config state [] = state
coord_from config state (input ∷ inputs) = coord_from config (coord_step config state input).state inputs

-- from the start
abbrev pub coord_after : ConfigValue → List CoordInput → CoordState
coord_after config inputs = coord_from config first_coordinator inputs
