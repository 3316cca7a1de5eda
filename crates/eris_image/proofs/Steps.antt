-- A step at the end of a list of inputs.
use Rattle.std.proofs.Common.{◌≡◌, List, [], ◌∷◌, ◌++◌, refl}
use Rattle.eris_base.specs.ConfigLimits.{ConfigValue}
use Rattle.eris_rules.specs.declared.coord_input.CoordInput.{CoordInput}
use Rattle.eris_rules.specs.CoordStates.{CoordState, first_coordinator}
use Rattle.eris_rules.specs.Coordinators.{coord_step}
use Rattle.eris_image.specs.InputRuns.{coord_from, coord_after}

from-push : (config : ConfigValue) (state : CoordState) (inputs : List CoordInput) (input : CoordInput) → coord_from config state (inputs ++ input ∷ []) ≡ (coord_step config (coord_from config state inputs) input).state
from-push config state [] input = refl
from-push config state (i ∷ is) input = from-push config (coord_step config state i).state is input

pub after-push : (config : ConfigValue) (inputs : List CoordInput) (input : CoordInput) → coord_after config (inputs ++ input ∷ []) ≡ (coord_step config (coord_after config inputs) input).state
after-push config inputs input = from-push config first_coordinator inputs input
