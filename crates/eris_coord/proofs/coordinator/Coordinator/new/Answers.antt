use Rattle.std.proofs.Common.{subst, sym}
use Rattle.eris_coord.proofs.Fits.{first_fits}
use Rattle.eris_coord.proofs.coordinator.Coordinator.new.Goals as goal
use Rattle.eris_coord.specs.CoordinatorValues.{StateValue}
use Rattle.eris_coord.specs.Fitting.{StateFits}

pub invariant_of-result : goal.invariant_of-result
invariant_of-result c = λ _. subst (λ (value : StateValue). StateFits value.state) (sym c.new.ensures) first_fits
