use Rattle.std.proofs.Common.{subst}
use Rattle.eris_base.specs.ConfigLimits.{IsConfig}
use Rattle.eris_coord.proofs.Fits.{result_fits}
use Rattle.eris_coord.proofs.state.State.step.Goals as goal
use Rattle.eris_coord.specs.CoordinatorValues.{StateValue}

pub returns-clause-fits : goal.returns-clause-fits
returns-clause-fits c =
    result_fits c.args.self.now c.take_input.new.self c.args.input c.take_input.result
    (subst (λ (value : StateValue). IsConfig value.config) c.self.view_is c.shards-few_shards.ensures.fits)
    c.take_input.ensures
