use Rattle.std.proofs.Common.{ap, ◌∙◌}
use Rattle.eris_coord.proofs.Told.{asked_again}
use Rattle.eris_coord.proofs.state.State.ask_again.Goals as goal
use Rattle.eris_coord.specs.CoordinatorValues.{StateValue}

pub returns : goal.returns
returns c =
    asked_again c.args.self.now c.self.inside.config c.as_slice.result.now c.request_all.result
    (ap (λ (value : StateValue). value.config) c.self.view_is)
    (c.as_slice.ensures ∙ ap (λ (value : StateValue). value.state.inner.asked) c.self.view_is)
    c.request_all.ensures
