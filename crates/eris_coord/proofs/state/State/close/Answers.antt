use Rattle.std.proofs.Common.{ap, ◌∙◌}
use Rattle.eris_coord.proofs.Told.{closed_started}
use Rattle.eris_coord.proofs.state.State.close.Goals as goal
use Rattle.eris_coord.specs.CoordinatorValues.{StateValue}

pub returns : goal.returns
returns c =
    closed_started c.args.self.now c.begin_target.new.self c.self.inside.config c.self.inside.current c.as_slice.result.now c.start_all.result
    (ap (λ (value : StateValue). value.config) c.self.view_is)
    (ap (λ (value : StateValue). value.state.current) c.self.view_is)
    (c.as_slice.ensures ∙ ap (λ (value : StateValue). value.state.closed) c.self.view_is)
    c.in_ok-begin_target.ensures
    c.start_all.ensures
