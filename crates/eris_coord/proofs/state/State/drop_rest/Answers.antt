use Rattle.std.proofs.Common.{ap, ◌∙◌}
use Rattle.eris_coord.proofs.Told.{rest_dropped}
use Rattle.eris_coord.proofs.state.State.drop_rest.Goals as goal
use Rattle.eris_coord.specs.CoordinatorValues.{StateValue}

pub returns : goal.returns
returns c =
    rest_dropped c.args.self.now c.move_to_dropped.new.self c.args.packet.now c.self.inside.config c.as_slice.result.now c.drop_all.result
    (ap (λ (value : StateValue). value.config) c.self.view_is)
    (c.as_slice.ensures ∙ c.in_ok-had.ensures.had)
    c.in_ok-had.ensures.state
    c.drop_all.ensures
