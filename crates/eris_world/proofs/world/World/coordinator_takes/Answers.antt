use Rattle.std.proofs.Common.{◌≡◌, false, ap, ◌∙◌}
use Rattle.eris_network.specs.Networks.{NetworkValue}
use Rattle.eris_world.specs.contracts.world.World.{the_view}
use Rattle.eris_world.specs.WorldValues.{WorldValue}
use Rattle.eris_rules.specs.Coordinators.{coord_step}
use Rattle.eris_world.proofs.Steps.{coordinator_err, coordinator_ok}
use Rattle.eris_world.proofs.world.World.coordinator_takes.Goals as goal

pub returns-in-Err-send-clause-err : goal.returns-in-Err-send-clause-err
returns-in-Err-send-clause-err c =
    let unspent : c.self.inside.spent ≡ false = ap (λ (v : WorldValue). v.spent) c.self.view_is ∙ c.requires.unspent in
    let whole = c.self.invariant unspent in
    coordinator_err (the_view c.self.inside) c.args.self.now c.self.view_is c.args.input c.step.new.self.state c.in-Ok.sends c.as_slice.result.now c.in-Err-send.fault
    (c.in-Ok.ensures.ok ∙ ap (λ z. coord_step z c.self.inside.coordinator.state c.args.input) whole.of_coordinator.of_config) c.as_slice.ensures c.in-Err-send.ensures.err

pub returns-clause-ok : goal.returns-clause-ok
returns-clause-ok c =
    let unspent : c.self.inside.spent ≡ false = ap (λ (v : WorldValue). v.spent) c.self.view_is ∙ c.requires.unspent in
    let whole = c.self.invariant unspent in
    coordinator_ok (the_view c.self.inside) c.args.self.now c.self.view_is c.args.input c.step.new.self.state c.in-Ok.sends c.as_slice.result.now c.send.new.self.sent c.send.new.self.waiting c.requires.unspent
    (c.in-Ok.ensures.ok ∙ ap (λ z. coord_step z c.self.inside.coordinator.state c.args.input) whole.of_coordinator.of_config) c.as_slice.ensures
    (ap (λ (n : NetworkValue). n.sent) c.in-Ok-send.ensures.ok) (ap (λ (n : NetworkValue). n.waiting) c.in-Ok-send.ensures.ok) c.in-Ok-send.ensures.room
