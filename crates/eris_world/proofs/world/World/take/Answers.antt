use Rattle.std.proofs.Common.{◌≡◌, false, ap, ◌∙◌}
use Rattle.eris_network.specs.Networks.{NetworkValue}
use Rattle.eris_world.specs.contracts.world.World.{the_view}
use Rattle.eris_world.specs.WorldValues.{WorldValue}
use Rattle.eris_world.proofs.Steps.{take_ok}
use Rattle.eris_world.proofs.world.World.take.Goals as goal

pub returns : goal.returns
returns c =
    let unspent : c.self.inside.spent ≡ false = ap (λ (v : WorldValue). v.spent) c.self.view_is ∙ c.requires.unspent in
    let whole = c.self.invariant unspent in
    take_ok (the_view c.self.inside) c.args.self.now c.self.view_is c.args.number c.take.new.self.sent c.take.new.self.waiting
    (ap (λ (n : NetworkValue). n.sent) c.take.ensures) (ap (λ (n : NetworkValue). n.waiting) c.take.ensures) whole.of_network.room
