use Rattle.std.proofs.Common.{◌≡◌, false, ap, ◌∙◌}
use Rattle.eris_world.specs.contracts.world.World.{the_view}
use Rattle.eris_world.specs.WorldValues.{WorldValue}
use Rattle.eris_world.proofs.Steps.{noise_ok}
use Rattle.eris_world.proofs.world.World.coordinator_noise.Goals as goal

pub returns-clause-ok : goal.returns-clause-ok
returns-clause-ok c =
    let unspent : c.self.inside.spent ≡ false = ap (λ (v : WorldValue). v.spent) c.self.view_is ∙ c.requires.unspent in
    let whole = c.self.invariant unspent in
    noise_ok (the_view c.self.inside) c.args.self.now c.self.view_is (record (the_view c.self.inside).state { coordinator = c.receive.new.self.state }) c.requires.unspent
    (ap (λ z. record (the_view c.self.inside).state { coordinator = z }) (c.in-Ok.ensures.noise c.requires.noise).1) whole.of_network.room
