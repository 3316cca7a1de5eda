use Rattle.std.proofs.Common.{◌≡◌, false, ap, refl, ◌∙◌}
use Rattle.eris_world.specs.contracts.world.World.{the_view}
use Rattle.eris_world.specs.WorldValues.{WorldValue}
use Rattle.eris_world.proofs.Steps.{noise_ok, stays_so}
use Rattle.eris_world.proofs.world.World.replica_noise.Goals as goal

pub returns-then-has_crashed-clause-ok : goal.returns-then-has_crashed-clause-ok
returns-then-has_crashed-clause-ok c = stays_so c.args.self.now c.args.self.now.state refl c.stand.ensures

pub returns-clause-ok : goal.returns-clause-ok
returns-clause-ok c =
    let unspent : c.self.inside.spent ≡ false = ap (λ (v : WorldValue). v.spent) c.self.view_is ∙ c.requires.unspent in
    let whole = c.self.invariant unspent in
    noise_ok (the_view c.self.inside) c.args.self.now c.self.view_is (record (the_view c.self.inside).state { replicas = c.receive.new.self.rows }) c.requires.unspent
    (ap (λ z. record (the_view c.self.inside).state { replicas = z }) (c.in-Ok.ensures.noise c.requires.noise).1) whole.of_network.room
