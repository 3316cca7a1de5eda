use Rattle.std.proofs.Common.{◌≡◌, false, None, ap, subst, ◌∙◌}
use Rattle.eris_world.specs.WorldValues.{WorldValue}
use Rattle.eris_rules.specs.Refusals.{limit_met}
use Rattle.eris_world.proofs.world.World.stand.Goals as goal

pub returns : goal.returns
returns c =
    let unspent : c.self.inside.spent ≡ false = ap (λ (v : WorldValue). v.spent) c.self.view_is ∙ c.requires in
    let whole = c.self.invariant unspent in
    subst (λ (v : WorldValue). limit_met v.state.sent ≡ None) c.self.view_is whole.of_network.room
