use Rattle.std.proofs.Common.{◌≡◌, false, ap, ◌∙◌}
use Rattle.std.proofs.lemmas.Result.{IfOk-weaker}
use Rattle.std.specs.List.{filter}
use Rattle.eris_rules.specs.WorldOrders.{stamping_list, survives}
use Rattle.eris_world.specs.WorldValues.{WorldValue}
use Rattle.eris_world.proofs.OrderLaws.{is_order}
use Rattle.eris_world.proofs.world.World.order.Goals as goal

pub all_survivors-requires-clause-unspent : goal.all_survivors-requires-clause-unspent
all_survivors-requires-clause-unspent c =
    let unspent : c.self.inside.spent ≡ false = ap (λ (v : WorldValue). v.spent) c.self.view_is ∙ c.requires in
    (c.self.invariant unspent).of_sequencers.unspent

pub returns : goal.returns
returns c =
    IfOk-weaker c.all_survivors.result _ _ (λ packets e. e ∙ ap (λ (v : WorldValue). filter (survives c.args.self.now.state) (stamping_list v.state.stampings)) c.self.view_is ∙ is_order c.args.self.now.state) c.all_survivors.ensures
