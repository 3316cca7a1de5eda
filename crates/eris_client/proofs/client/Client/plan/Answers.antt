use Rattle.std.proofs.Common.{ap, ◌∙◌}
use Rattle.eris_rules.specs.ClientStates.{transaction_at}
use Rattle.eris_rules.specs.Clients.{own_id}
use Rattle.eris_rules.specs.Happenings.{plan_of_transaction}
use Rattle.eris_client.specs.ClientRanges.{StateFits}
use Rattle.eris_client.specs.ClientValues.{ClientValue}
use Rattle.eris_client.proofs.Fits.{id_kept, lent_fits, lent_id, plan_kept}
use Rattle.eris_client.proofs.client.Client.plan.Goals as goal

pub returns-clause-fits : goal.returns-clause-fits
returns-clause-fits c =
    let old = c.self.inside.state in
    let kept : StateFits old.me old.state = c.self.invariant (ap (λ (value : ClientValue). value.spent) c.self.view_is ∙ c.requires) in
    lent_fits c.plan.result (plan_of_transaction (transaction_at old.state (own_id old.me c.args.number))) c.plan.ensures (plan_kept old.me old.state (own_id old.me c.args.number) kept)

pub returns-clause-id : goal.returns-clause-id
returns-clause-id c =
    let old = c.self.inside.state in
    let kept : StateFits old.me old.state = c.self.invariant (ap (λ (value : ClientValue). value.spent) c.self.view_is ∙ c.requires) in
    rw (← c.self.view_is) (lent_id c.plan.result (transaction_at old.state (own_id old.me c.args.number)) (own_id old.me c.args.number) c.plan.ensures (id_kept old.me old.state (own_id old.me c.args.number) kept))
