use Rattle.std.proofs.Common.{◌≡◌, false, None, ap, sym, subst, ◌∙◌}
use Rattle.eris_world.specs.WorldValues.{WorldValue}
use Rattle.std.proofs.lemmas.Result.{IfErr-weaker}
use Rattle.eris_network.specs.Limits.{IsMetBy}
use Rattle.eris_nodes.specs.ClientRows.{plan_keys}
use Rattle.eris_rules.specs.Happenings.{plan_of_transaction, submitted_at}
use Rattle.eris_rules.specs.Refusals.{limit_met}
use Rattle.eris_rules.specs.Worlds.{WorldState}
use Rattle.eris_world.specs.Becoming.{Becomes}
use Rattle.eris_world.proofs.Steps.{aborts_is, aborts_none, on_ok, plan_at, stays_so}
use Rattle.eris_world.proofs.world.World.abort.Goals as goal

pub returns-in-Ok-Some-clause-ok : goal.returns-in-Ok-Some-clause-ok
returns-in-Ok-Some-clause-ok c =
    let found = sym (plan_at c.args.self.now.state c.args.id) ∙ sym (ap (λ (v : WorldValue). plan_keys v.state.clients c.args.id) c.self.view_is) ∙ sym c.in-Ok-Some.ensures.exact ∙ c.in-Ok-Some.field-0-is in
    let same = aborts_is c.args.self.now.config c.args.self.now.state c.args.asker c.args.id (plan_of_transaction (submitted_at c.args.self.now.state c.args.id)) c.in-Ok-Some.keys found in
    on_ok c.client_acts.result _ _ (subst (λ (z : WorldState). Becomes c.args.self.now c.client_acts.new.self z) same) c.client_acts.ensures.ok

pub returns-in-Ok-Some-clause-err : goal.returns-in-Ok-Some-clause-err
returns-in-Ok-Some-clause-err c =
    let found = sym (plan_at c.args.self.now.state c.args.id) ∙ sym (ap (λ (v : WorldValue). plan_keys v.state.clients c.args.id) c.self.view_is) ∙ sym c.in-Ok-Some.ensures.exact ∙ c.in-Ok-Some.field-0-is in
    let same = aborts_is c.args.self.now.config c.args.self.now.state c.args.asker c.args.id (plan_of_transaction (submitted_at c.args.self.now.state c.args.id)) c.in-Ok-Some.keys found in
    IfErr-weaker c.client_acts.result _ _ (λ fault. subst (λ (z : WorldState). IsMetBy z.sent fault) same) c.client_acts.ensures.err

pub returns-in-Ok-None-clause-ok : goal.returns-in-Ok-None-clause-ok
returns-in-Ok-None-clause-ok c =
    let unspent : c.self.inside.spent ≡ false = ap (λ (v : WorldValue). v.spent) c.self.view_is ∙ c.requires.unspent in
    let whole = c.self.invariant unspent in
    let found = sym (plan_at c.args.self.now.state c.args.id) ∙ sym (ap (λ (v : WorldValue). plan_keys v.state.clients c.args.id) c.self.view_is) ∙ sym c.in-Ok-None.ensures.exact ∙ c.in-Ok-None.field-0-is in
    stays_so c.args.self.now _ (aborts_none c.args.self.now.config c.args.self.now.state c.args.asker c.args.id (plan_of_transaction (submitted_at c.args.self.now.state c.args.id)) found)
    (subst (λ (v : WorldValue). limit_met v.state.sent ≡ None) c.self.view_is whole.of_network.room)
