use Rattle.std.proofs.Common.{◌≡◌, List, IfSome, sym, subst}
use Rattle.eris_base.specs.declared.ids.TxnId.{TxnId}
use Rattle.eris_base.specs.Each.{Each}
use Rattle.eris_rules.specs.declared.transaction.Transaction.{Transaction}
use Rattle.eris_rules.specs.ClientStates.{with_transaction}
use Rattle.eris_client.specs.Answered.{IsAnswered}
use Rattle.eris_client.specs.ClientValues.{StateValue}
use Rattle.eris_client.proofs.AnsweredLaws.{rest_is_answered, taken_is_answered}
use Rattle.eris_client.proofs.Entries.{taken_out}
use Rattle.eris_client.proofs.state.State.take.Goals as goal

pub returns-clause-some : goal.returns-clause-some
returns-clause-some c =
    let left : StateValue = record { me = record { config = c.self.inside.config; client = c.self.inside.client }; state = record { submitted = c.self.inside.submitted; transactions = c.remove.new.self.entries } } in
    subst (λ (value : StateValue). IfSome c.remove.result (λ transaction. value ≡ record left { state = with_transaction left.state c.args.id transaction })) c.self.view_is
    (taken_out left.me c.self.inside.submitted c.self.inside.transactions.entries c.remove.new.self.entries c.args.id c.remove.result c.self.invariant.sorted c.remove.ensures.value c.remove.ensures.entries)

pub returns-clause-answered : goal.returns-clause-answered
returns-clause-answered c = taken_is_answered c.self.inside.transactions.entries c.args.id c.remove.result c.self.invariant.answered c.remove.ensures.value

pub invariant_of-self : goal.invariant_of-self
invariant_of-self c = record {
  sorted = c.remove.ensures.ordered;
  answered = subst (λ (entries : List (TxnId × Transaction)). Each (λ (entry : TxnId × Transaction). IsAnswered entry.1) entries) (sym c.remove.ensures.entries)
      (rest_is_answered c.self.inside.transactions.entries c.args.id c.self.invariant.answered);
}
