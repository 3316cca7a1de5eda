use Rattle.std.proofs.Common.{List, sym, subst}
use Rattle.eris_base.specs.declared.ids.TxnId.{TxnId}
use Rattle.eris_base.specs.Each.{Each}
use Rattle.eris_rules.specs.declared.transaction.Transaction.{Transaction}
use Rattle.eris_client.specs.Answered.{IsAnswered}
use Rattle.eris_client.proofs.AnsweredLaws.{put_is_answered}
use Rattle.eris_client.proofs.state.State.put.Goals as goal

pub invariant_of-self-2 : goal.invariant_of-self-2
invariant_of-self-2 c = record {
  sorted = c.insert.ensures.ordered;
  answered = subst (λ (entries : List (TxnId × Transaction)). Each (λ (entry : TxnId × Transaction). IsAnswered entry.1) entries) (sym c.in_ok-insert.ensures.entries)
      (put_is_answered c.self.inside.transactions.entries c.args.id c.args.transaction c.self.invariant.answered c.requires);
}
