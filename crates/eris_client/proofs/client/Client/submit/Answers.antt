use Rattle.std.proofs.Common.{ap, sym, ◌∙◌, ◌<◌, subst, Some}
use Rattle.eris_txn.specs.declared.history.HistoryEvent.TheVariants.{Submit}
use Rattle.eris_rules.specs.Clients.{submit}
use Rattle.eris_client.specs.ClientRanges.{StateFits, StepFits}
use Rattle.eris_client.specs.ClientValues.{ClientValue}
use Rattle.eris_client.proofs.Fits.{left_fits, sent_fits, submit-fits}
use Rattle.eris_client.proofs.client.Client.submit.Goals as goal

pub invariant_of-self-2 : goal.invariant_of-self-2
invariant_of-self-2 c =
    let old = c.self.inside.state in
    let kept : StateFits old.me old.state = c.self.invariant (ap (λ (value : ClientValue). value.spent) c.self.view_is ∙ c.requires.unspent) in
    let fits : StepFits old.me (submit old.me old.state c.args.txn) =
    submit-fits old.me old.state c.args.txn kept (subst (λ (value : ClientValue). value.state.submitted < 4294967295) (sym c.self.view_is) c.requires.room) c.requires.ranges in
    λ _. left_fits old c.submit.new.self (submit old.me old.state c.args.txn) c.in_ok-answer.answer.1 (Some (Submit c.in_ok-answer.answer.0 c.args.txn)) fits c.in_ok-answer.ensures

pub returns-clause-fits : goal.returns-clause-fits
returns-clause-fits c =
    let old = c.self.inside.state in
    let kept : StateFits old.me old.state = c.self.invariant (ap (λ (value : ClientValue). value.spent) c.self.view_is ∙ c.requires.unspent) in
    let fits : StepFits old.me (submit old.me old.state c.args.txn) =
    submit-fits old.me old.state c.args.txn kept (subst (λ (value : ClientValue). value.state.submitted < 4294967295) (sym c.self.view_is) c.requires.room) c.requires.ranges in
    sent_fits old c.submit.new.self (submit old.me old.state c.args.txn) c.in_ok-answer.answer.1 (Some (Submit c.in_ok-answer.answer.0 c.args.txn)) fits c.in_ok-answer.ensures
