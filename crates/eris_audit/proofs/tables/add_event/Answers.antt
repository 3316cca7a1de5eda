use Rattle.std.proofs.Common.{◌≡◌, ◌∷◌, ◌++◌, [], true, is_some, ap, sym, ◌∙◌}
use Rattle.eris_base.specs.contracts.ids.TxnIdPartialEq.TheImpl as derived
use Rattle.eris_base.proofs.Booleans.{none_from}
use Rattle.indexmap.proofs.CallerLemmas.{insert_entry-new}
use Rattle.eris_audit.specs.Histories.{first_submit}
use Rattle.eris_audit.proofs.SubmitTable.{other_event, later_submit, new_submit, found_submit}
use Rattle.eris_audit.proofs.tables.add_event.Goals as goal

pub returns-in_default : goal.returns-in_default
returns-in_default c = λ before are id. are id ∙ other_event before c.args.event.now id c.in_default.not-Submit

pub returns-then-contains_key : goal.returns-then-contains_key
returns-then-contains_key c = λ before are asked.
    let known : is_some (first_submit before c.in-Submit.id) ≡ true =
    sym (found_submit before c.args.txns.now.entries c.in-Submit.id are) ∙ sym c.contains_key.ensures ∙ c.if-contains_key.true in
    are asked
    ∙ later_submit before c.in-Submit.id c.in-Submit.txn known asked
    ∙ ap (λ last. first_submit (before ++ last ∷ []) asked) (sym c.in-Submit.is)

pub returns : goal.returns
returns c = λ before are.
    let absent = none_from _ (sym c.contains_key.ensures ∙ c.if-contains_key.false) in
    new_submit before c.args.event.now c.args.txns.now.entries c.insert.new.self.entries c.in-Submit.id _ c.in-Submit.is
    (c.in_ok-insert.ensures.entries ∙ insert_entry-new derived.eq-value.it c.args.txns.now c.in-Submit.id _ absent) are
