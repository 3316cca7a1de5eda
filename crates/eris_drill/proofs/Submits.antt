-- The transaction of an id's first submit, event by event: used by the code that runs an order's lines.
use Rattle.std.proofs.Common.{◌≡◌, ◌<◌, ◌≤◌, subst, ◌+◌, ◌∷◌, [], List, ℕ, Bool, true, false, Option, Some, None, refl, ap, sym, ◌∙◌, cond, drop, length, slice_index_or}
use Rattle.std.proofs.Math.ListN.{drop_of_length-le}
use Rattle.std.proofs.lemmas.List.{drop_more}
use Rattle.std.specs.Option.{option_or}
use Rattle.eris_base.specs.declared.ids.TxnId.{TxnId}
use Rattle.eris_base.specs.TxnIds.{same_id}
use Rattle.eris_txn.specs.declared.history.HistoryEvent.{HistoryEvent}
use Rattle.eris_txn.specs.declared.history.HistoryEvent.TheVariants as history
use Rattle.eris_txn.specs.declared.txn.Txn.{Txn}
use Rattle.eris_audit.specs.declared.order_line.OrderLine.{OrderLine}
use Rattle.eris_audit.specs.Histories.{first_submit, txn_of}
use Rattle.eris_audit.specs.SerialRun.{left_by_step}
use Rattle.eris_txn.specs.Keys.{Values}
use Rattle.eris_drill.specs.Summaries.{after_steps}

by_test : (txn : Txn) (found : Option Txn) (test : Bool) → cond test (Some txn) found ≡ option_or (cond test (Some txn) None) found
by_test txn found true = refl
by_test txn found false = refl

pub submit_step : (event : HistoryEvent) (more : List HistoryEvent) (id : TxnId) →
    first_submit (event ∷ more) id ≡ option_or (first_submit (event ∷ []) id) (first_submit more id)
submit_step (history.Submit other txn) more id = by_test txn (first_submit more id) (same_id other id)
submit_step (history.Read other values) more id = refl
submit_step (history.Answer other answer) more id = refl
submit_step (history.Told asker other answer) more id = refl

-- the run of an order, one line on
one_on : (history : List HistoryEvent) (order : List OrderLine) (at : ℕ) (line : OrderLine) (values left : Values) → at < length order →
    line ≡ slice_index_or order at line → left ≡ left_by_step (txn_of history line.id) line.outcome values →
    after_steps (txn_of history) (drop (at + 1) order) left ≡ after_steps (txn_of history) (drop at order) values
unfolding after_steps
one_on history order at line values left few is by =
    ap (λ (all : Values). after_steps (txn_of history) (drop (at + 1) order) all) by
    ∙ ap (λ (lines : List OrderLine). after_steps (txn_of history) lines values) (ap (λ (one : OrderLine). one ∷ drop (at + 1) order) is ∙ sym (drop_more order at line few))

pub steps_on : (seen history : List HistoryEvent) (lines order : List OrderLine) (at : ℕ) (line : OrderLine) (values left : Values) → seen ≡ history → lines ≡ order →
    at < length lines → line ≡ slice_index_or lines at line → left ≡ left_by_step (txn_of seen line.id) line.outcome values →
    after_steps (txn_of history) (drop (at + 1) order) left ≡ after_steps (txn_of history) (drop at order) values
steps_on seen history lines order at line values left same listed few is by =
    subst (λ (all : List OrderLine). after_steps (txn_of history) (drop (at + 1) all) left ≡ after_steps (txn_of history) (drop at all) values) listed
    (subst (λ (all : List HistoryEvent). after_steps (txn_of all) (drop (at + 1) lines) left ≡ after_steps (txn_of all) (drop at lines) values) same
    (one_on seen lines at line values left few is by))

-- and at its end
pub steps_end : (history : List HistoryEvent) (lines order : List OrderLine) (at : ℕ) (values left : Values) → lines ≡ order → length lines ≤ at →
    after_steps (txn_of history) (drop at order) values ≡ left → values ≡ left
unfolding after_steps
steps_end history lines order at values left listed all kept =
    ap (λ (rest : List OrderLine). after_steps (txn_of history) rest values)
    (sym (drop_of_length-le order (subst (λ (some : List OrderLine). length some ≤ at) listed all)))
    ∙ kept
