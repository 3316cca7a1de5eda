-- A client's history only grows: what stood in it at a moment stands in it later, and what an id's transaction is stays so.
-- Used where facts of a step are read at a later moment.
use Rattle.std.proofs.Common.{◌≡◌, ◌≤◌, ℕ, zero, suc, Bool, true, false, cond, Option, Some, None, List, [], ◌∷◌, ◌++◌, refl, ap, sym, ◌∙◌, subst, arith, inl, inr, append-nil}
use Rattle.eris_base.specs.declared.ids.TxnId.{TxnId}
use Rattle.eris_base.specs.TxnIds.{same_id}
use Rattle.eris_base.proofs.Numbers.{last_or}
use Rattle.eris_txn.specs.declared.history.HistoryEvent.{HistoryEvent}
use Rattle.eris_txn.specs.declared.history.HistoryEvent.TheVariants.{Submit, Read, Answer as Answered, Told}
use Rattle.eris_txn.specs.declared.txn.Txn.{Txn}
use Rattle.eris_audit.specs.Histories.{first_submit}
use Rattle.eris_rules.specs.ClientStates.{ClientIdentity}
use Rattle.eris_rules.specs.Worlds.{with_event}
use Rattle.eris_serial.specs.Evidence.{IsIn}
use Rattle.eris_law_client.specs.ClientRuns.{ClientInput, history_to, step_at}

longer : (history : List HistoryEvent) (event : Option HistoryEvent) → (more : List HistoryEvent) × (with_event history event ≡ history ++ more)
longer history None = ([], sym (append-nil history))
longer history (Some event) = (event ∷ [], refl)

joined_lists : (front middle after : List HistoryEvent) → (front ++ middle) ++ after ≡ front ++ (middle ++ after)
joined_lists [] middle after = refl
joined_lists (event ∷ front) middle after = ap (λ (l : List HistoryEvent). event ∷ l) (joined_lists front middle after)

-- THE HISTORY OF A MOMENT begins that of each later one
pub grows : (me : ClientIdentity) (inputs : List ClientInput) (early late : ℕ) → early ≤ late → (more : List HistoryEvent) × (history_to me inputs late ≡ history_to me inputs early ++ more)
unfolding history_to
grows me inputs early zero h =
    let is : 0 ≡ early = omega arith in
    ([], sym (append-nil (history_to me inputs 0)) ∙ ap (λ (n : ℕ). history_to me inputs n ++ []) is)
grows me inputs early (suc late) h =
    elim (last_or early late h) [
      | inl before ↦ (let rest = grows me inputs early late before in
          let next = longer (history_to me inputs late) (step_at me inputs late).event in
          (rest.0 ++ next.0, next.1 ∙ (ap (λ (l : List HistoryEvent). l ++ next.0) rest.1 ∙ joined_lists (history_to me inputs early) rest.0 next.0)))
      | inr same ↦ ([], sym (append-nil (history_to me inputs (suc late))) ∙ ap (λ (n : ℕ). history_to me inputs n ++ []) (sym same))
    ]

in_longer : (history more : List HistoryEvent) (event : HistoryEvent) → IsIn event history → IsIn event (history ++ more)
in_longer [] more event there = absurd there
in_longer (other ∷ history) more event (inl is) = inl is
in_longer (other ∷ history) more event (inr there) = inr (in_longer history more event there)

submit_longer : (history more : List HistoryEvent) (id : TxnId) (txn : Txn) → first_submit history id ≡ Some txn → first_submit (history ++ more) id ≡ Some txn
submit_longer [] more id txn is = absurd (cc)
submit_longer (Submit other own ∷ history) more id txn is = by_test (same_id other id) is (submit_longer history more id txn)
  where
    by_test : (test : Bool) → cond test (Some own) (first_submit history id) ≡ Some txn → (first_submit history id ≡ Some txn → first_submit (history ++ more) id ≡ Some txn)
        → cond test (Some own) (first_submit (history ++ more) id) ≡ Some txn
    by_test true k rest = k
    by_test false k rest = rest k
submit_longer (Read other values ∷ history) more id txn is = submit_longer history more id txn is
submit_longer (Answered other answer ∷ history) more id txn is = submit_longer history more id txn is
submit_longer (Told asker other answer ∷ history) more id txn is = submit_longer history more id txn is

-- an event stays
pub event_stays : (me : ClientIdentity) (inputs : List ClientInput) (early late : ℕ) → early ≤ late → (event : HistoryEvent) → IsIn event (history_to me inputs early) → IsIn event (history_to me inputs late)
event_stays me inputs early late h event there =
    let more = grows me inputs early late h in
    subst (λ (l : List HistoryEvent). IsIn event l) (sym more.1) (in_longer (history_to me inputs early) more.0 event there)

-- and a submit
pub submit_stays : (me : ClientIdentity) (inputs : List ClientInput) (early late : ℕ) → early ≤ late → (id : TxnId) (txn : Txn)
    → first_submit (history_to me inputs early) id ≡ Some txn → first_submit (history_to me inputs late) id ≡ Some txn
submit_stays me inputs early late h id txn is =
    let more = grows me inputs early late h in
    ap (λ (l : List HistoryEvent). first_submit l id) more.1 ∙ submit_longer (history_to me inputs early) more.0 id txn is
