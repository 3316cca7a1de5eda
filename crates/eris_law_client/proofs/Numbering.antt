-- A client's own ids are submitted in order, numbered from 1. Used where an id is shown to be submitted before it is
-- stamped, and where a Told is of a submitted transaction.
use Rattle.std.proofs.Common.{◌≡◌, ◌+◌, ℕ, zero, suc, Option, Some, None, List, [], ◌∷◌, ◌++◌, map, refl, ap, sym, ◌∙◌, arith, append-nil}
use Rattle.std.specs.Prelude.{slice_get}
use Rattle.std.specs.List.{range_with_len}
use Rattle.std.proofs.lemmas.List.FromFn.{map-range_with_len_more}
use Rattle.eris_base.specs.declared.ids.TxnId.{TxnId}
use Rattle.eris_txn.specs.declared.history.HistoryEvent.{HistoryEvent}
use Rattle.eris_txn.specs.declared.history.HistoryEvent.TheVariants.{Submit, Read, Answer as Answered, Told}
use Rattle.eris_rules.specs.Clients.{begins_half, concludes, finishes, has_concluded, is_executed, is_told, own_id, submit}
use Rattle.eris_rules.specs.ClientStates.{ClientIdentity, ClientOut, ClientState, first_client, with_transaction}
use Rattle.eris_rules.specs.Worlds.{with_event}
use Rattle.eris_law_client.specs.ClientRuns.{ClientInput, history_to, moment, perhaps}
use Rattle.eris_law_client.specs.Courses.{submitted_ids}
use Rattle.eris_law_client.proofs.Steps.{AsksAgain, Begins, BeginsAbort, Concludes, Executes, Leaf, Nothing, Reads, Refuses, Tells, WaitsOn, leaf}

submitted-append : (history more : List HistoryEvent) → submitted_ids (history ++ more) ≡ submitted_ids history ++ submitted_ids more
submitted-append [] more = refl
submitted-append (Submit id txn ∷ history) more = ap (λ (l : List TxnId). id ∷ l) (submitted-append history more)
submitted-append (Read id values ∷ history) more = submitted-append history more
submitted-append (Answered id answer ∷ history) more = submitted-append history more
submitted-append (Told asker id answer ∷ history) more = submitted-append history more

-- the ids of a client that submitted so many
abbrev pub numbered : ClientIdentity → ℕ → List TxnId
numbered me count = map (own_id me) (range_with_len 1 count)

module _ (me : ClientIdentity) (state : ClientState) (history : List HistoryEvent) (so : submitted_ids history ≡ numbered me state.submitted) where
  other_event : (event : HistoryEvent) → submitted_ids (event ∷ []) ≡ [] → submitted_ids (history ++ event ∷ []) ≡ numbered me state.submitted
  other_event event none = submitted-append history (event ∷ []) ∙ (ap (λ (l : List TxnId). submitted_ids history ++ l) none ∙ (append-nil (submitted_ids history) ∙ so))

  numbered_step : (input : ClientInput) (out : ClientOut) → Leaf me state input out → submitted_ids (with_event history out.event) ≡ numbered me out.state.submitted
  unfolding submit begins_half finishes is_executed concludes has_concluded is_told with_transaction
  numbered_step _ _ (Nothing input) = so
  numbered_step _ _ (Begins txn) =
      submitted-append history _ ∙ (ap (λ (l : List TxnId). l ++ own_id me (state.submitted + 1) ∷ []) so ∙ sym (map-range_with_len_more (own_id me) 1 state.submitted (state.submitted + 1) (omega arith)))
  numbered_step _ _ (AsksAgain input id transaction is unfinished) = so
  numbered_step _ _ (BeginsAbort id keys none) = so
  numbered_step _ _ (WaitsOn message id before after heard) = so
  numbered_step _ _ (Executes message id before after heard whole operations is) = other_event _ refl
  numbered_step _ _ (Refuses message id before after heard whole plan is some) = other_event _ refl
  numbered_step _ _ (Reads message id before after heard whole plan is none) = other_event _ refl
  numbered_step _ _ (Concludes message id before after heard whole plan body is) = other_event _ refl
  numbered_step _ _ (Tells message id before after heard whole keys is) = other_event _ refl

numbered_perhaps : (me : ClientIdentity) (state : ClientState) (history : List HistoryEvent) (found : Option ClientInput) → submitted_ids history ≡ numbered me state.submitted
    → submitted_ids (with_event history (perhaps me state found).event) ≡ numbered me (perhaps me state found).state.submitted
numbered_perhaps me state history None so = so
numbered_perhaps me state history (Some input) so = numbered_step me state history so input _ (leaf me state input)

-- AT EVERY MOMENT the submitted ids are the numbers from 1 on, in order
pub numbered_at : (me : ClientIdentity) (inputs : List ClientInput) (number : ℕ) → submitted_ids (history_to me inputs number) ≡ numbered me (moment me inputs number).submitted
unfolding moment history_to first_client
numbered_at me inputs zero = refl
numbered_at me inputs (suc number) = numbered_perhaps me (moment me inputs number) (history_to me inputs number) (slice_get inputs number) (numbered_at me inputs number)
