-- WHAT HAPPENS AT A CLIENT: it counts its submissions, and nothing else changes that count; only a submission has a submit happen;
-- and whoever is told is the client itself.
use Rattle.std.proofs.Common.{◌≡◌, ◌+◌, ◌&&◌, ℕ, true, Option, Some, None, List, [], ◌∷◌, refl}
use Rattle.std.specs.Prelude.{⊤}
use Rattle.std.specs.List.{list_any}
use Rattle.std.proofs.lemmas.Bool.{cond_both}
use Rattle.eris_base.specs.declared.ids.Phase.{Phase}
use Rattle.eris_base.specs.declared.ids.ShardId.{ShardId}
use Rattle.eris_base.specs.declared.ids.TxnId.{TxnId}
use Rattle.eris_txn.specs.declared.answer.Answer.{Answer}
use Rattle.eris_txn.specs.declared.history.HistoryEvent.{HistoryEvent}
use Rattle.eris_txn.specs.declared.key.Key.{Key}
use Rattle.eris_txn.specs.declared.txn.Txn.{Txn}
use Rattle.eris_txn.specs.PlanValues.{PlanValue}
use Rattle.eris_general.specs.Outcomes.{is_aborted}
use Rattle.eris_msg.specs.declared.message.Message.{Message}
use Rattle.eris_report_range.specs.ReportRanges.{is_ranged_client}
use Rattle.eris_rules.specs.declared.transaction.Course.{Course}
use Rattle.eris_rules.specs.declared.transaction.Course.TheVariants.{Executing, Reading, Concluding, Aborting}
use Rattle.eris_rules.specs.declared.transaction.Transaction.{Transaction}
use Rattle.eris_rules.specs.declared.transaction.Vote.{Vote}
use Rattle.eris_rules.specs.Clients.{abort, aborts, all_values, answers_counted, ask_for, asks_again, begins_half, client_step, client_takes, completes, concludes, finishes, goes_on, has_concluded, has_read, hears_late, hears_late_of, hears_vote, hears_vote_of, idle, is_executed, is_told, late_row, own_id, retries, retry, submit, vote_row}
use Rattle.eris_rules.specs.ClientStates.{ClientIdentity, ClientOut, ClientState, body_of, next_id, transaction_at, with_transaction}
use Rattle.eris_rules.specs.InPlace.{is_in_place_at_client}
use Rattle.eris_rules.specs.Votes.{is_complete, late_fits, vote_fits, waits_for, with_late, with_vote}
use Rattle.eris_law_report.proofs.Histories.{AskerFits, SubmitFits}

-- what may happen
abbrev pub EventFits : HistoryEvent → Type 0
EventFits event = SubmitFits event × AskerFits event

abbrev pub HappenedFits : Option HistoryEvent → Type 0
HappenedFits None = ⊤
HappenedFits (Some event) = EventFits event

-- a step that submits nothing
pub record Quiet (state : ClientState) (out : ClientOut) : Type 0 where
  pub counts : out.state.submitted ≡ state.submitted
  pub event : HappenedFits out.event

module _ (me : ClientIdentity) (known : is_ranged_client me.client ≡ true) where
  idle_quiet : (state : ClientState) → Quiet state (idle state)
  idle_quiet state = record { counts = refl; event = tt }

  begins_quiet : (state : ClientState) (id : TxnId) (course : Course) (event : Option HistoryEvent) → HappenedFits event → Quiet state (begins_half me state id course event)
  unfolding begins_half with_transaction
  begins_quiet state id course event h = record { counts = refl; event = h }

  again_quiet : (state : ClientState) (id : TxnId) (transaction : Transaction) → Quiet state (asks_again me state id transaction)
  unfolding asks_again
  again_quiet state id transaction =
      cond_both transaction.finished (idle state) (record { state = state; sends = ask_for me id (body_of transaction.course) ∷ []; event = None }) (Quiet state)
      (λ e. idle_quiet state) (λ e. record { counts = refl; event = tt })

  finishes_quiet : (state : ClientState) (id : TxnId) (transaction : Transaction) (event : HistoryEvent) → EventFits event → Quiet state (finishes state id transaction event)
  unfolding finishes with_transaction
  finishes_quiet state id transaction event h = record { counts = refl; event = h }

  read_quiet : (state : ClientState) (id : TxnId) (transaction : Transaction) (plan : PlanValue) → Quiet state (has_read me state id transaction plan)
  unfolding has_read concludes
  read_quiet state id transaction plan =
      cond_both (list_any is_aborted (answers_counted transaction)) (finishes state id transaction (HistoryEvent.Answer id Answer.Aborted))
      (concludes me state id plan (all_values (body_of transaction.course) transaction.counted)) (Quiet state)
      (λ e. finishes_quiet state id transaction (HistoryEvent.Answer id Answer.Aborted) (tt, tt))
      (λ e. begins_quiet state id _ (Some (HistoryEvent.Read id (all_values (body_of transaction.course) transaction.counted))) (tt, tt))

  completes_quiet : (state : ClientState) (id : TxnId) (transaction : Transaction) (course : Course) → Quiet state (completes me state id transaction course)
  unfolding is_executed has_concluded is_told
  completes_quiet state id transaction (Executing ops) = finishes_quiet state id transaction _ (tt, tt)
  completes_quiet state id transaction (Reading plan) = read_quiet state id transaction plan
  completes_quiet state id transaction (Concluding plan body) = finishes_quiet state id transaction _ (tt, tt)
  completes_quiet state id transaction (Aborting keys) = finishes_quiet state id transaction _ (tt, known)

  goes_on_quiet : (state : ClientState) (id : TxnId) (transaction : Transaction) → Quiet state (goes_on me state id transaction)
  unfolding goes_on with_transaction
  goes_on_quiet state id transaction =
      cond_both (is_complete transaction) (completes me state id transaction transaction.course) (idle (with_transaction state id transaction)) (Quiet state)
      (λ e. completes_quiet state id transaction transaction.course) (λ e. record { counts = refl; event = tt })

  vote_quiet : (state : ClientState) (id : TxnId) (phase : Phase) (vote : Vote) → Quiet state (vote_row me state id phase vote)
  unfolding vote_row hears_vote_of
  vote_quiet state id phase vote = of_found (transaction_at state id)
    where
      of_found : (found : Option Transaction) → Quiet state (hears_vote me state id phase vote found)
      of_found None = idle_quiet state
      of_found (Some transaction) =
          cond_both (waits_for transaction phase && vote_fits me.config.f (body_of transaction.course) vote)
          (goes_on me state id (with_vote me.config.f transaction vote)) (idle state) (Quiet state)
          (λ e. goes_on_quiet state id (with_vote me.config.f transaction vote)) (λ e. idle_quiet state)

  late_quiet : (state : ClientState) (id : TxnId) (phase : Phase) (shard : ShardId) (answer : Answer) → Quiet state (late_row me state id phase shard answer)
  unfolding late_row hears_late_of
  late_quiet state id phase shard answer = of_found (transaction_at state id)
    where
      of_found : (found : Option Transaction) → Quiet state (hears_late me state id phase shard answer found)
      of_found None = idle_quiet state
      of_found (Some transaction) =
          cond_both (waits_for transaction phase && late_fits (body_of transaction.course) shard answer)
          (goes_on me state id (with_late transaction shard answer)) (idle state) (Quiet state)
          (λ e. goes_on_quiet state id (with_late transaction shard answer)) (λ e. idle_quiet state)

  takes_quiet : (state : ClientState) (message : Message) → Quiet state (client_takes me state message)
  takes_quiet state (Message.Vouch view shard replica stamp id phase) = vote_quiet state id phase _
  takes_quiet state (Message.Reply view shard replica stamp id phase answer) = vote_quiet state id phase _
  takes_quiet state (Message.Late shard replica id phase answer) = late_quiet state id phase shard answer
  takes_quiet state message = idle_quiet state

  -- A MESSAGE
  pub step_quiet : (state : ClientState) (message : Message) → Quiet state (client_step me state message)
  unfolding client_step
  step_quiet state message =
      cond_both (is_in_place_at_client me.config message) (client_takes me state message) (idle state) (Quiet state) (λ e. takes_quiet state message) (λ e. idle_quiet state)

  -- A RETRY, and AN ABORT
  pub retry_quiet : (state : ClientState) (number : ℕ) → Quiet state (retry me state number)
  unfolding retry
  retry_quiet state number = of_found (transaction_at state (own_id me number))
    where
      of_found : (found : Option Transaction) → Quiet state (retries me state (own_id me number) found)
      of_found None = idle_quiet state
      of_found (Some transaction) = again_quiet state (own_id me number) transaction

  pub abort_quiet : (state : ClientState) (id : TxnId) (keys : List Key) → Quiet state (abort me state id keys)
  unfolding abort
  abort_quiet state id keys = of_found (transaction_at state id)
    where
      of_found : (found : Option Transaction) → Quiet state (aborts me state id keys found)
      of_found None = begins_quiet state id (Aborting keys) None tt
      of_found (Some transaction) = again_quiet state id transaction

-- A SUBMISSION counts one, and submits the next id
pub submit_counts : (me : ClientIdentity) (state : ClientState) (txn : Txn) → (submit me state txn).state.submitted ≡ state.submitted + 1
unfolding submit begins_half with_transaction
submit_counts me state txn = refl

pub submit_happens : (me : ClientIdentity) (state : ClientState) (txn : Txn) → (submit me state txn).event ≡ Some (HistoryEvent.Submit (next_id me state) txn)
unfolding submit begins_half
submit_happens me state txn = refl
