-- Each row of the client's table, once: what a step can be. Used by every law of a client's course.
use Rattle.std.proofs.Common.{◌≡◌, ℕ, Bool, true, false, not, ◌&&◌, Option, Some, None, List, [], ◌∷◌, refl, ap}
use Rattle.std.specs.Prelude.{if◌then◌else◌}
use Rattle.std.specs.List.{list_any}
use Rattle.std.proofs.lemmas.Bool.{cond_both, and_parts, not-true}
use Rattle.eris_base.specs.declared.ids.Phase.{Phase}
use Rattle.eris_base.specs.declared.ids.ReplicaId.{ReplicaId}
use Rattle.eris_base.specs.declared.ids.ShardId.{ShardId}
use Rattle.eris_base.specs.declared.ids.TxnId.{TxnId}
use Rattle.eris_txn.specs.declared.answer.Answer.{Answer}
use Rattle.eris_txn.specs.declared.history.HistoryEvent.{HistoryEvent}
use Rattle.eris_txn.specs.declared.body.Body.{Body}
use Rattle.eris_txn.specs.declared.key.Key.{Key}
use Rattle.eris_txn.specs.declared.op.Op.{Op}
use Rattle.eris_txn.specs.declared.txn.Txn.{Txn}
use Rattle.eris_txn.specs.PlanValues.{PlanValue}
use Rattle.eris_general.specs.Outcomes.{is_aborted}
use Rattle.eris_locks.specs.States.{phase_of, same_phase}
use Rattle.eris_locks.proofs.PhaseLaws.{same_phase-true}
use Rattle.eris_msg.specs.declared.message.Message.{Message}
use Rattle.eris_rules.specs.declared.transaction.Course.{Course}
use Rattle.eris_rules.specs.declared.transaction.Course.TheVariants.{Executing, Reading, Concluding, Aborting}
use Rattle.eris_rules.specs.declared.transaction.Transaction.{Transaction}
use Rattle.eris_rules.specs.declared.transaction.Vote.{Vote}
use Rattle.eris_rules.specs.Clients.{idle, ask_for, begins_half, submit, asks_again, retries, own_id, retry, aborts, abort, finishes, all_values, answers_counted, is_executed, concludes, has_read, has_concluded, is_told, completes, goes_on, hears_vote_of, hears_vote, vote_row, hears_late_of, hears_late, late_row, client_takes, client_step}
use Rattle.eris_rules.specs.ClientStates.{ClientIdentity, ClientState, ClientOut, transaction_at, with_transaction, body_of}
use Rattle.eris_rules.specs.InPlace.{is_in_place_at_client}
use Rattle.eris_rules.specs.Votes.{vote_fits, late_fits, waits_for, with_vote, with_late, is_complete}
use Rattle.eris_law_client.specs.ClientRuns.{ClientInput, Submits, Retries, Aborts, Gets, client_does}
use Rattle.eris_law_client.specs.Counts.{message_of}

-- what an open transaction becomes by a message
pub data Hears (me : ClientIdentity) (id : TxnId) (transaction : Transaction) (message : Message) : Transaction → Type 0 where
  Votes : (vote : Vote) → message ≡ message_of vote id (phase_of (body_of transaction.course)) → vote_fits me.config.f (body_of transaction.course) vote ≡ true
      → Hears me id transaction message (with_vote me.config.f transaction vote)
  Lates : (shard : ShardId) (replica : ReplicaId) (answer : Answer) → message ≡ Message.Late shard replica id (phase_of (body_of transaction.course)) answer
      → late_fits (body_of transaction.course) shard answer ≡ true → Hears me id transaction message (with_late transaction shard answer)

-- a message in place that an open transaction hears
pub record Heard (me : ClientIdentity) (state : ClientState) (message : Message) (id : TxnId) (before after : Transaction) : Type 0 where
  pub in_place : is_in_place_at_client me.config message ≡ true
  pub waited : transaction_at state id ≡ Some before
  pub unfinished : before.finished ≡ false
  pub hears : Hears me id before message after

-- WHAT A STEP CAN BE
pub data Leaf (me : ClientIdentity) (state : ClientState) : ClientInput → ClientOut → Type 0 where
  Nothing : (input : ClientInput) → Leaf me state input (idle state)
  Begins : (txn : Txn) → Leaf me state (Submits txn) (submit me state txn)
  AsksAgain : (input : ClientInput) (id : TxnId) (transaction : Transaction) → transaction_at state id ≡ Some transaction → transaction.finished ≡ false
      → Leaf me state input (record { state = state; sends = ask_for me id (body_of transaction.course) ∷ []; event = None })
  BeginsAbort : (id : TxnId) (keys : List Key) → transaction_at state id ≡ None → Leaf me state (Aborts id keys) (begins_half me state id (Aborting keys) None)
  WaitsOn : (message : Message) (id : TxnId) (before after : Transaction) → Heard me state message id before after
      → Leaf me state (Gets message) (idle (with_transaction state id after))
  Executes : (message : Message) (id : TxnId) (before after : Transaction) → Heard me state message id before after → is_complete after ≡ true
      → (operations : List Op) → after.course ≡ Executing operations → Leaf me state (Gets message) (is_executed state id after)
  Refuses : (message : Message) (id : TxnId) (before after : Transaction) → Heard me state message id before after → is_complete after ≡ true
      → (plan : PlanValue) → after.course ≡ Reading plan → list_any is_aborted (answers_counted after) ≡ true
      → Leaf me state (Gets message) (finishes state id after (HistoryEvent.Answer id Answer.Aborted))
  Reads : (message : Message) (id : TxnId) (before after : Transaction) → Heard me state message id before after → is_complete after ≡ true
      → (plan : PlanValue) → after.course ≡ Reading plan → list_any is_aborted (answers_counted after) ≡ false
      → Leaf me state (Gets message) (concludes me state id plan (all_values (body_of after.course) after.counted))
  Concludes : (message : Message) (id : TxnId) (before after : Transaction) → Heard me state message id before after → is_complete after ≡ true
      → (plan : PlanValue) (body : Body) → after.course ≡ Concluding plan body → Leaf me state (Gets message) (has_concluded state id after)
  Tells : (message : Message) (id : TxnId) (before after : Transaction) → Heard me state message id before after → is_complete after ≡ true
      → (keys : List Key) → after.course ≡ Aborting keys → Leaf me state (Gets message) (is_told me state id after)

module _ (me : ClientIdentity) (state : ClientState) where
  choose : (input : ClientInput) (test : Bool) (some other : ClientOut) → (test ≡ true → Leaf me state input some) → (test ≡ false → Leaf me state input other) → Leaf me state input (if test then some else other)
  choose input test some other f g = cond_both test some other (Leaf me state input) f g

  again : (input : ClientInput) (id : TxnId) (transaction : Transaction) → transaction_at state id ≡ Some transaction → Leaf me state input (asks_again me state id transaction)
  unfolding asks_again
  again input id transaction known = choose input transaction.finished _ _ (λ h. Nothing input) (λ h. AsksAgain input id transaction known h)

  of_retry : (number : ℕ) (id : TxnId) (found : Option Transaction) → transaction_at state id ≡ found → Leaf me state (Retries number) (retries me state id found)
  of_retry number id None known = Nothing _
  of_retry number id (Some transaction) known = again _ id transaction known

  of_abort : (id : TxnId) (keys : List Key) (found : Option Transaction) → transaction_at state id ≡ found → Leaf me state (Aborts id keys) (aborts me state id keys found)
  of_abort id keys None known = BeginsAbort id keys known
  of_abort id keys (Some transaction) known = again _ id transaction known

  of_reading : (message : Message) (id : TxnId) (before after : Transaction) → Heard me state message id before after → is_complete after ≡ true
      → (plan : PlanValue) → after.course ≡ Reading plan → Leaf me state (Gets message) (has_read me state id after plan)
  unfolding has_read
  of_reading message id before after heard whole plan is =
      choose (Gets message) (list_any is_aborted (answers_counted after)) _ _ (λ h. Refuses message id before after heard whole plan is h) (λ h. Reads message id before after heard whole plan is h)

  of_complete : (message : Message) (id : TxnId) (before after : Transaction) → Heard me state message id before after → is_complete after ≡ true
      → (course : Course) → after.course ≡ course → Leaf me state (Gets message) (completes me state id after course)
  of_complete message id before after heard whole (Executing operations) is = Executes message id before after heard whole operations is
  of_complete message id before after heard whole (Reading plan) is = of_reading message id before after heard whole plan is
  of_complete message id before after heard whole (Concluding plan body) is = Concludes message id before after heard whole plan body is
  of_complete message id before after heard whole (Aborting keys) is = Tells message id before after heard whole keys is

  goes : (message : Message) (id : TxnId) (before after : Transaction) → Heard me state message id before after → Leaf me state (Gets message) (goes_on me state id after)
  unfolding goes_on
  goes message id before after heard =
      choose (Gets message) (is_complete after) _ _ (λ h. of_complete message id before after heard h after.course refl) (λ h. WaitsOn message id before after heard)

  -- what a transaction that waits for a phase is
  waiting : (transaction : Transaction) (phase : Phase) → waits_for transaction phase ≡ true → (transaction.finished ≡ false) × (phase ≡ phase_of (body_of transaction.course))
  unfolding waits_for
  waiting transaction phase h =
      let parts = and_parts (not transaction.finished) (same_phase phase (phase_of (body_of transaction.course))) h in
      (not-true transaction.finished parts.0, same_phase-true phase (phase_of (body_of transaction.course)) parts.1)

  of_vote : (id : TxnId) (phase : Phase) (vote : Vote) (found : Option Transaction) → transaction_at state id ≡ found → is_in_place_at_client me.config (message_of vote id phase) ≡ true
      → Leaf me state (Gets (message_of vote id phase)) (hears_vote me state id phase vote found)
  unfolding hears_vote_of
  of_vote id phase vote None known place = Nothing _
  of_vote id phase vote (Some transaction) known place =
      choose (Gets (message_of vote id phase)) (waits_for transaction phase && vote_fits me.config.f (body_of transaction.course) vote) _ _
      (λ h. let parts = and_parts (waits_for transaction phase) (vote_fits me.config.f (body_of transaction.course) vote) h in
      let waits = waiting transaction phase parts.0 in
      goes (message_of vote id phase) id transaction (with_vote me.config.f transaction vote)
      (record { in_place = place; waited = known; unfinished = waits.0; hears = Votes vote (ap (λ (p : Phase). message_of vote id p) waits.1) parts.1 }))
      (λ h. Nothing _)

  of_late : (id : TxnId) (phase : Phase) (shard : ShardId) (replica : ReplicaId) (answer : Answer) (found : Option Transaction) → transaction_at state id ≡ found
      → is_in_place_at_client me.config (Message.Late shard replica id phase answer) ≡ true
      → Leaf me state (Gets (Message.Late shard replica id phase answer)) (hears_late me state id phase shard answer found)
  unfolding hears_late_of
  of_late id phase shard replica answer None known place = Nothing _
  of_late id phase shard replica answer (Some transaction) known place =
      choose (Gets (Message.Late shard replica id phase answer)) (waits_for transaction phase && late_fits (body_of transaction.course) shard answer) _ _
      (λ h. let parts = and_parts (waits_for transaction phase) (late_fits (body_of transaction.course) shard answer) h in
      let waits = waiting transaction phase parts.0 in
      goes (Message.Late shard replica id phase answer) id transaction (with_late transaction shard answer)
      (record { in_place = place; waited = known; unfinished = waits.0; hears = Lates shard replica answer (ap (λ (p : Phase). Message.Late shard replica id p answer) waits.1) parts.1 }))
      (λ h. Nothing _)

  of_message : (message : Message) → is_in_place_at_client me.config message ≡ true → Leaf me state (Gets message) (client_takes me state message)
  unfolding vote_row late_row
  of_message (Message.Vouch view shard replica stamp id phase) place =
      of_vote id phase (record { shard = shard; replica = replica; view = view; stamp = stamp; answer = None }) (transaction_at state id) refl place
  of_message (Message.Reply view shard replica stamp id phase answer) place =
      of_vote id phase (record { shard = shard; replica = replica; view = view; stamp = stamp; answer = Some answer }) (transaction_at state id) refl place
  of_message (Message.Late shard replica id phase answer) place = of_late id phase shard replica answer (transaction_at state id) refl place
  of_message message place = Nothing _

  -- EVERY STEP IS ONE OF THEM
  pub leaf : (input : ClientInput) → Leaf me state input (client_does me state input)
  unfolding client_does retry abort client_step
  leaf (Submits txn) = Begins txn
  leaf (Retries number) = of_retry number (own_id me number) (transaction_at state (own_id me number)) refl
  leaf (Aborts id keys) = of_abort id keys (transaction_at state id) refl
  leaf (Gets message) = choose (Gets message) (is_in_place_at_client me.config message) _ _ (λ h. of_message message h) (λ h. Nothing _)
