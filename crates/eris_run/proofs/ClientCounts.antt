-- A client counts its submissions, and nothing else changes that count.
use Rattle.std.proofs.Common.{◌≡◌, ℕ, ◌+◌, ◌≤◌, Bool, true, false, cond, Option, Some, None, List, refl, arith}
use Rattle.std.specs.List.{list_any}
use Rattle.eris_base.specs.declared.ids.Phase.{Phase}
use Rattle.eris_base.specs.declared.ids.ShardId.{ShardId}
use Rattle.eris_base.specs.declared.ids.TxnId.{TxnId}
use Rattle.eris_txn.specs.declared.answer.Answer.{Answer}
use Rattle.eris_txn.specs.declared.history.HistoryEvent.{HistoryEvent}
use Rattle.eris_txn.specs.declared.key.Key.{Key}
use Rattle.eris_txn.specs.declared.txn.Txn.{Txn}
use Rattle.eris_txn.specs.PlanValues.{PlanValue}
use Rattle.eris_general.specs.Outcomes.{is_aborted}
use Rattle.eris_msg.specs.declared.message.Message.{Message}
use Rattle.eris_rules.specs.declared.transaction.Course.{Course}
use Rattle.eris_rules.specs.declared.transaction.Course.TheVariants.{Executing, Reading, Concluding, Aborting}
use Rattle.eris_rules.specs.declared.transaction.Transaction.{Transaction}
use Rattle.eris_rules.specs.declared.transaction.Vote.{Vote}
use Rattle.eris_rules.specs.Clients.{abort, aborts, answers_counted, asks_again, begins_half, client_step, client_takes, completes, concludes, finishes, goes_on, has_concluded, has_read, hears_late, hears_late_of, hears_vote, hears_vote_of, is_executed, is_told, late_row, own_id, retries, retry, submit, vote_row}
use Rattle.eris_rules.specs.ClientStates.{ClientIdentity, ClientOut, ClientState, transaction_at, with_transaction}
use Rattle.eris_rules.specs.InPlace.{is_in_place_at_client}
use Rattle.eris_rules.specs.Votes.{is_complete, with_late, with_vote}

-- the count stays
abbrev Stays : ClientState → ClientOut → Type 0
Stays state out = out.state.submitted ≡ state.submitted

either : (state : ClientState) (test : Bool) (one other : ClientOut) → Stays state one → Stays state other → Stays state (cond test one other)
either state true one other is_one is_other = is_one
either state false one other is_one is_other = is_other

begins_stays : (me : ClientIdentity) (state : ClientState) (id : TxnId) (course : Course) (happened : Option HistoryEvent) → Stays state (begins_half me state id course happened)
unfolding begins_half with_transaction
begins_stays me state id course happened = refl

finishes_stays : (state : ClientState) (id : TxnId) (transaction : Transaction) (happened : HistoryEvent) → Stays state (finishes state id transaction happened)
unfolding finishes with_transaction
finishes_stays state id transaction happened = refl

again_stays : (me : ClientIdentity) (state : ClientState) (id : TxnId) (transaction : Transaction) → Stays state (asks_again me state id transaction)
unfolding asks_again
again_stays me state id transaction = either state transaction.finished _ _ refl refl

-- SUBMIT adds one
pub submit_counts : (me : ClientIdentity) (state : ClientState) (txn : Txn) → (submit me state txn).state.submitted ≤ state.submitted + 1
unfolding submit begins_half with_transaction
submit_counts me state txn = omega arith

pub retry_counts : (me : ClientIdentity) (state : ClientState) (number : ℕ) → Stays state (retry me state number)
unfolding retry
retry_counts me state number = of_found (transaction_at state (own_id me number))
  where
    of_found : (found : Option Transaction) → Stays state (retries me state (own_id me number) found)
    of_found None = refl
    of_found (Some transaction) = again_stays me state (own_id me number) transaction

pub abort_counts : (me : ClientIdentity) (state : ClientState) (id : TxnId) (keys : List Key) → Stays state (abort me state id keys)
unfolding abort
abort_counts me state id keys = of_found (transaction_at state id)
  where
    of_found : (found : Option Transaction) → Stays state (aborts me state id keys found)
    of_found None = begins_stays me state id (Aborting keys) None
    of_found (Some transaction) = again_stays me state id transaction

read_stays : (me : ClientIdentity) (state : ClientState) (id : TxnId) (transaction : Transaction) (plan : PlanValue) → Stays state (has_read me state id transaction plan)
unfolding has_read concludes
read_stays me state id transaction plan =
    either state (list_any is_aborted (answers_counted transaction)) _ _ (finishes_stays state id transaction _) (begins_stays me state id _ _)

completes_stays : (me : ClientIdentity) (state : ClientState) (id : TxnId) (transaction : Transaction) (course : Course) → Stays state (completes me state id transaction course)
unfolding is_executed has_concluded is_told
completes_stays me state id transaction (Executing ops) = finishes_stays state id transaction _
completes_stays me state id transaction (Reading plan) = read_stays me state id transaction plan
completes_stays me state id transaction (Concluding plan body) = finishes_stays state id transaction _
completes_stays me state id transaction (Aborting keys) = finishes_stays state id transaction _

goes_on_stays : (me : ClientIdentity) (state : ClientState) (id : TxnId) (transaction : Transaction) → Stays state (goes_on me state id transaction)
unfolding goes_on with_transaction
goes_on_stays me state id transaction = either state (is_complete transaction) _ _ (completes_stays me state id transaction transaction.course) refl

vote_stays : (me : ClientIdentity) (state : ClientState) (id : TxnId) (phase : Phase) (vote : Vote) → Stays state (vote_row me state id phase vote)
unfolding vote_row hears_vote_of
vote_stays me state id phase vote = of_found (transaction_at state id)
  where
    of_found : (found : Option Transaction) → Stays state (hears_vote me state id phase vote found)
    of_found None = refl
    of_found (Some transaction) = either state _ _ _ (goes_on_stays me state id (with_vote me.config.f transaction vote)) refl

late_stays : (me : ClientIdentity) (state : ClientState) (id : TxnId) (phase : Phase) (shard : ShardId) (answer : Answer) → Stays state (late_row me state id phase shard answer)
unfolding late_row hears_late_of
late_stays me state id phase shard answer = of_found (transaction_at state id)
  where
    of_found : (found : Option Transaction) → Stays state (hears_late me state id phase shard answer found)
    of_found None = refl
    of_found (Some transaction) = either state _ _ _ (goes_on_stays me state id (with_late transaction shard answer)) refl

takes_stays : (me : ClientIdentity) (state : ClientState) (message : Message) → Stays state (client_takes me state message)
takes_stays me state (Message.Vouch view shard replica stamp id phase) = vote_stays me state id phase _
takes_stays me state (Message.Reply view shard replica stamp id phase answer) = vote_stays me state id phase _
takes_stays me state (Message.Late shard replica id phase answer) = late_stays me state id phase shard answer
takes_stays me state message = refl

step_stays : (me : ClientIdentity) (state : ClientState) (message : Message) → Stays state (client_step me state message)
unfolding client_step
step_stays me state message = either state (is_in_place_at_client me.config message) _ _ (takes_stays me state message) refl

pub step_counts : (me : ClientIdentity) (state : ClientState) (message : Message) → (client_step me state message).state.submitted ≤ state.submitted + 0
step_counts me state message = let same = step_stays me state message in omega arith
