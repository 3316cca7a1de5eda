-- THE STEP OF A CLIENT. It asks the sequencer to stamp a body, and waits until every participant is counted.
use Rattle.std.specs.Prelude.{ℕ, ◌+◌, ◌==◌, ◌&&◌, true, Option, Some, None, List, [], ◌∷◌, map, find, if◌then◌else◌}
use Rattle.std.specs.List.{list_any}
use Rattle.std.specs.Option.{option_map}
use Rattle.eris_base.specs.declared.ids.Node.TheVariants.{Sequencer}
use Rattle.eris_base.specs.declared.ids.Phase.{Phase}
use Rattle.eris_base.specs.declared.ids.ShardId.{ShardId}
use Rattle.eris_base.specs.declared.ids.TxnId.{TxnId}
use Rattle.eris_txn.specs.declared.answer.Answer.{Answer}
use Rattle.eris_txn.specs.declared.body.Body.{Body}
use Rattle.eris_txn.specs.declared.history.HistoryEvent.{HistoryEvent}
use Rattle.eris_txn.specs.declared.key.Key.{Key}
use Rattle.eris_txn.specs.declared.op.OpAnswer.{OpAnswer}
use Rattle.eris_txn.specs.declared.txn.Txn.{Txn}
use Rattle.eris_txn.specs.Bodies.{keys_of}
use Rattle.eris_txn.specs.PlanValues.{PlanValue}
use Rattle.eris_txn.specs.Plans.{value_in}
use Rattle.eris_general.specs.Outcomes.{conclusion_of, is_aborted, outcome_of}
use Rattle.eris_msg.specs.declared.message.Message.{Message}
use Rattle.eris_msg.specs.declared.outgoing.Outgoing.{Outgoing}
use Rattle.eris_rules.specs.declared.transaction.Course.{Course}
use Rattle.eris_rules.specs.declared.transaction.Course.TheVariants.{Executing, Reading, Concluding, Aborting}
use Rattle.eris_rules.specs.declared.transaction.Transaction.{Transaction}
use Rattle.eris_rules.specs.declared.transaction.Vote.{Vote}
use Rattle.eris_rules.specs.Assembling.{assemble}
use Rattle.eris_rules.specs.ClientStates.{ClientIdentity, ClientState, ClientOut, transaction_at, with_transaction, body_of, begun_half, course_of, next_id}
use Rattle.eris_rules.specs.InPlace.{is_in_place_at_client}
use Rattle.eris_rules.specs.Votes.{vote_fits, late_fits, waits_for, with_vote, with_late, is_complete}

abbrev pub idle : ClientState → ClientOut
idle state = record { state = state; sends = []; event = None }

-- it asks the sequencer to stamp a body, and the answers come back to it
abbrev pub ask_for : ClientIdentity → TxnId → Body → Outgoing
ask_for me id body = record { to = Sequencer; message = Message.Ask me.client id body }

-- a half of a transaction begins, with an Ask of its body
unfoldable pub begins_half : ClientIdentity → ClientState → TxnId → Course → Option HistoryEvent → ClientOut
begins_half me state id course event =
    record {
      state = with_transaction state id (begun_half course);
      sends = ask_for me id (body_of course) ∷ [];
      event = event;
    }

-- SUBMIT: a transaction of its own gets the next number
unfoldable pub submit : ClientIdentity → ClientState → Txn → ClientOut
submit me state txn =
    begins_half me (record state { submitted = state.submitted + 1 }) (next_id me state) (course_of txn)
    (Some (HistoryEvent.Submit (next_id me state) txn))

-- The Ask of the present half again, which is stamped anew: the first surviving stamp is the one that acts. A
-- finished transaction asks for nothing.
unfoldable pub asks_again : ClientIdentity → ClientState → TxnId → Transaction → ClientOut
asks_again me state id transaction =
    if transaction.finished then idle state
    else record { state = state; sends = ask_for me id (body_of transaction.course) ∷ []; event = None }

abbrev pub retries : ClientIdentity → ClientState → TxnId → Option Transaction → ClientOut
retries me state id None = idle state
retries me state id (Some transaction) = asks_again me state id transaction

abbrev pub own_id : ClientIdentity → ℕ → TxnId
own_id me number = record { client = me.client; number = number }

-- RETRY of its transaction of this number
unfoldable pub retry : ClientIdentity → ClientState → ℕ → ClientOut
retry me state number = retries me state (own_id me number) (transaction_at state (own_id me number))

abbrev pub aborts : ClientIdentity → ClientState → TxnId → List Key → Option Transaction → ClientOut
aborts me state id keys None = begins_half me state id (Aborting keys) None
aborts me state id keys (Some transaction) = asks_again me state id transaction

-- ABORT of another client's transaction with these keys; where it asked for it before, it asks again
unfoldable pub abort : ClientIdentity → ClientState → TxnId → List Key → ClientOut
abort me state id keys = aborts me state id keys (transaction_at state id)

-- it is finished, and this happened
unfoldable pub finishes : ClientState → TxnId → Transaction → HistoryEvent → ClientOut
finishes state id transaction event =
    record {
      state = with_transaction state id (record transaction { finished = true });
      sends = [];
      event = Some event;
    }

-- the answer of a counted shard
abbrev pub answer_of_shard : List (ShardId × Answer) → ShardId → Option Answer
answer_of_shard counted shard = option_map (λ pair. pair.1) (find (λ pair. pair.0.0 == shard.0) counted)

abbrev pub op_answers_in : Option Answer → List OpAnswer
op_answers_in (Some (Answer.Ops answers)) = answers
op_answers_in answer = []

abbrev pub values_in : Option Answer → List (Option ℕ)
values_in (Some (Answer.Values values)) = values
values_in answer = []

-- the shards of the body's operations or locks, in their order
abbrev pub item_shards : Body → List ShardId
item_shards body = map (λ key. key.shard) (keys_of body)

-- the answers of all operations, in their order
unfoldable pub all_op_answers : Body → List (ShardId × Answer) → List OpAnswer
all_op_answers body counted = assemble (item_shards body) (λ shard. op_answers_in (answer_of_shard counted shard))

-- the values of all locked keys, in their order
unfoldable pub all_values : Body → List (ShardId × Answer) → List (Option ℕ)
all_values body counted = assemble (item_shards body) (λ shard. values_in (answer_of_shard counted shard))

abbrev pub answers_counted : Transaction → List Answer
answers_counted transaction = map (λ pair. pair.1) transaction.counted

-- an operation's answers are whole
unfoldable pub is_executed : ClientState → TxnId → Transaction → ClientOut
is_executed state id transaction =
    finishes state id transaction
    (HistoryEvent.Answer id (Answer.Ops (all_op_answers (body_of transaction.course) transaction.counted)))

-- The values that were read decide: the second half commits the plan's writes of them where its guards hold.
unfoldable pub concludes : ClientIdentity → ClientState → TxnId → PlanValue → List (Option ℕ) → ClientOut
concludes me state id plan values =
    begins_half me state id (Concluding plan (conclusion_of plan (value_in plan.keys values)))
    (Some (HistoryEvent.Read id values))

-- where some shard aborted the first half, since another client's abort came before it, all is over
unfoldable pub has_read : ClientIdentity → ClientState → TxnId → Transaction → PlanValue → ClientOut
has_read me state id transaction plan =
    if list_any is_aborted (answers_counted transaction)
    then finishes state id transaction (HistoryEvent.Answer id Answer.Aborted)
    else concludes me state id plan (all_values (body_of transaction.course) transaction.counted)

unfoldable pub has_concluded : ClientState → TxnId → Transaction → ClientOut
has_concluded state id transaction =
    finishes state id transaction (HistoryEvent.Answer id (outcome_of (answers_counted transaction)))

-- it is told what became of the other client's transaction, which may have committed
unfoldable pub is_told : ClientIdentity → ClientState → TxnId → Transaction → ClientOut
is_told me state id transaction =
    finishes state id transaction (HistoryEvent.Told me.client id (outcome_of (answers_counted transaction)))

-- a half is complete
abbrev pub completes : ClientIdentity → ClientState → TxnId → Transaction → Course → ClientOut
completes me state id transaction (Executing ops) = is_executed state id transaction
completes me state id transaction (Reading plan) = has_read me state id transaction plan
completes me state id transaction (Concluding plan body) = has_concluded state id transaction
completes me state id transaction (Aborting keys) = is_told me state id transaction

-- the transaction after a vote or a late answer: it waits on, or its half is complete
unfoldable pub goes_on : ClientIdentity → ClientState → TxnId → Transaction → ClientOut
goes_on me state id transaction =
    if is_complete transaction
    then completes me state id transaction transaction.course
    else idle (with_transaction state id transaction)

unfoldable pub hears_vote_of : ClientIdentity → ClientState → TxnId → Phase → Vote → Transaction → ClientOut
hears_vote_of me state id phase vote transaction =
    if waits_for transaction phase && vote_fits me.config.f (body_of transaction.course) vote
    then goes_on me state id (with_vote me.config.f transaction vote)
    else idle state

abbrev pub hears_vote : ClientIdentity → ClientState → TxnId → Phase → Vote → Option Transaction → ClientOut
hears_vote me state id phase vote None = idle state
hears_vote me state id phase vote (Some transaction) = hears_vote_of me state id phase vote transaction

-- VOUCH and REPLY: a vote is noted
unfoldable pub vote_row : ClientIdentity → ClientState → TxnId → Phase → Vote → ClientOut
vote_row me state id phase vote = hears_vote me state id phase vote (transaction_at state id)

unfoldable pub hears_late_of : ClientIdentity → ClientState → TxnId → Phase → ShardId → Answer → Transaction → ClientOut
hears_late_of me state id phase shard answer transaction =
    if waits_for transaction phase && late_fits (body_of transaction.course) shard answer
    then goes_on me state id (with_late transaction shard answer)
    else idle state

abbrev pub hears_late : ClientIdentity → ClientState → TxnId → Phase → ShardId → Answer → Option Transaction → ClientOut
hears_late me state id phase shard answer None = idle state
hears_late me state id phase shard answer (Some transaction) = hears_late_of me state id phase shard answer transaction

-- LATE: the answer of a shard
unfoldable pub late_row : ClientIdentity → ClientState → TxnId → Phase → ShardId → Answer → ClientOut
late_row me state id phase shard answer = hears_late me state id phase shard answer (transaction_at state id)

abbrev pub client_takes : ClientIdentity → ClientState → Message → ClientOut
client_takes me state (Message.Vouch view shard replica stamp id phase) =
    vote_row me state id phase (record { shard = shard; replica = replica; view = view; stamp = stamp; answer = None })
client_takes me state (Message.Reply view shard replica stamp id phase answer) =
    vote_row me state id phase (record { shard = shard; replica = replica; view = view; stamp = stamp; answer = Some answer })
client_takes me state (Message.Late shard replica id phase answer) = late_row me state id phase shard answer
client_takes me state message = idle state

-- a message that is out of place changes nothing
unfoldable pub client_step : ClientIdentity → ClientState → Message → ClientOut
client_step me state message = if is_in_place_at_client me.config message then client_takes me state message else idle state
