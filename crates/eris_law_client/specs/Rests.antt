-- WHAT EACH EVENT AND EACH ASK OF A CLIENT RESTS ON.
use Rattle.std.specs.Prelude.{◌≡◌, ℕ, suc, true, false, Option, List, [], ◌∷◌, IsTrue}
use Rattle.eris_base.specs.declared.ids.ClientId.{ClientId}
use Rattle.eris_base.specs.declared.ids.ShardId.{ShardId}
use Rattle.eris_base.specs.declared.ids.TxnId.{TxnId}
use Rattle.eris_txn.specs.declared.answer.Answer.{Answer}
use Rattle.eris_txn.specs.declared.body.Body.{Body}
use Rattle.eris_txn.specs.declared.body.Body.TheVariants.{Independent, Prelim, Commit, Abort}
use Rattle.eris_txn.specs.declared.history.HistoryEvent.{HistoryEvent}
use Rattle.eris_txn.specs.declared.history.HistoryEvent.TheVariants.{Submit, Read, Answer as Answered, Told}
use Rattle.eris_txn.specs.declared.key.Key.{Key}
use Rattle.eris_txn.specs.declared.op.Op.{Op}
use Rattle.eris_txn.specs.declared.op.OpAnswer.{OpAnswer}
use Rattle.eris_txn.specs.declared.txn.Txn.{Txn}
use Rattle.eris_txn.specs.declared.txn.Txn.TheVariants.{Whole, General}
use Rattle.eris_txn.specs.Bodies.{any_on, keys_of}
use Rattle.eris_txn.specs.Operations.{key_of}
use Rattle.eris_txn.specs.PlanValues.{PlanValue}
use Rattle.eris_txn.specs.Plans.{guards_hold, locks_of, value_in, writes_from}
use Rattle.eris_general.specs.Outcomes.{conclusion_of}
use Rattle.eris_rules.specs.ClientStates.{ClientIdentity, next_id}
use Rattle.eris_serial.specs.Joining.{IsJoined}
use Rattle.eris_serial.specs.Shares.{OneForEach}
use Rattle.eris_serial.specs.Transactions.{takes_part}
use Rattle.eris_law_client.specs.ClientRuns.{ClientInput, WasCalledToAbort, history_to, moment, step_at, Submits}
use Rattle.eris_law_client.specs.Counts.{CountedOn}
use Rattle.eris_law_client.specs.Courses.{IsOfAnother, IsOwn, events_of}
use Rattle.std.specs.Prelude.{◌≤◌, slice_get, Some}
use Rattle.eris_msg.specs.declared.outgoing.Outgoing.{Outgoing}
use Rattle.eris_rules.specs.Clients.{ask_for}
use Rattle.eris_serial.specs.Evidence.{IsIn}

-- a whole transaction's answer: each shard that takes part is counted with what it gave, and the answer is joined of that
pub record WholeRests (me : ClientIdentity) (inputs : List ClientInput) (number : ℕ) (id : TxnId) (answer : Answer) : Type 0 where
  pub operations : List Op
  pub answers : List OpAnswer
  pub given : ShardId → List OpAnswer
  pub own : IsOwn me id
  pub events_are : events_of id (history_to me inputs number) ≡ Submit id (Whole operations) ∷ []
  pub answer_is : answer ≡ Answer.Ops answers
  pub joined : IsJoined key_of operations given answers
  pub counted : (shard : ShardId) → IsTrue (takes_part shard (Whole operations)) → CountedOn me inputs (suc number) id (Independent operations) shard (Answer.Ops (given shard))

-- values that were read
pub record ReadRests (me : ClientIdentity) (inputs : List ClientInput) (number : ℕ) (id : TxnId) (values : List (Option ℕ)) : Type 0 where
  pub plan : PlanValue
  pub given : ShardId → List (Option ℕ)
  pub own : IsOwn me id
  pub events_are : events_of id (history_to me inputs number) ≡ Submit id (General plan) ∷ []
  pub joined : IsJoined (λ key. key) plan.keys given values
  pub counted : (shard : ShardId) → IsTrue (takes_part shard (General plan)) → CountedOn me inputs (suc number) id (Prelim (locks_of plan)) shard (Answer.Values (given shard))

-- a refusal: a shard that takes part is counted with `Aborted` for the first half
pub record RefusalRests (me : ClientIdentity) (inputs : List ClientInput) (number : ℕ) (id : TxnId) (answer : Answer) : Type 0 where
  pub plan : PlanValue
  pub own : IsOwn me id
  pub events_are : events_of id (history_to me inputs number) ≡ Submit id (General plan) ∷ []
  pub answer_is : answer ≡ Answer.Aborted
  pub shard : ShardId
  pub part : IsTrue (takes_part shard (General plan))
  pub counted : CountedOn me inputs (suc number) id (Prelim (locks_of plan)) shard Answer.Aborted

-- AN OUTCOME of a conclusion with this body: every shard of its keys is counted with it, or it is `Aborted` and
-- one of them is counted with that, and every other with some answer
pub data OutcomeRests (me : ClientIdentity) (inputs : List ClientInput) (number : ℕ) (id : TxnId) (body : Body) (outcome : Answer) : Type 0 where
  AllCommit : outcome ≡ Answer.Committed → ((shard : ShardId) → IsTrue (any_on (keys_of body) shard) → CountedOn me inputs (suc number) id body shard Answer.Committed)
      → OutcomeRests me inputs number id body outcome
  OneAborts : outcome ≡ Answer.Aborted → (shard : ShardId) → IsTrue (any_on (keys_of body) shard) → CountedOn me inputs (suc number) id body shard Answer.Aborted
      → ((other : ShardId) → IsTrue (any_on (keys_of body) other) → (answer : Answer) × CountedOn me inputs (suc number) id body other answer)
      → OutcomeRests me inputs number id body outcome

-- the outcome of one's own, after its Read
pub record ConclusionRests (me : ClientIdentity) (inputs : List ClientInput) (number : ℕ) (id : TxnId) (outcome : Answer) : Type 0 where
  pub plan : PlanValue
  pub values : List (Option ℕ)
  pub own : IsOwn me id
  pub events_are : events_of id (history_to me inputs number) ≡ Submit id (General plan) ∷ Read id values ∷ []
  pub each : OneForEach plan.keys values
  pub rests : OutcomeRests me inputs number id (conclusion_of plan (value_in plan.keys values)) outcome

-- and of another's, whose abort it was called for
pub record ToldRests (me : ClientIdentity) (inputs : List ClientInput) (number : ℕ) (asker : ClientId) (id : TxnId) (outcome : Answer) : Type 0 where
  pub asker_is : asker ≡ me.client
  pub keys : List Key
  pub another : IsOfAnother me id
  pub called : WasCalledToAbort inputs (suc number) id keys
  pub first : events_of id (history_to me inputs number) ≡ []
  pub rests : OutcomeRests me inputs number id (Abort keys) outcome

-- a submit is of the next id
pub record SubmitRests (me : ClientIdentity) (inputs : List ClientInput) (number : ℕ) (id : TxnId) (txn : Txn) : Type 0 where
  pub called : slice_get inputs number ≡ Some (Submits txn)
  pub id_is : id ≡ next_id me (moment me inputs number)
  pub first : events_of id (history_to me inputs number) ≡ []

pub data AnswerRests (me : ClientIdentity) (inputs : List ClientInput) (number : ℕ) (id : TxnId) (answer : Answer) : Type 0 where
  OfWhole : WholeRests me inputs number id answer → AnswerRests me inputs number id answer
  OfRefusal : RefusalRests me inputs number id answer → AnswerRests me inputs number id answer
  OfConclusion : ConclusionRests me inputs number id answer → AnswerRests me inputs number id answer

-- WHAT AN EVENT of the step behind a moment rests on
abbrev pub EventRests : ClientIdentity → List ClientInput → ℕ → HistoryEvent → Type 0
EventRests me inputs number (Submit id txn) = SubmitRests me inputs number id txn
EventRests me inputs number (Read id values) = ReadRests me inputs number id values
EventRests me inputs number (Answered id answer) = AnswerRests me inputs number id answer
EventRests me inputs number (Told asker id answer) = ToldRests me inputs number asker id answer

-- a Commit is of values that were read, with which the guards hold
pub record CommitRests (me : ClientIdentity) (inputs : List ClientInput) (number : ℕ) (id : TxnId) (body : Body) : Type 0 where
  pub plan : PlanValue
  pub values : List (Option ℕ)
  pub own : IsOwn me id
  pub events_are : events_of id (history_to me inputs number) ≡ Submit id (General plan) ∷ Read id values ∷ []
  pub each : OneForEach plan.keys values
  pub guards : guards_hold plan.guards (value_in plan.keys values) ≡ true
  pub body_is : body ≡ Commit plan.keys (writes_from plan.settings (value_in plan.keys values))

-- an Abort of one's own, of values with which some guard fails
pub record OwnAbortRests (me : ClientIdentity) (inputs : List ClientInput) (number : ℕ) (id : TxnId) (body : Body) : Type 0 where
  pub plan : PlanValue
  pub values : List (Option ℕ)
  pub own : IsOwn me id
  pub events_are : events_of id (history_to me inputs number) ≡ Submit id (General plan) ∷ Read id values ∷ []
  pub each : OneForEach plan.keys values
  pub guards : guards_hold plan.guards (value_in plan.keys values) ≡ false
  pub body_is : body ≡ Abort plan.keys

-- WHERE THE BODY OF AN ASK COMES FROM
pub data AskRests (me : ClientIdentity) (inputs : List ClientInput) (number : ℕ) (id : TxnId) (body : Body) : Type 0 where
  AsksWhole : (operations : List Op) → IsOwn me id → events_of id (history_to me inputs number) ≡ Submit id (Whole operations) ∷ [] → body ≡ Independent operations → AskRests me inputs number id body
  AsksPrelim : (plan : PlanValue) → IsOwn me id → events_of id (history_to me inputs number) ≡ Submit id (General plan) ∷ [] → body ≡ Prelim (locks_of plan) → AskRests me inputs number id body
  AsksCommit : CommitRests me inputs number id body → AskRests me inputs number id body
  AsksAbort : OwnAbortRests me inputs number id body → AskRests me inputs number id body
  AsksAnothers : (keys : List Key) → IsOfAnother me id → WasCalledToAbort inputs number id keys → body ≡ Abort keys → AskRests me inputs number id body

-- a message that the client sent is an Ask of its own, of a body that rests so at this moment
pub record IsAsk (me : ClientIdentity) (inputs : List ClientInput) (number : ℕ) (send : Outgoing) : Type 0 where
  pub id : TxnId
  pub body : Body
  pub is : send ≡ ask_for me id body
  pub rests : AskRests me inputs number id body

-- an event of the history came in a step, and rests on what was there then
pub record HappenedSo (me : ClientIdentity) (inputs : List ClientInput) (number : ℕ) (event : HistoryEvent) : Type 0 where
  pub at : ℕ
  pub before : suc at ≤ number
  pub happened : (step_at me inputs at).event ≡ Some event
  pub rests : EventRests me inputs at event

-- a message that the client sent came in a step
pub record SentSo (me : ClientIdentity) (inputs : List ClientInput) (number : ℕ) (send : Outgoing) : Type 0 where
  pub at : ℕ
  pub before : suc at ≤ number
  pub sent : IsIn send (step_at me inputs at).sends
  pub ask : IsAsk me inputs (suc at) send
