-- HOW FAR A TRANSACTION IS, by the events of its id: of one's own, exactly these, in this order.
use Rattle.std.specs.Prelude.{◌≡◌, ◌⊎◌, ℕ, ◌==◌, Bool, true, false, Option, Some, None, List, [], ◌∷◌}
use Rattle.std.specs.List.{filter}
use Rattle.eris_base.specs.declared.ids.TxnId.{TxnId}
use Rattle.eris_base.specs.Each.{Each}
use Rattle.eris_base.specs.TxnIds.{same_id}
use Rattle.eris_txn.specs.declared.answer.Answer.{Answer}
use Rattle.eris_txn.specs.declared.history.HistoryEvent.{HistoryEvent}
use Rattle.eris_txn.specs.declared.history.HistoryEvent.TheVariants.{Submit, Read, Answer as Answered, Told}
use Rattle.eris_txn.specs.declared.op.OpAnswer.{OpAnswer}
use Rattle.eris_txn.specs.declared.txn.Txn.TheVariants.{Whole, General}
use Rattle.eris_txn.specs.PlanValues.{PlanValue}
use Rattle.eris_txn.specs.Plans.{value_in}
use Rattle.eris_general.specs.Outcomes.{conclusion_of}
use Rattle.eris_rules.specs.declared.transaction.Course.{Course}
use Rattle.eris_rules.specs.declared.transaction.Course.TheVariants.{Executing, Reading, Concluding, Aborting}
use Rattle.eris_rules.specs.declared.transaction.Transaction.{Transaction}
use Rattle.eris_rules.specs.ClientStates.{ClientIdentity, body_of}
use Rattle.eris_serial.specs.Shares.{OneForEach}
use Rattle.eris_law_client.specs.ClientRuns.{ClientInput, WasCalledToAbort}
use Rattle.eris_law_client.specs.Counts.{CountedOn, IsVoteFor}
use Rattle.eris_txn.specs.declared.body.Body.{Body}
use Rattle.eris_txn.specs.declared.key.Key.{Key}
use Rattle.eris_txn.specs.declared.op.Op.{Op}

-- whose event it is
abbrev pub id_of : HistoryEvent → TxnId
id_of (Submit id txn) = id
id_of (Read id values) = id
id_of (Answered id answer) = id
id_of (Told asker id answer) = id

-- the events of an id
abbrev pub events_of : TxnId → List HistoryEvent → List HistoryEvent
events_of id history = filter (λ event. same_id (id_of event) id) history

-- an id of its own, or of another client
abbrev pub IsOwn : ClientIdentity → TxnId → Type 0
IsOwn me id = id.client ≡ me.client

abbrev pub IsOfAnother : ClientIdentity → TxnId → Type 0
IsOfAnother me id = (id.client.0 == me.client.0) ≡ false

-- what becomes of a general transaction
abbrev pub IsOutcome : Answer → Type 0
IsOutcome answer = (answer ≡ Answer.Committed) ⊎ (answer ≡ Answer.Aborted)

-- its operations are executed
pub record IsExecuting (me : ClientIdentity) (id : TxnId) (events : List HistoryEvent) (operations : List Op) : Type 0 where
  pub own : IsOwn me id
  pub events_are : events ≡ Submit id (Whole operations) ∷ []

-- they are answered
pub record IsExecuted (me : ClientIdentity) (id : TxnId) (events : List HistoryEvent) (operations : List Op) : Type 0 where
  pub own : IsOwn me id
  pub answers : List OpAnswer
  pub events_are : events ≡ Submit id (Whole operations) ∷ Answered id (Answer.Ops answers) ∷ []
  pub each : OneForEach operations answers

-- it reads
pub record IsReading (me : ClientIdentity) (id : TxnId) (events : List HistoryEvent) (plan : PlanValue) : Type 0 where
  pub own : IsOwn me id
  pub events_are : events ≡ Submit id (General plan) ∷ []

-- its first half was refused
pub record IsRefused (me : ClientIdentity) (id : TxnId) (events : List HistoryEvent) (plan : PlanValue) : Type 0 where
  pub own : IsOwn me id
  pub events_are : events ≡ Submit id (General plan) ∷ Answered id Answer.Aborted ∷ []

-- it concludes, by what it read
pub record IsConcluding (me : ClientIdentity) (id : TxnId) (events : List HistoryEvent) (plan : PlanValue) (body : Body) : Type 0 where
  pub own : IsOwn me id
  pub values : List (Option ℕ)
  pub events_are : events ≡ Submit id (General plan) ∷ Read id values ∷ []
  pub each : OneForEach plan.keys values
  pub body_is : body ≡ conclusion_of plan (value_in plan.keys values)

-- its outcome is answered
pub record IsConcluded (me : ClientIdentity) (id : TxnId) (events : List HistoryEvent) (plan : PlanValue) (body : Body) : Type 0 where
  pub own : IsOwn me id
  pub values : List (Option ℕ)
  pub outcome : Answer
  pub events_are : events ≡ Submit id (General plan) ∷ Read id values ∷ Answered id outcome ∷ []
  pub each : OneForEach plan.keys values
  pub body_is : body ≡ conclusion_of plan (value_in plan.keys values)
  pub is_outcome : IsOutcome outcome

-- it asks for the abort of another's, which it was called for, with these keys
pub record IsAborting (me : ClientIdentity) (inputs : List ClientInput) (number : ℕ) (id : TxnId) (events : List HistoryEvent) (keys : List Key) : Type 0 where
  pub another : IsOfAnother me id
  pub called : WasCalledToAbort inputs number id keys
  pub events_are : events ≡ []

-- it is told what became of it
pub record IsTold (me : ClientIdentity) (inputs : List ClientInput) (number : ℕ) (id : TxnId) (events : List HistoryEvent) (keys : List Key) : Type 0 where
  pub another : IsOfAnother me id
  pub called : WasCalledToAbort inputs number id keys
  pub outcome : Answer
  pub events_are : events ≡ Told me.client id outcome ∷ []
  pub is_outcome : IsOutcome outcome

-- HOW FAR IT IS, by its course and whether it is finished
abbrev pub IsSoFar : ClientIdentity → List ClientInput → ℕ → TxnId → List HistoryEvent → Course → Bool → Type 0
IsSoFar me inputs number id events (Executing operations) false = IsExecuting me id events operations
IsSoFar me inputs number id events (Executing operations) true = IsExecuted me id events operations
IsSoFar me inputs number id events (Reading plan) false = IsReading me id events plan
IsSoFar me inputs number id events (Reading plan) true = IsRefused me id events plan
IsSoFar me inputs number id events (Concluding plan body) false = IsConcluding me id events plan body
IsSoFar me inputs number id events (Concluding plan body) true = IsConcluded me id events plan body
IsSoFar me inputs number id events (Aborting keys) false = IsAborting me inputs number id events keys
IsSoFar me inputs number id events (Aborting keys) true = IsTold me inputs number id events keys

-- WHAT HOLDS OF A TRANSACTION at a moment: how far it is, what its votes rest on, and its counted shards
pub record Stands (me : ClientIdentity) (inputs : List ClientInput) (number : ℕ) (id : TxnId) (events : List HistoryEvent) (transaction : Transaction) : Type 0 where
  pub so_far : IsSoFar me inputs number id events transaction.course transaction.finished
  pub votes : Each (IsVoteFor me inputs number id (body_of transaction.course)) transaction.votes
  pub counted : Each (λ pair. CountedOn me inputs number id (body_of transaction.course) pair.0 pair.1) transaction.counted

-- an id that the client doesn't know has no event
abbrev pub StandsAt : ClientIdentity → List ClientInput → ℕ → TxnId → List HistoryEvent → Option Transaction → Type 0
StandsAt me inputs number id events None = events ≡ []
StandsAt me inputs number id events (Some transaction) = Stands me inputs number id events transaction

-- the ids that were submitted, in order
abbrev pub submitted_ids : List HistoryEvent → List TxnId
submitted_ids [] = []
submitted_ids (Submit id txn ∷ history) = id ∷ submitted_ids history
submitted_ids (Read id values ∷ history) = submitted_ids history
submitted_ids (Answered id answer ∷ history) = submitted_ids history
submitted_ids (Told asker id answer ∷ history) = submitted_ids history
