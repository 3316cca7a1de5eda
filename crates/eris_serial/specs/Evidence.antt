-- What a protocol owes of a history and of an order of packets, so that the order makes the history serial. It
-- speaks of transactions, packets and what the shards' stores say over the order, and of no node and no message.
use Rattle.std.specs.Prelude.{◌≡◌, ◌⊎◌, ℕ, Option, List, [], ◌∷◌, ◌++◌, ⊤, IsTrue, IsFalse}
use Rattle.eris_base.specs.declared.ids.Phase.{Phase}
use Rattle.eris_base.specs.declared.ids.ShardId.{ShardId}
use Rattle.eris_base.specs.declared.ids.TxnId.{TxnId}
use Rattle.eris_txn.specs.declared.answer.Answer.{Answer}
use Rattle.eris_txn.specs.declared.body.Body.{Body}
use Rattle.eris_txn.specs.declared.body.Body.TheVariants.{Independent, Prelim, Commit}
use Rattle.eris_txn.specs.declared.history.HistoryEvent.{HistoryEvent}
use Rattle.eris_txn.specs.declared.history.HistoryEvent.TheVariants.{Submit, Read, Answer as Answered, Told}
use Rattle.eris_txn.specs.declared.op.Op.{Op}
use Rattle.eris_txn.specs.declared.op.OpAnswer.{OpAnswer}
use Rattle.eris_txn.specs.declared.packet.Packet.{Packet}
use Rattle.eris_txn.specs.declared.plan.Write.{Write}
use Rattle.eris_txn.specs.declared.txn.Txn.{Txn}
use Rattle.eris_txn.specs.declared.txn.Txn.TheVariants.{Whole, General}
use Rattle.eris_txn.specs.Operations.{key_of}
use Rattle.eris_txn.specs.Plans.{guards_hold, locks_of, value_in, writes_from}
use Rattle.eris_txn.specs.PlanValues.{PlanValue}
use Rattle.eris_locks.specs.Law.{Said}
use Rattle.eris_locks.specs.LockTable.{run_dones}
use Rattle.eris_locks.specs.Shards.{is_on, names_shard, on_shard}
use Rattle.eris_locks.specs.States.{empty, is_conclusory}
use Rattle.eris_audit.specs.Histories.{is_submitted, txn_of}
use Rattle.eris_base.specs.Each.{Each, EachAfter}
use Rattle.eris_serial.specs.Shares.{share, OneForEach}
use Rattle.eris_serial.specs.Transactions.{takes_part, CanRun}

-- the shard's store says this over the packets of the list that name the shard, in whatever step
abbrev pub SaidOn : ShardId → TxnId → Phase → Answer → List Packet → Type 0
SaidOn shard id phase answer packets = Said id phase answer (run_dones empty (on_shard shard packets))

-- VALUES READ: of a general transaction, one for each key, and each shard that takes part says its share
pub record ReadEvidence (txn : TxnId → Txn) (id : TxnId) (values : List (Option ℕ)) (packets : List Packet) : Type 0 where
  pub plan : PlanValue
  pub is : txn id ≡ General plan
  pub each : OneForEach plan.keys values
  pub said : (shard : ShardId) → IsTrue (takes_part shard (txn id))
      → SaidOn shard id Phase.Prelim (Answer.Values (share (is_on shard) plan.keys values)) packets

-- AN ANSWER OF A WHOLE: one for each operation, and each shard that takes part says its share
pub record WholeEvidence (txn : TxnId → Txn) (id : TxnId) (answer : Answer) (packets : List Packet) : Type 0 where
  pub operations : List Op
  pub answers : List OpAnswer
  pub is : txn id ≡ Whole operations
  pub some_operation : operations ≡ [] → ⊥
  pub answer_is : answer ≡ Answer.Ops answers
  pub each : OneForEach operations answers
  pub said : (shard : ShardId) → IsTrue (takes_part shard (txn id))
      → SaidOn shard id Phase.Whole (Answer.Ops (share (λ op. is_on shard (key_of op)) operations answers)) packets

-- A REFUSAL: one shard that takes part answers the preliminary by Aborted
pub record RefusalEvidence (txn : TxnId → Txn) (id : TxnId) (answer : Answer) (packets : List Packet) : Type 0 where
  pub plan : PlanValue
  pub is : txn id ≡ General plan
  pub answer_is : answer ≡ Answer.Aborted
  pub shard : ShardId
  pub part : IsTrue (takes_part shard (txn id))
  pub said : SaidOn shard id Phase.Prelim Answer.Aborted packets

-- AN OUTCOME: one shard that takes part says it of a conclusion
pub record OutcomeEvidence (txn : TxnId → Txn) (id : TxnId) (answer : Answer) (packets : List Packet) : Type 0 where
  pub plan : PlanValue
  pub is : txn id ≡ General plan
  pub shard : ShardId
  pub part : IsTrue (takes_part shard (txn id))
  pub said : SaidOn shard id Phase.Conclude answer packets

-- an item stands in a list
abbrev pub IsIn : {X : Type 0} → X → List X → Type 0
IsIn item [] = ⊥
IsIn item (other ∷ others) = (other ≡ item) ⊎ IsIn item others

-- AN OUTCOME ANSWERED to the owner, of which the history has a Read
pub record OwnOutcomeEvidence (history : List HistoryEvent) (id : TxnId) (answer : Answer) (packets : List Packet) : Type 0 where
  pub values : List (Option ℕ)
  pub read : IsIn (Read id values) history
  pub outcome : OutcomeEvidence (txn_of history) id answer packets

pub data AnswerEvidence (history : List HistoryEvent) (id : TxnId) (answer : Answer) (packets : List Packet) : Type 0 where
  ByWhole : WholeEvidence (txn_of history) id answer packets → AnswerEvidence history id answer packets
  ByRefusal : RefusalEvidence (txn_of history) id answer packets → AnswerEvidence history id answer packets
  ByOutcome : OwnOutcomeEvidence history id answer packets → AnswerEvidence history id answer packets

-- what an event of a history rests on
abbrev pub Counted : List HistoryEvent → List Packet → HistoryEvent → Type 0
Counted history packets (Submit id txn) = ⊤
Counted history packets (Read id values) = ReadEvidence (txn_of history) id values packets
Counted history packets (Answered id answer) = AnswerEvidence history id answer packets
Counted history packets (Told asker id answer) = OutcomeEvidence (txn_of history) id answer packets

-- a transaction's own packet stands in a list: all of an independent one, or a preliminary
abbrev pub HasOwn : TxnId → List Packet → Type 0
HasOwn id [] = ⊥
HasOwn id (packet ∷ packets) = ((packet.id ≡ id) × IsFalse (is_conclusory packet.body)) ⊎ HasOwn id packets

-- before each own packet of the second id there stands one of the first
abbrev pub StandsBehind : List Packet → TxnId → TxnId → Type 0
StandsBehind packets first second =
    (front after : List Packet) (packet : Packet) → packets ≡ front ++ packet ∷ after
    → packet.id ≡ second → IsFalse (is_conclusory packet.body) → HasOwn first front

-- of an event before a submit: where it answered an id, the submitted one stands behind that
abbrev pub AnsweredFirst : List Packet → TxnId → HistoryEvent → Type 0
AnsweredFirst packets id (Answered answered answer) = StandsBehind packets answered id
AnsweredFirst packets id event = ⊤

-- of an event and those before it: what was answered before a submit stands before it
abbrev pub SubmittedLater : List Packet → List HistoryEvent → HistoryEvent → Type 0
SubmittedLater packets before (Submit id txn) = Each (AnsweredFirst packets id) before
SubmittedLater packets before event = ⊤

-- THE BODY OF A PACKET, by its id's transaction: an Independent has the operations, a Prelim the plan's locks
abbrev pub BodyOrigin : Txn → Body → Type 0
BodyOrigin txn (Independent operations) = txn ≡ Whole operations
BodyOrigin txn (Prelim locks) = (plan : PlanValue) × (txn ≡ General plan) × (locks ≡ locks_of plan)
BodyOrigin txn body = ⊤

-- A COMMIT'S WRITES are the plan's, made of values that a Read of the history has, with which the guards hold
pub record CommitOrigin (history : List HistoryEvent) (id : TxnId) (writes : List Write) : Type 0 where
  pub values : List (Option ℕ)
  pub read : IsIn (Read id values) history
  pub plan : PlanValue
  pub is : txn_of history id ≡ General plan
  pub guards : IsTrue (guards_hold plan.guards (value_in plan.keys values))
  pub writes_are : writes ≡ writes_from plan.settings (value_in plan.keys values)

abbrev pub HasCommitOrigin : List HistoryEvent → TxnId → Body → Type 0
HasCommitOrigin history id (Commit keys writes) = CommitOrigin history id writes
HasCommitOrigin history id body = ⊤

-- of a submitted transaction: it can be run
abbrev pub SubmitsWell : HistoryEvent → Type 0
SubmitsWell (Submit id txn) = CanRun txn
SubmitsWell event = ⊤

-- EVIDENCE for a history, by an order of packets
pub record Evidence (history : List HistoryEvent) (order : List Packet) : Type 0 where
  -- a transaction is submitted before a packet of it is stamped
  pub submitted : Each (λ packet. IsTrue (is_submitted history packet.id)) order
  pub submits : Each SubmitsWell history
  -- a stamp names exactly the shards that take part in its id's transaction
  pub shards : Each (λ packet. (shard : ShardId) → names_shard shard packet ≡ takes_part shard (txn_of history packet.id)) order
  pub bodies : Each (λ packet. BodyOrigin (txn_of history packet.id) packet.body) order
  pub commits : Each (λ packet. HasCommitOrigin history packet.id packet.body) order
  -- what was read, answered or told was said over the order
  pub counted : Each (Counted history order) history
  -- and what was answered before a submit stands before it
  pub later : EachAfter (SubmittedLater order) [] history

-- a Commit's writes are the plan's, made of values for which there is evidence
pub record CommitEvidence (txn : TxnId → Txn) (id : TxnId) (writes : List Write) (packets : List Packet) : Type 0 where
  pub values : List (Option ℕ)
  pub read : ReadEvidence txn id values packets
  pub guards : IsTrue (guards_hold read.plan.guards (value_in read.plan.keys values))
  pub writes_are : writes ≡ writes_from read.plan.settings (value_in read.plan.keys values)

abbrev pub HasCommitEvidence : (TxnId → Txn) → List Packet → TxnId → Body → Type 0
HasCommitEvidence txn packets id (Commit keys writes) = CommitEvidence txn id writes packets
HasCommitEvidence txn packets id body = ⊤

-- WHERE THE PACKETS OF AN ORDER COME FROM: what of the evidence speaks of the order alone
pub record Origins (txn : TxnId → Txn) (order : List Packet) : Type 0 where
  pub can_run : Each (λ packet. CanRun (txn packet.id)) order
  pub shards : Each (λ packet. (shard : ShardId) → names_shard shard packet ≡ takes_part shard (txn packet.id)) order
  pub bodies : Each (λ packet. BodyOrigin (txn packet.id) packet.body) order
  pub commits : Each (λ packet. HasCommitEvidence txn order packet.id packet.body) order
