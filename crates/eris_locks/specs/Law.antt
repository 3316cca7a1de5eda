use Rattle.std.specs.Prelude.{◌≡◌, ◌⊎◌, Bool, true, false, Some, None, List, [], ◌∷◌, ◌++◌, ⊤}
use Rattle.std.specs.List.{list_any}
use Rattle.eris_base.specs.declared.ids.Phase.{Phase}
use Rattle.eris_base.specs.declared.ids.TxnId.{TxnId}
use Rattle.eris_txn.specs.declared.answer.Answer.{Answer}
use Rattle.eris_txn.specs.declared.answer.Answer.TheVariants.{Aborted}
use Rattle.eris_txn.specs.Keys.{Values, no_values}
use Rattle.eris_locks.specs.declared.done.Done.{Done}
use Rattle.eris_locks.specs.declared.shard_packet.ShardPacket.{ShardPacket}
use Rattle.eris_locks.specs.LockTable.{run_state}
use Rattle.eris_locks.specs.ShardRun.{Served, plain_run, plain_values, outcome_in}
use Rattle.eris_locks.specs.States.{StoreState, phase_of, holds, is_prelim_of, empty}
use Rattle.eris_base.specs.TxnIds.{same_id}

abbrev pub StandsIn : Served → List Served → Type 0
StandsIn served [] = ⊥
StandsIn served (other ∷ others) = (other ≡ served) ⊎ StandsIn served others

-- the id is among those answered
abbrev pub is_served : TxnId → List Served → Bool
is_served id served = list_any (λ other. same_id id other.id) served

-- no id is answered twice
abbrev pub EachIdOnce : List Served → Type 0
EachIdOnce [] = ⊤
EachIdOnce (served ∷ others) = (is_served served.id others ≡ false) × EachIdOnce others

-- the plain run from the beginning, with no value at any key
abbrev pub plain_answers : List ShardPacket → List Served
plain_answers packets = plain_run no_values [] [] packets

abbrev pub plain_end : List ShardPacket → Values
plain_end packets = plain_values no_values [] [] packets

-- the plain run answers the id so
abbrev pub IsPlain : List ShardPacket → TxnId → Answer → Type 0
IsPlain packets id answer = StandsIn (record { id = id; answer = answer }) (plain_answers packets)

-- When the id was decided, which its first conclusory packet does, its preliminary waited or had not been
-- stepped. The list is cut at that packet.
pub record EndedEarly (packets : List ShardPacket) (id : TxnId) : Type 0 where
  pub before : List ShardPacket
  pub conclusory : ShardPacket
  pub rest : List ShardPacket
  pub cut : packets ≡ before ++ conclusory ∷ rest
  pub of_id : conclusory.id ≡ id
  pub concludes : phase_of conclusory.body ≡ Phase.Conclude
  pub first : outcome_in id before ≡ None
  pub unread : (list_any (is_prelim_of id) (run_state empty before).waiting ≡ true) ⊎ (list_any (is_prelim_of id) before ≡ false)

-- a preliminary's values, which it read before its id was decided
pub record IsReadInTime (packets : List ShardPacket) (id : TxnId) (answer : Answer) : Type 0 where
  pub plain : IsPlain packets id answer
  pub in_time : EndedEarly packets id → ⊥

-- why a preliminary is answered Aborted
pub record IsAbortedEarly (packets : List ShardPacket) (id : TxnId) (answer : Answer) : Type 0 where
  pub is : answer ≡ Aborted
  pub outcome : outcome_in id packets ≡ Some Aborted
  pub ended : EndedEarly packets id

-- WHAT AN ANSWER IS, by its phase: a Whole's is the plain run's; a Prelim's is the plain run's, or Aborted
-- exactly where it was ended early; a conclusion's is what the id's first conclusory packet says
abbrev pub IsRight : List ShardPacket → Phase → TxnId → Answer → Type 0
IsRight packets Phase.Whole id answer = IsPlain packets id answer
IsRight packets Phase.Prelim id answer = IsReadInTime packets id answer ⊎ IsAbortedEarly packets id answer
IsRight packets Phase.Conclude id answer = outcome_in id packets ≡ Some answer

abbrev pub IsRightDone : List ShardPacket → Done → Type 0
IsRightDone packets given = IsRight packets given.phase given.id given.answer

-- a store said so
abbrev pub Said : TxnId → Phase → Answer → List Done → Type 0
Said id phase answer [] = ⊥
Said id phase answer (given ∷ dones) =
    ((given.id ≡ id) × (given.phase ≡ phase) × (given.answer ≡ answer)) ⊎ Said id phase answer dones

-- a packet of an id and a phase came
abbrev pub HasPacket : TxnId → Phase → List ShardPacket → Type 0
HasPacket id phase [] = ⊥
HasPacket id phase (packet ∷ packets) =
    ((packet.id ≡ id) × (phase_of packet.body ≡ phase)) ⊎ HasPacket id phase packets

-- it holds, or its id is decided
abbrev pub HoldsOrDecided : StoreState → TxnId → Type 0
HoldsOrDecided state id = state.decided id ≡ None → holds id state.holding ≡ true
