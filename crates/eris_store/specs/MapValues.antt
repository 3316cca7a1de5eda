use Rattle.std.specs.Prelude.{ℕ, List}
use Rattle.eris_base.specs.declared.ids.TxnId.{TxnId}
use Rattle.eris_txn.specs.declared.answer.Answer.{Answer}
use Rattle.eris_txn.specs.declared.key.Key.{Key}
use Rattle.eris_txn.specs.KeyValues.{values_of}
use Rattle.eris_locks.specs.declared.done.Done.{Done}
use Rattle.eris_locks.specs.declared.held.Held.{Held}
use Rattle.eris_locks.specs.declared.shard_packet.ShardPacket.{ShardPacket}
use Rattle.eris_locks.specs.LockTable.{Stepped}
use Rattle.eris_locks.specs.States.{StoreState}
use Rattle.eris_store.specs.Ledgers.{AnswersValue, answer_in, recorded_in}

-- what a store keeps: the keys that have a value, with it; answers by phase and id; outcomes by id; and two lists
pub record MapValue : Type 0 where
  pub entries : List (Key × ℕ)
  pub answers : AnswersValue
  pub outcomes : List (TxnId × Answer)
  pub holding : List Held
  pub waiting : List ShardPacket

-- the state of the lock table that it stands for
abbrev pub map_state : MapValue → StoreState
map_state value = record {
  values = values_of value.entries;
  recorded = recorded_in value.answers;
  decided = answer_in value.outcomes;
  holding = value.holding;
  waiting = value.waiting;
}

-- the state that is left, with the answers
abbrev pub map_stepped : MapValue → List Done → Stepped
map_stepped value dones = record { state = map_state value; dones = dones }
