use Rattle.std.specs.Prelude.{ℕ, List}
use Rattle.eris_txn.specs.declared.key.Key.{Key}
use Rattle.eris_txn.specs.KeyValues.{values_of}
use Rattle.eris_locks.specs.declared.done.Done.{Done}
use Rattle.eris_locks.specs.declared.held.Held.{Held}
use Rattle.eris_locks.specs.declared.shard_packet.ShardPacket.{ShardPacket}
use Rattle.eris_locks.specs.LockTable.{Stepped}
use Rattle.eris_locks.specs.States.{StoreState}
use Rattle.eris_plain_store.specs.declared.ledger.Decided.{Decided}
use Rattle.eris_plain_store.specs.declared.ledger.Recorded.{Recorded}
use Rattle.eris_plain_store.specs.Ledgers.{recorded_in, decided_in}

-- what a plain store keeps: the keys that have a value, with it; answers and outcomes, the newest first; and two lists
pub record PlainValue : Type 0 where
  pub entries : List (Key × ℕ)
  pub recorded : List Recorded
  pub decided : List Decided
  pub holding : List Held
  pub waiting : List ShardPacket

-- the state of the lock table that it stands for
abbrev pub plain_state : PlainValue → StoreState
plain_state value = record {
  values = values_of value.entries;
  recorded = recorded_in value.recorded;
  decided = decided_in value.decided;
  holding = value.holding;
  waiting = value.waiting;
}

-- the state that is left, with the answers
abbrev pub plain_stepped : PlainValue → List Done → Stepped
plain_stepped value dones = record { state = plain_state value; dones = dones }
