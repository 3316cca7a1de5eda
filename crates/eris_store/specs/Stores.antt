use Rattle.std.specs.Prelude.{Bool, true, false, List}
use Rattle.eris_base.specs.declared.ids.ShardId.{ShardId}
use Rattle.eris_txn.specs.declared.packet.Packet.{Packet}
use Rattle.eris_locks.specs.declared.done.Done.{Done}
use Rattle.eris_locks.specs.LockTable.{Stepped, nothing_done, step}
use Rattle.eris_locks.specs.Shards.{cut, names_shard}
use Rattle.eris_locks.specs.States.{StoreState}
use Rattle.eris_store.specs.MapValues.{MapValue, map_state}

-- a lock store: of which shard it is, what it keeps, and whether memory has run out
pub record StoreValue : Type 0 where
  pub shard : ShardId
  pub kept : MapValue
  pub spent : Bool

-- the state of the lock table that a store stands for
abbrev pub state_of : StoreValue → StoreState
state_of store = map_state store.kept

-- the state that is left, with the answers
abbrev pub stepped : StoreValue → List Done → Stepped
stepped store dones = record { state = state_of store; dones = dones }

-- the step of a packet that may be for other shards alone, which then changes nothing
abbrev pub step_named : ShardId → StoreState → Packet → Stepped
step_named shard state packet =
    elim (names_shard shard packet) [ true ↦ step state (cut shard packet) | false ↦ nothing_done state ]
