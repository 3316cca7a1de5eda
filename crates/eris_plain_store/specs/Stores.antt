use Rattle.std.specs.Prelude.{Bool, List}
use Rattle.eris_base.specs.declared.ids.ShardId.{ShardId}
use Rattle.eris_locks.specs.declared.done.Done.{Done}
use Rattle.eris_locks.specs.LockTable.{Stepped}
use Rattle.eris_locks.specs.States.{StoreState}
use Rattle.eris_plain_store.specs.PlainValues.{PlainValue, plain_state}

-- a state that is left, with the answers
abbrev pub left_with : StoreState → List Done → Stepped
left_with state dones = record { state = state; dones = dones }

-- a plain store: of which shard it is, what it keeps, and whether memory has run out
pub record StoreValue : Type 0 where
  pub shard : ShardId
  pub kept : PlainValue
  pub spent : Bool

-- the state of the lock table that a plain store stands for
abbrev pub state_of : StoreValue → StoreState
state_of store = plain_state store.kept
