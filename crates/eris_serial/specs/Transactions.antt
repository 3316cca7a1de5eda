-- What a transaction is to the shards, and what it must have so that it can be run.
use Rattle.std.specs.Prelude.{◌≡◌, Bool, true, false, List, [], map}
use Rattle.eris_base.specs.declared.ids.ShardId.{ShardId}
use Rattle.eris_txn.specs.declared.key.Key.{Key}
use Rattle.eris_txn.specs.declared.txn.Txn.{Txn}
use Rattle.eris_txn.specs.declared.txn.Txn.TheVariants.{Whole, General}
use Rattle.eris_txn.specs.Bodies.{any_on}
use Rattle.eris_txn.specs.Operations.{key_of}
use Rattle.eris_txn.specs.PlanFaults.{sets_twice, all_locked}
use Rattle.eris_txn.specs.PlanValues.{PlanValue}

-- the keys of a transaction
abbrev pub keys_in : Txn → List Key
keys_in (Whole operations) = map key_of operations
keys_in (General plan) = plan.keys

-- a shard takes part in a transaction where one of the keys is of the shard
abbrev pub takes_part : ShardId → Txn → Bool
takes_part shard txn = any_on (keys_in txn) shard

-- of a plan: it locks some key, sets no key twice, and guards and sets only keys that it locks
pub record CanRunPlan (plan : PlanValue) : Type 0 where
  pub some_key : plan.keys ≡ [] → ⊥
  pub sets_once : sets_twice plan.settings ≡ false
  pub names_locked : all_locked plan.keys plan.guards plan.settings ≡ true

-- of a whole transaction: it has some operation
abbrev pub CanRun : Txn → Type 0
CanRun (Whole operations) = operations ≡ [] → ⊥
CanRun (General plan) = CanRunPlan plan
