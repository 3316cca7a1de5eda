-- The state of one replica at one moment of a run. It is total: where there is no such replica it reads as a
-- fresh one, so that no statement needs to say that there is one.
use Rattle.std.specs.Prelude.{ℕ, Option, Some, None, List}
use Rattle.eris_base.specs.declared.ids.ReplicaId.{ReplicaId}
use Rattle.eris_base.specs.declared.ids.ShardId.{ShardId}
use Rattle.eris_rules.specs.ReplicaStates.{EpochReplica, fresh}
use Rattle.eris_rules.specs.Worlds.{replica_at}
use Rattle.eris_law_epoch.specs.EpochWorlds.{EpochSystem, EpochEvent, moment}

abbrev pub or_fresh : EpochReplica → Option EpochReplica → EpochReplica
or_fresh none None = none
or_fresh none (Some state) = state

-- the replica's state among these rows
unfoldable pub read : EpochSystem → List (List EpochReplica) → ShardId → ReplicaId → EpochReplica
read system rows shard replica = or_fresh (fresh system.epoch shard) (replica_at rows shard replica)

-- THE REPLICA at a moment of the run
abbrev pub replica_then : EpochSystem → List EpochEvent → ℕ → ShardId → ReplicaId → EpochReplica
replica_then system events number shard replica = read system (moment system events number).replicas shard replica
