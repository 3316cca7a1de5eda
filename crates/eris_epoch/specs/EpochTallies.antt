-- What the coordinator notes on its way into an epoch: the first part that each replica of each shard sent
-- it.
use Rattle.std.specs.Prelude.{ℕ, zero, suc, Bool, true, ◌&&◌, ◌==◌, List, [], map, filter}
use Rattle.std.specs.Ordering.{nat_cmp, ordering_then}
use Rattle.std.specs.declared.cmp.Ordering.{Ordering}
use Rattle.eris_base.specs.declared.ids.Epoch.{Epoch}
use Rattle.eris_base.specs.declared.ids.ReplicaId.{ReplicaId}
use Rattle.eris_base.specs.declared.ids.ShardId.{ShardId}
use Rattle.eris_base.specs.ConfigLimits.{ConfigValue}
use Rattle.eris_base.specs.Quorums.{are_quorum}
use Rattle.eris_log.specs.PartValues.{PartValue}
use Rattle.eris_log.specs.Sorted.{with_item}
use Rattle.eris_epoch.specs.declared.noted.NotedPart.{NotedPart}

-- the epoch to come, the config, and the noted parts, each with the replica of its shard that sent it: by
-- shard and replica ascending, each replica of a shard once
pub record EpochTallyValue : Type 0 where
  pub target : Epoch
  pub config : ConfigValue
  pub noted : List NotedPart

unfoldable pub no_notes : Epoch → ConfigValue → EpochTallyValue
no_notes target config = record { target = target; config = config; noted = [] }

-- whose part it is
abbrev pub sender_of : NotedPart → ShardId × ReplicaId
sender_of one = (one.part.shard, one.replica)

-- by shard, then by replica
abbrev pub sender_cmp : ShardId × ReplicaId → ShardId × ReplicaId → Ordering
sender_cmp some other = ordering_then (nat_cmp some.0.0 other.0.0) (nat_cmp some.1.0 other.1.0)

-- the noted parts with this one, where none of its sender is noted yet
unfoldable pub with_noted : List NotedPart → NotedPart → List NotedPart
with_noted noted one = with_item sender_of sender_cmp noted one

-- the tally that notes the part of the replica; the first one of a sender counts
unfoldable pub note_state : EpochTallyValue → ReplicaId → PartValue → EpochTallyValue
note_state tally replica part = record tally { noted = with_noted tally.noted (record { replica = replica; part = part }) }

-- the replicas of a shard whose parts are noted
unfoldable pub replicas_of : List NotedPart → ℕ → List ReplicaId
replicas_of noted shard = map (λ one. one.replica) (filter (λ one. one.part.shard.0 == shard) noted)

-- at least f+1 different replicas of the shard are noted
unfoldable pub is_heard : List NotedPart → ℕ → ℕ → Bool
is_heard noted f shard = are_quorum (replicas_of noted shard) f

-- each shard below the number is heard
unfoldable pub are_heard : List NotedPart → ℕ → ℕ → Bool
are_heard noted f zero = true
are_heard noted f (suc shard) = are_heard noted f shard && is_heard noted f shard

-- every shard is heard
unfoldable pub is_ready : EpochTallyValue → Bool
is_ready tally = are_heard tally.noted tally.config.f tally.config.shards
