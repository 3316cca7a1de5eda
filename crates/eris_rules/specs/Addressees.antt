-- Whom a step sends to, in the order in which it sends.
use Rattle.std.specs.Prelude.{ℕ, ◌+◌, ◌*◌, ◌==◌, not, List, map}
use Rattle.std.specs.List.{filter, flat_map, range_with_len}
use Rattle.eris_base.specs.declared.ids.Node.{Node}
use Rattle.eris_base.specs.declared.ids.Node.TheVariants.{Replica}
use Rattle.eris_base.specs.declared.ids.ReplicaId.{ReplicaId}
use Rattle.eris_base.specs.declared.ids.ShardId.{ShardId}
use Rattle.eris_base.specs.ConfigLimits.{ConfigValue}

-- how many replicas a shard has
abbrev pub replica_count : ConfigValue → ℕ
replica_count config = 2 * config.f + 1

abbrev pub replica_node : ShardId → ℕ → Node
replica_node shard number = Replica shard (record { 0 = number })

-- every replica of a shard, ascending
unfoldable pub shard_replicas : ConfigValue → ShardId → List Node
shard_replicas config shard = map (λ number. replica_node shard number) (range_with_len 0 (replica_count config))

-- TO ALL: every replica of every shard, shard ascending, then replica ascending
unfoldable pub all_replicas : ConfigValue → List Node
all_replicas config = flat_map (λ number. shard_replicas config (record { 0 = number })) (range_with_len 0 config.shards)

-- TO THE OTHERS: the other replicas of the own shard, ascending
unfoldable pub other_replicas : ConfigValue → ShardId → ReplicaId → List Node
other_replicas config shard own =
    map (λ number. replica_node shard number) (filter (λ number. not (number == own.0)) (range_with_len 0 (replica_count config)))
