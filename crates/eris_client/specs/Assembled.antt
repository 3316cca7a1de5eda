-- An answer over many shards, item by item: the next one of the item's shard is as many items on as the shard
-- had before.
use Rattle.std.specs.Prelude.{ℕ, ◌==◌, List, [], ◌∷◌, ◌++◌, count_by, slice_get}
use Rattle.std.specs.List.{cons_option}
use Rattle.eris_base.specs.declared.ids.ShardId.{ShardId}

-- how often the shard stands among the shards
abbrev pub count_of : List ShardId → ShardId → ℕ
count_of shards shard = count_by (λ other. other.0 == shard.0) shards

abbrev pub assembled : {A : Type 0} → List ShardId → List ShardId → (ShardId → List A) → List A
assembled before [] lists = []
assembled before (shard ∷ shards) lists =
    cons_option (slice_get (lists shard) (count_of before shard)) (assembled (before ++ shard ∷ []) shards lists)
