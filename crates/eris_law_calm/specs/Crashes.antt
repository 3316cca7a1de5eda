-- WHICH REPLICAS ARE DOWN, by the list of those that crashed, and how many of a shard.
use Rattle.std.specs.Prelude.{ℕ, Bool, true, false, ◌+◌, ◌==◌, ◌&&◌, List, [], ◌∷◌}
use Rattle.std.specs.List.{list_any}
use Rattle.eris_base.specs.declared.ids.ReplicaId.{ReplicaId}
use Rattle.eris_base.specs.declared.ids.ShardId.{ShardId}

abbrev pub one_if : Bool → ℕ
one_if true = 1
one_if false = 0

-- a replica of a shard is among those that are down
abbrev pub is_down : List (ShardId × ReplicaId) → ℕ → ℕ → Bool
is_down down shard replica = list_any (λ pair. (pair.0.0 == shard) && (pair.1.0 == replica)) down

-- how many are down on a shard
abbrev pub how_many_down : List (ShardId × ReplicaId) → ℕ → ℕ
how_many_down [] shard = 0
how_many_down (pair ∷ down) shard = one_if (pair.0.0 == shard) + how_many_down down shard
