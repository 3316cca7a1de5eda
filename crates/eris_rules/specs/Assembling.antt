-- An answer over many shards, of the lists that the shards give.
use Rattle.std.specs.Prelude.{◌==◌, List, [], ◌∷◌, if◌then◌else◌}
use Rattle.eris_base.specs.declared.ids.ShardId.{ShardId}

-- the lists, where one shard has only this rest of its own
abbrev pub with_rest : {A : Type 0} → ShardId → List A → (ShardId → List A) → ShardId → List A
with_rest shard rest lists = λ other. if other.0 == shard.0 then rest else lists other

-- each shard in turn takes the next item of its own list
abbrev pub assemble : {A : Type 0} → List ShardId → (ShardId → List A) → List A
assemble [] lists = []
assemble (shard ∷ shards) lists =
    elim (lists shard) [
      | [] ↦ assemble shards lists
      | item ∷ rest ↦ item ∷ assemble shards (with_rest shard rest lists)
    ]
