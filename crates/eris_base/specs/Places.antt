use Rattle.std.specs.Prelude.{ℕ, Bool, true, Option, Some, None, List, [], ◌∷◌, ◌==◌, ◌&&◌, nat_lt, length, find}
use Rattle.std.specs.Option.{option_map}
use Rattle.eris_base.specs.declared.ids.ShardId.{ShardId}

-- the shard is above the one before it, if there is one
abbrev pub is_later : Option ShardId → ShardId → Bool
is_later None shard = true
is_later (Some before) shard = nat_lt before.0 shard.0

-- the shards strictly ascend
abbrev pub ascends_from : Option ShardId → List (ShardId × ℕ) → Bool
ascends_from before [] = true
ascends_from before (place ∷ places) = is_later before place.0 && ascends_from (Some place.0) places

-- the places of a stamp: at least one, their shards strictly ascending
abbrev pub are_stamp_places : List (ShardId × ℕ) → Bool
are_stamp_places places = nat_lt 0 (length places) && ascends_from None places

-- the number that the places give a shard, if they name it
abbrev pub number_in : List (ShardId × ℕ) → ShardId → Option ℕ
number_in places shard = option_map (λ place. place.1) (find (λ place. place.0.0 == shard.0) places)
