use Rattle.std.specs.Prelude.{Bool, true, Option, Some, List, [], ◌∷◌, map, fold, ◌==◌, ◌&&◌, nat_lt, if◌then◌else◌}
use Rattle.std.specs.List.{list_any}
use Rattle.eris_base.specs.declared.ids.ShardId.{ShardId}
use Rattle.eris_base.specs.Places.{is_later}
use Rattle.eris_txn.specs.declared.body.Body.{Body}
use Rattle.eris_txn.specs.declared.body.Body.TheVariants.{Independent, Prelim, Commit, Abort}
use Rattle.eris_txn.specs.declared.key.Key.{Key}
use Rattle.eris_txn.specs.Operations.{key_of}

-- the keys that a body speaks of
abbrev pub keys_of : Body → List Key
keys_of (Independent ops) = map key_of ops
keys_of (Prelim locks) = map (λ lock. lock.key) locks
keys_of (Commit keys writes) = keys
keys_of (Abort keys) = keys

-- a shard put into its place among ascending ones, where it isn't there yet
abbrev pub with_shard : List ShardId → ShardId → List ShardId
with_shard [] shard = shard ∷ []
with_shard (other ∷ shards) shard =
    if nat_lt shard.0 other.0 then shard ∷ other ∷ shards
    else if shard.0 == other.0 then other ∷ shards
    else other ∷ with_shard shards shard

-- the shards of keys, ascending, each once
abbrev pub shards_of : List Key → List ShardId
shards_of keys = fold (λ shards key. with_shard shards key.shard) [] keys

-- the shards that take part in a body
abbrev pub participants_of : Body → List ShardId
participants_of body = shards_of (keys_of body)

-- the shards strictly ascend
abbrev pub ascends_from : Option ShardId → List ShardId → Bool
ascends_from before [] = true
ascends_from before (shard ∷ shards) = is_later before shard && ascends_from (Some shard) shards

-- the shard stands among the shards
abbrev pub has_shard : List ShardId → ShardId → Bool
has_shard shards shard = list_any (λ other. other.0 == shard.0) shards

-- one of the keys is of the shard
abbrev pub any_on : List Key → ShardId → Bool
any_on keys shard = list_any (λ key. key.shard.0 == shard.0) keys
