-- An answer joined from the shards' answers, by whatever function takes their items in turn.
use Rattle.std.specs.Prelude.{◌≡◌, List, [], ◌∷◌, ◌==◌, map, if◌then◌else◌}
use Rattle.std.specs.List.{filter}
use Rattle.eris_base.specs.declared.ids.ShardId.{ShardId}
use Rattle.eris_txn.specs.declared.key.Key.{Key}
use Rattle.eris_locks.specs.Shards.{is_on}
use Rattle.eris_serial.specs.Shares.{share, OneForEach}

-- the shards' lists, where of one shard's only this rest is left
abbrev pub with_rest : {A : Type 0} → ShardId → List A → (ShardId → List A) → ShardId → List A
with_rest shard rest given = λ other. if other.0 == shard.0 then rest else given other

-- A FUNCTION TAKES IN TURN: of no shard it makes nothing; and of a shard whose list has an item, and of more
-- shards, it makes that item and what it makes of those with the rest
pub record TakesInTurn {A : Type 0} (take : List ShardId → (ShardId → List A) → List A) : Type 0 where
  pub none : (given : ShardId → List A) → take [] given ≡ []
  pub next : (shard : ShardId) (shards : List ShardId) (given : ShardId → List A) (item : A) (rest : List A)
      → given shard ≡ item ∷ rest → take (shard ∷ shards) given ≡ item ∷ take shards (with_rest shard rest given)

-- the shards of keys, in order
abbrev pub shards_in_order : List Key → List ShardId
shards_in_order keys = map (λ key. key.shard) keys

-- a list of one item for each place, of which each shard's share is what the shard gave
pub record IsJoined {X A : Type 0} (key_in : X → Key) (places : List X) (given : ShardId → List A) (items : List A) : Type 0 where
  pub each : OneForEach places items
  pub shares : (shard : ShardId) → share (λ place. is_on shard (key_in place)) places items ≡ given shard

-- each shard gave one item for each of its places
abbrev pub GaveEach : {X A : Type 0} → (X → Key) → List X → (ShardId → List A) → Type 0
GaveEach key_in places given = (shard : ShardId) → OneForEach (filter (λ place. is_on shard (key_in place)) places) (given shard)
