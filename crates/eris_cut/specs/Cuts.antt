-- There is one list of packets for each shard, and a cut takes a prefix of each. Which cuts are closed, which one is
-- the greatest, and which packets of an order stand within one.
use Rattle.std.specs.Prelude.{◌≡◌, ◌≤◌, ℕ, Bool, List, [], ◌∷◌, IsTrue, length, map, max, take, get_or}
use Rattle.std.specs.List.{filter, list_any}
use Rattle.eris_base.specs.declared.ids.ShardId.{ShardId}
use Rattle.eris_base.specs.declared.ids.TxnId.{TxnId}
use Rattle.eris_txn.specs.declared.packet.Packet.{Packet}
use Rattle.eris_locks.specs.Shards.{names_shard}
use Rattle.eris_locks.specs.States.{is_conclusory, is_prelim}
use Rattle.eris_epoch.specs.SamePackets.{is_listed}

-- the list of a shard, which is empty where none is given
abbrev pub log_of : List (List Packet) → ShardId → List Packet
log_of logs shard = get_or logs shard.0 []

-- how many of its packets a cut takes
abbrev pub length_of : List ℕ → ShardId → ℕ
length_of lengths shard = get_or lengths shard.0 0

-- and which
abbrev pub prefix_of : List (List Packet) → List ℕ → ShardId → List Packet
prefix_of logs lengths shard = take (length_of lengths shard) (log_of logs shard)

-- some Commit or Abort of the id stands in the prefix of some shard
pub record IsConcluded (logs : List (List Packet)) (lengths : List ℕ) (id : TxnId) : Type 0 where
  pub shard : ShardId
  pub conclusory : Packet
  pub there : IsTrue (is_listed (prefix_of logs lengths shard) conclusory)
  pub of_id : conclusory.id ≡ id
  pub concludes : IsTrue (is_conclusory conclusory.body)

-- A CLOSED CUT: it has a length for each list, and none that is above its list's; each packet in a prefix stands in
-- the prefix of every shard that its stamp names; and for each preliminary in a prefix some Commit or Abort of its id
-- stands in one
pub record IsClosed (logs : List (List Packet)) (lengths : List ℕ) : Type 0 where
  pub one_each : length lengths ≡ length logs
  pub within : (shard : ShardId) → length_of lengths shard ≤ length (log_of logs shard)
  pub whole : (shard other : ShardId) (packet : Packet) → IsTrue (is_listed (prefix_of logs lengths shard) packet)
      → IsTrue (names_shard other packet) → IsTrue (is_listed (prefix_of logs lengths other) packet)
  pub concluded : (shard : ShardId) (packet : Packet) → IsTrue (is_listed (prefix_of logs lengths shard) packet)
      → IsTrue (is_prelim packet.body) → IsConcluded logs lengths packet.id

-- THE GREATEST CLOSED CUT: on every shard each closed cut takes at most as much
pub record IsGreatest (logs : List (List Packet)) (lengths : List ℕ) : Type 0 where
  pub closed : IsClosed logs lengths
  pub greatest : (others : List ℕ) → IsClosed logs others → (shard : ShardId) → length_of others shard ≤ length_of lengths shard

-- the cut that takes nothing
abbrev pub zeros : List (List Packet) → List ℕ
zeros logs = map (λ log. 0) logs

-- of two cuts the greater, shard by shard
abbrev pub greater : List ℕ → List ℕ → List ℕ
greater [] others = others
greater (some ∷ lengths) [] = some ∷ lengths
greater (some ∷ lengths) (other ∷ others) = max some other ∷ greater lengths others

-- the packet stands in the prefix of a shard that its stamp names
abbrev pub is_within : List (List Packet) → List ℕ → Packet → Bool
is_within logs lengths packet = list_any (λ place. is_listed (prefix_of logs lengths place.0) packet) packet.stamp.places

-- THE PART OF AN ORDER within a cut: its packets that stand in the prefixes, in the order's order
abbrev pub part_of : List Packet → List (List Packet) → List ℕ → List Packet
part_of order logs lengths = filter (λ packet. is_within logs lengths packet) order
