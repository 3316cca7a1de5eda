-- What an epoch leaves: the packets that survive it, and each shard's log of them.
use Rattle.std.specs.Prelude.{ℕ, Bool, not, ◌==◌, ◌++◌, List, [], ◌∷◌, map, filter, fold, is_some, unwrap_or, if◌then◌else◌}
use Rattle.std.specs.List.{flat_map}
use Rattle.eris_base.specs.declared.ids.Epoch.{Epoch}
use Rattle.eris_base.specs.declared.ids.Place.{Place}
use Rattle.eris_base.specs.declared.ids.ShardId.{ShardId}
use Rattle.eris_base.specs.Places.{number_in}
use Rattle.eris_txn.specs.declared.packet.Packet.{Packet}
use Rattle.eris_log.specs.Places.{any_among}
use Rattle.eris_epoch.specs.declared.noted.NotedPart.{NotedPart}
use Rattle.eris_epoch.specs.EpochTallies.{EpochTallyValue}
use Rattle.eris_epoch.specs.SamePackets.{is_listed}
use Rattle.eris_epoch.specs.Sorting.{sorted, places_cmp, turn_cmp}

-- the packets that a noted part holds, where it is of the epoch
unfoldable pub held_of : Epoch → NotedPart → List Packet
held_of epoch one = if one.part.epoch.0 == epoch.0 then map (λ pair. pair.1) one.part.held else []

-- the packets that noted parts of the epoch hold, by shard and replica
unfoldable pub held_in : Epoch → List NotedPart → List Packet
held_in epoch noted = flat_map (λ one. held_of epoch one) noted

-- the packets without those that have a dropped place
unfoldable pub undropped : List Place → List Packet → List Packet
undropped dropped packets = filter (λ packet. not (any_among dropped packet.stamp)) packets

-- the list with the packet at its end, unless it stands there already
unfoldable pub with_new : List Packet → Packet → List Packet
with_new packets packet = if is_listed packets packet then packets else packets ++ packet ∷ []

-- each packet once, where it stands first
unfoldable pub each_once : List Packet → List Packet
each_once packets = fold (λ made packet. with_new made packet) [] packets

-- the packets in the order of their stamps' lists of places; different packets of one stamp stay as they are
unfoldable pub by_places : List Packet → List Packet
by_places packets = sorted (λ packet. packet.stamp.places) places_cmp packets

-- the packets that survive the epoch: those that noted parts of it hold and then the found ones, without
-- those that have a dropped place, each once, ascending by their stamps' lists of places
unfoldable pub close : EpochTallyValue → Epoch → List Packet → List Place → List Packet
close tally last found dropped = by_places (each_once (undropped dropped (held_in last tally.noted ++ found)))

-- the packet names the shard
abbrev pub names : ShardId → Packet → Bool
names shard packet = is_some (number_in packet.stamp.places shard)

-- the packet's epoch and its number on the shard
abbrev pub turn_on : ShardId → Packet → Epoch × ℕ
turn_on shard packet = (packet.stamp.epoch, unwrap_or (number_in packet.stamp.places shard) 0)

-- the packets that name the shard, by epoch and number; where these are equal they keep their order
unfoldable pub shard_log : List Packet → ShardId → List Packet
shard_log closed shard = sorted (turn_on shard) turn_cmp (filter (names shard) closed)
