-- What holds of the packets that survive an epoch, and of a shard's log of them.
use Rattle.std.specs.Prelude.{◌≡◌, ◌&&◌, ◌++◌, not, List, filter}
use Rattle.std.specs.List.{IsDistinct}
use Rattle.std.specs.List.Sorted.{IsStableByKey}
use Rattle.eris_base.specs.declared.ids.Epoch.{Epoch}
use Rattle.eris_base.specs.declared.ids.Place.{Place}
use Rattle.eris_base.specs.declared.ids.ShardId.{ShardId}
use Rattle.eris_txn.specs.declared.packet.Packet.{Packet}
use Rattle.eris_log.specs.Places.{any_among}
use Rattle.eris_epoch.specs.Closing.{held_in, undropped, each_once, names, turn_on}
use Rattle.eris_epoch.specs.EpochTallies.{EpochTallyValue}
use Rattle.eris_epoch.specs.SamePackets.{same_packet, is_listed}
use Rattle.eris_epoch.specs.Sorting.{InOrder, places_cmp, turn_cmp}

-- the list has exactly the packets that noted parts of the epoch hold and the found ones, without those that
-- have a dropped place, each once; none stands behind one whose places are above its, and those of one stamp
-- stand as the parts, by shard and replica, and then the found ones have them
pub record IsClosing (tally : EpochTallyValue) (last : Epoch) (found : List Packet) (dropped : List Place) (closed : List Packet) : Type 0 where
  pub members : (packet : Packet) → is_listed closed packet ≡ (is_listed (held_in last tally.noted ++ found) packet && not (any_among dropped packet.stamp))
  pub once : IsDistinct same_packet closed
  pub order : InOrder (λ packet. packet.stamp.places) places_cmp closed
  pub stable : IsStableByKey (λ packet. packet.stamp.places) places_cmp (each_once (undropped dropped (held_in last tally.noted ++ found))) closed

-- the log has exactly the packets that name the shard; none stands behind one whose epoch and number are above
-- its, and where these are equal they stand as in the list
pub record IsShardLog (closed : List Packet) (shard : ShardId) (log : List Packet) : Type 0 where
  pub members : (packet : Packet) → is_listed log packet ≡ (is_listed closed packet && names shard packet)
  pub order : InOrder (turn_on shard) turn_cmp log
  pub stable : IsStableByKey (turn_on shard) turn_cmp (filter (names shard) closed) log
