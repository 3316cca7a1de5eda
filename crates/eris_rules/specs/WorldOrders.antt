-- The order that a world makes of what was stamped.
use Rattle.std.specs.Prelude.{ℕ, Bool, false, not, ◌==◌, ◌&&◌, ◌||◌, Option, Some, None, List}
use Rattle.std.specs.List.{filter, flat_map, list_any}
use Rattle.eris_base.specs.declared.ids.Epoch.{Epoch}
use Rattle.eris_base.specs.declared.ids.ShardId.{ShardId}
use Rattle.eris_base.specs.Places.{number_in}
use Rattle.eris_txn.specs.declared.packet.Packet.{Packet}
use Rattle.eris_log.specs.Entries.{is_held_and}
use Rattle.eris_log.specs.Held.{packet_at}
use Rattle.eris_log.specs.PartValues.{PartValue}
use Rattle.eris_log.specs.Places.{any_among}
use Rattle.eris_audit.specs.declared.order_line.OrderLine.{OrderLine}
use Rattle.eris_order.specs.Orders.{packets_on, order_lines}
use Rattle.eris_epoch.specs.SamePackets.{same_packet, is_listed}
use Rattle.eris_sequencer.specs.declared.stamping.Stamping.{Stamping}
use Rattle.eris_rules.specs.ReplicaStates.{ReplicaState}
use Rattle.eris_rules.specs.Worlds.{WorldState}

-- THE STAMPING LIST: all stamped packets, by epochs, and within an epoch as its sequencer stamped them. One
-- stamping gives one number in each named shard, so this one list orders the packets of every shard.
unfoldable pub stamping_list : List Stamping → List Packet
stamping_list stampings = flat_map (λ stamping. stamping.stamped) stampings

-- the packet is held at the number that its stamp gives the part's shard
abbrev pub is_held_at : PartValue → Packet → Option ℕ → Bool
is_held_at part packet None = false
is_held_at part packet (Some number) = is_held_and (λ other. same_packet packet other) (packet_at part.held number)

abbrev pub has_packet : PartValue → Packet → Bool
has_packet part packet = is_held_at part packet (number_in packet.stamp.places part.shard)

-- the replica is in the epoch and holds the packet
unfoldable pub is_held_by : Epoch → Packet → ReplicaState → Bool
is_held_by epoch packet replica = replica.epoch.0 == epoch.0 && has_packet replica.inner.part packet

-- some replica of the epoch holds the packet, be it crashed or not
unfoldable pub is_held_in : Epoch → List (List ReplicaState) → Packet → Bool
is_held_in epoch replicas packet = list_any (λ row. list_any (is_held_by epoch packet) row) replicas

-- a packet of the current epoch that isn't dropped, and that somebody has
unfoldable pub survives_now : WorldState → Packet → Bool
survives_now world packet =
    packet.stamp.epoch.0 == world.coordinator.current.0
    && (not (any_among world.coordinator.inner.dropped packet.stamp)
    && (is_listed world.coordinator.inner.found packet || is_held_in world.coordinator.current world.replicas packet))

-- THE SURVIVORS: the closed packets, and those of the current epoch that aren't dropped and that somebody has. An
-- epoch that is neither closed nor current has none.
unfoldable pub survives : WorldState → Packet → Bool
survives world packet = is_listed world.coordinator.closed packet || survives_now world packet

-- THE ORDER: the stamping list without what doesn't survive
unfoldable pub order : WorldState → List Packet
order world = filter (survives world) (stamping_list world.stampings)

-- the lines of the order
unfoldable pub lines_of_world : WorldState → List OrderLine
lines_of_world world = order_lines (order world)

-- the order on a shard
unfoldable pub order_on : ShardId → WorldState → List Packet
order_on shard world = packets_on shard (order world)
