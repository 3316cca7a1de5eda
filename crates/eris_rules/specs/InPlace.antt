-- Messages that are in place. One that is out of place changes nothing at a node and sends nothing, so bytes
-- that decode but that no node would send do no harm.
use Rattle.std.specs.Prelude.{ℕ, Bool, true, false, ◌==◌, ◌&&◌, nat_lt, List, [], ◌∷◌, map}
use Rattle.std.specs.List.{list_all}
use Rattle.eris_base.specs.declared.ids.Epoch.{Epoch}
use Rattle.eris_base.specs.declared.ids.ShardId.{ShardId}
use Rattle.eris_base.specs.declared.stamp.Stamp.{Stamp}
use Rattle.eris_base.specs.ConfigLimits.{ConfigValue}
use Rattle.eris_base.specs.Places.{number_in}
use Rattle.eris_base.specs.StampPlaces.{is_number}
use Rattle.eris_txn.specs.declared.packet.Packet.{Packet}
use Rattle.eris_txn.specs.Bodies.{participants_of}
use Rattle.eris_log.specs.PartValues.{PartValue}
use Rattle.eris_log.specs.Places.{places_ascend}
use Rattle.eris_locks.specs.Shards.{names_shard, place_on}
use Rattle.eris_epoch.specs.SamePackets.{same_list}
use Rattle.eris_msg.specs.declared.message.Message.{Message}
use Rattle.eris_rules.specs.Known.{knows_all}

-- the stamp names exactly the participants of the body
unfoldable pub names_exactly : Stamp → List ShardId → Bool
names_exactly stamp shards = same_list (λ some other. some.0 == other.0) (map (λ place. place.0) stamp.places) shards

abbrev pub names_participants : Packet → Bool
names_participants packet = names_exactly packet.stamp (participants_of packet.body)

unfoldable pub all_name_participants : List Packet → Bool
all_name_participants packets = list_all (λ packet. names_participants packet) packets

-- the packets in a part
abbrev pub packets_held : PartValue → List Packet
packets_held part = map (λ pair. pair.1) part.held

-- THE PACKETS in a message
abbrev pub packets_in : Message → List Packet
packets_in (Message.Txn packet) = packet ∷ []
packets_in (Message.Has packet) = packet ∷ []
packets_in (Message.Found packet) = packet ∷ []
packets_in (Message.ViewChange replica view part) = packets_held part
packets_in (Message.StartView view part) = packets_held part
packets_in (Message.EpochState replica epoch part) = packets_held part
packets_in (Message.StartEpoch epoch shard packets) = packets
packets_in message = []

-- a packet of the part's epoch, whose stamp gives the part's shard the number at which it is held
abbrev pub is_held_right : PartValue → ℕ × Packet → Bool
is_held_right part pair =
    pair.1.stamp.epoch.0 == part.epoch.0 && is_number (number_in pair.1.stamp.places part.shard) pair.0

unfoldable pub is_right_part : PartValue → Bool
is_right_part part = list_all (is_held_right part) part.held

-- THE PART in a message holds each packet rightly
abbrev pub has_right_part : Message → Bool
has_right_part (Message.ViewChange replica view part) = is_right_part part
has_right_part (Message.StartView view part) = is_right_part part
has_right_part (Message.EpochState replica epoch part) = is_right_part part
has_right_part message = true

-- the packets all name the shard
unfoldable pub all_name_shard : ShardId → List Packet → Bool
all_name_shard shard packets = list_all (λ packet. names_shard shard packet) packets

-- the packets strictly ascend by epoch and number on the shard
unfoldable pub ascend_on : ShardId → List Packet → Bool
ascend_on shard packets = places_ascend (map (λ packet. place_on shard packet.stamp) packets)

-- each packet is of an epoch below this one
unfoldable pub all_below : Epoch → List Packet → Bool
all_below epoch packets = list_all (λ packet. nat_lt packet.stamp.epoch.0 epoch.0) packets

-- A START of an epoch has a shard's log of the epochs before
abbrev pub has_right_log : Message → Bool
has_right_log (Message.StartEpoch epoch shard packets) =
    all_name_shard shard packets && (ascend_on shard packets && all_below epoch packets)
has_right_log message = true

-- what is asked of a message of every kind
unfoldable pub is_sound : ConfigValue → Message → Bool
is_sound config message =
    knows_all config message
    && (all_name_participants (packets_in message) && (has_right_part message && has_right_log message))

-- the kinds that a replica takes
abbrev pub is_for_replica : Message → Bool
is_for_replica (Message.Txn packet) = true
is_for_replica (Message.Request place) = true
is_for_replica (Message.Found packet) = true
is_for_replica (Message.Dropped place) = true
is_for_replica (Message.ViewChange replica view part) = true
is_for_replica (Message.StartView view part) = true
is_for_replica (Message.SyncAsk epoch view) = true
is_for_replica (Message.Ack replica epoch view length) = true
is_for_replica (Message.Settled epoch view number places) = true
is_for_replica (Message.EpochAsk epoch) = true
is_for_replica (Message.StartEpoch epoch shard packets) = true
is_for_replica message = false

-- the kinds that the coordinator takes
abbrev pub is_for_coordinator : Message → Bool
is_for_coordinator (Message.Find replica place) = true
is_for_coordinator (Message.Has packet) = true
is_for_coordinator (Message.TempDropped place shard replica view) = true
is_for_coordinator (Message.NewEpoch shard replica epoch) = true
is_for_coordinator (Message.EpochState replica epoch part) = true
is_for_coordinator message = false

-- the kinds that a client takes
abbrev pub is_for_client : Message → Bool
is_for_client (Message.Vouch view shard replica stamp id phase) = true
is_for_client (Message.Reply view shard replica stamp id phase answer) = true
is_for_client (Message.Late shard replica id phase answer) = true
is_for_client message = false

-- A MESSAGE IN PLACE at a replica, at the coordinator, and at a client, which asks more of it: that it fits what
-- the client waits for
unfoldable pub is_in_place_at_replica : ConfigValue → Message → Bool
is_in_place_at_replica config message = is_for_replica message && is_sound config message

unfoldable pub is_in_place_at_coordinator : ConfigValue → Message → Bool
is_in_place_at_coordinator config message = is_for_coordinator message && is_sound config message

unfoldable pub is_in_place_at_client : ConfigValue → Message → Bool
is_in_place_at_client config message = is_for_client message && is_sound config message
