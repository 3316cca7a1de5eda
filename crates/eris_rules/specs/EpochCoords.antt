-- The step of the coordinator within one epoch: it finds the packet of a place that a replica lacks, or drops
-- the place for good, and never both. A packet is dropped as a whole: one dropped place is enough.
use Rattle.std.specs.Prelude.{not, Option, Some, None, List, [], ◌∷◌, ◌++◌, find, fold, if◌then◌else◌}
use Rattle.std.specs.List.{filter, flat_map}
use Rattle.eris_base.specs.declared.ids.Node.{Node}
use Rattle.eris_base.specs.declared.ids.Node.TheVariants.{Replica}
use Rattle.eris_base.specs.declared.ids.Place.{Place}
use Rattle.eris_base.specs.declared.ids.ReplicaId.{ReplicaId}
use Rattle.eris_base.specs.ConfigLimits.{ConfigValue}
use Rattle.eris_base.specs.StampPlaces.{has_place}
use Rattle.eris_txn.specs.declared.packet.Packet.{Packet}
use Rattle.eris_log.specs.Places.{contains_place, same_place, with_place, with_places, places_of, any_among}
use Rattle.eris_drop.specs.declared.drop_note.DropNote.{DropNote}
use Rattle.eris_drop.specs.Notes.{note, forget, decided}
use Rattle.eris_rules.specs.Addressees.{all_replicas}
use Rattle.eris_rules.specs.CoordStates.{EpochCoord, EpochCoordOut, unmoved}
use Rattle.eris_rules.specs.EpochMessages.{EpochMessage, EpochSend, Stamped, Instructs, Notifies, Exchanges, Responds, Request, Found, Dropped, Notice, Find, Has, TempDropped, send, send_each}

-- the first found packet that has the place
unfoldable pub finder_of : List Packet → Place → Option Packet
finder_of found place = find (λ packet. has_place packet.stamp place) found

-- a message to every replica of every shard
abbrev pub to_all : ConfigValue → EpochMessage → List EpochSend
to_all config message = send_each (all_replicas config) message

-- the replica of the place's shard that asks
abbrev pub asker_node : ReplicaId → Place → Node
asker_node replica place = Replica place.shard replica

unfoldable pub tells_found : EpochCoord → ReplicaId → Place → Packet → EpochCoordOut
tells_found state replica place packet =
    record { state = state; sends = send (asker_node replica place) (Instructs (Found packet)) ∷ [] }

unfoldable pub tells_dropped : EpochCoord → ReplicaId → Place → EpochCoordOut
tells_dropped state replica place =
    record { state = state; sends = send (asker_node replica place) (Instructs (Dropped place)) ∷ [] }

unfoldable pub asks_all : ConfigValue → EpochCoord → Place → EpochCoordOut
asks_all config state place =
    record {
      state = record state { asked = with_place state.asked place };
      sends = to_all config (Instructs (Request place));
    }

unfoldable pub asks_new : ConfigValue → EpochCoord → Place → EpochCoordOut
asks_new config state place = if contains_place state.asked place then unmoved state else asks_all config state place

unfoldable pub finds_lost : ConfigValue → EpochCoord → ReplicaId → Place → EpochCoordOut
finds_lost config state replica place =
    if contains_place state.dropped place then tells_dropped state replica place else asks_new config state place

abbrev pub finds_by : ConfigValue → EpochCoord → ReplicaId → Place → Option Packet → EpochCoordOut
finds_by config state replica place (Some packet) = tells_found state replica place packet
finds_by config state replica place None = finds_lost config state replica place

-- FIND: what became of the place is told to the replica that asks; where it is open, all are asked, once
unfoldable pub find_row : ConfigValue → EpochCoord → ReplicaId → Place → EpochCoordOut
find_row config state replica place = finds_by config state replica place (finder_of state.found place)

-- the places that the packet has
abbrev pub places_had : List Place → Packet → List Place
places_had places packet = filter (λ place. has_place packet.stamp place) places

-- and those that it hasn't
abbrev pub places_not_had : List Place → Packet → List Place
places_not_had places packet = filter (λ place. not (has_place packet.stamp place)) places

-- the notes without those of the places
abbrev pub forget_all : List DropNote → List Place → List DropNote
forget_all notes places = fold (λ kept place. forget kept place) notes places

-- what is said of each of the places, to all
unfoldable pub all_hear_dropped : ConfigValue → List Place → List EpochSend
all_hear_dropped config places = flat_map (λ place. to_all config (Instructs (Dropped place))) places

unfoldable pub keeps_found : ConfigValue → EpochCoord → Packet → EpochCoordOut
keeps_found config state packet =
    record {
      state = record {
        asked = places_not_had state.asked packet;
        notes = forget_all state.notes (places_of packet.stamp);
        found = state.found ++ packet ∷ [];
        dropped = state.dropped;
      };
      sends = to_all config (Instructs (Found packet));
    }

-- A place of the packet is dropped already, so it was dropped as a whole: its asked places are dropped too,
-- else one shard would keep it and another not.
unfoldable pub drops_rest : ConfigValue → EpochCoord → Packet → EpochCoordOut
drops_rest config state packet =
    record {
      state = record {
        asked = places_not_had state.asked packet;
        notes = forget_all state.notes (places_had state.asked packet);
        found = state.found;
        dropped = with_places state.dropped (places_had state.asked packet);
      };
      sends = all_hear_dropped config (places_had state.asked packet);
    }

unfoldable pub has_wanted : ConfigValue → EpochCoord → Packet → EpochCoordOut
has_wanted config state packet =
    if any_among state.asked packet.stamp then keeps_found config state packet else unmoved state

-- HAS: a packet with an asked place is found, unless one of its places is dropped
unfoldable pub has_row : ConfigValue → EpochCoord → Packet → EpochCoordOut
has_row config state packet =
    if any_among state.dropped packet.stamp then drops_rest config state packet else has_wanted config state packet

unfoldable pub drops_place : ConfigValue → EpochCoord → Place → EpochCoordOut
drops_place config state place =
    record {
      state = record {
        asked = filter (λ other. not (same_place other place)) state.asked;
        notes = forget state.notes place;
        found = state.found;
        dropped = with_place state.dropped place;
      };
      sends = to_all config (Instructs (Dropped place));
    }

-- it drops the place once f+1 replicas of every shard, the learner among them, dropped it for a time in one view
unfoldable pub drops_decided : ConfigValue → EpochCoord → Place → EpochCoordOut
drops_decided config state place =
    if decided config state.notes place then drops_place config state place else unmoved state

unfoldable pub notes_drop : ConfigValue → EpochCoord → DropNote → EpochCoordOut
notes_drop config state one = drops_decided config (record state { notes = note state.notes one }) one.place

-- TEMP DROPPED: it counts for an asked place
unfoldable pub temp_dropped_row : ConfigValue → EpochCoord → DropNote → EpochCoordOut
temp_dropped_row config state one =
    if contains_place state.asked one.place then notes_drop config state one else unmoved state

-- NUDGE: it asks all again for each asked place
unfoldable pub nudge_row : ConfigValue → EpochCoord → EpochCoordOut
nudge_row config state =
    record { state = state; sends = flat_map (λ place. to_all config (Instructs (Request place))) state.asked }

abbrev pub notice_row : ConfigValue → EpochCoord → Notice → EpochCoordOut
notice_row config state (Find replica place) = find_row config state replica place
notice_row config state (Has packet) = has_row config state packet
notice_row config state (TempDropped place shard replica view) =
    temp_dropped_row config state (record { place = place; shard = shard; replica = replica; view = view })

-- THE STEP of the coordinator within one epoch by a message; what isn't a notice isn't for it
abbrev pub epoch_coord_step : ConfigValue → EpochCoord → EpochMessage → EpochCoordOut
epoch_coord_step config state (Stamped packet) = unmoved state
epoch_coord_step config state (Instructs instruction) = unmoved state
epoch_coord_step config state (Notifies notice) = notice_row config state notice
epoch_coord_step config state (Exchanges exchange) = unmoved state
epoch_coord_step config state (Responds response) = unmoved state
