-- Within one epoch the coordinator keeps to the messages' ranges: where its state and the notice that comes to it
-- do, so do its state after the step and what it sends.
use Rattle.std.proofs.Common.{◌≡◌, true, not, Option, Some, None, List, [], ◌∷◌, sym, ◌∙◌, subst}
use Rattle.std.specs.Prelude.{⊤}
use Rattle.std.specs.List.{flat_map}
use Rattle.std.proofs.lemmas.Bool.{cond_both}
use Rattle.eris_base.specs.declared.ids.Epoch.{Epoch}
use Rattle.eris_base.specs.declared.ids.Place.{Place}
use Rattle.eris_base.specs.declared.ids.ReplicaId.{ReplicaId}
use Rattle.eris_base.specs.ConfigLimits.{ConfigValue}
use Rattle.eris_base.specs.StampPlaces.{has_place}
use Rattle.eris_base.proofs.Each.{Each-append, Each-filter}
use Rattle.eris_txn.specs.declared.packet.Packet.{Packet}
use Rattle.eris_log.specs.Places.{contains_place, any_among, same_place, with_place, place_cmp}
use Rattle.eris_drop.specs.declared.drop_note.DropNote.{DropNote}
use Rattle.eris_drop.specs.Notes.{decided, note}
use Rattle.eris_msg.specs.declared.message.Message.{Message}
use Rattle.eris_msg.specs.declared.outgoing.Outgoing.{Outgoing}
use Rattle.eris_msg.specs.Spellings.{message_fits}
use Rattle.eris_msg.proofs.MessageFits as m
use Rattle.eris_rules.specs.Addressees.{all_replicas}
use Rattle.eris_rules.specs.CoordStates.{EpochCoord, EpochCoordOut, unmoved}
use Rattle.eris_rules.specs.EpochCoords.{finder_of, to_all, tells_found, tells_dropped, asks_all, asks_new, finds_lost, finds_by, find_row, places_had, all_hear_dropped, keeps_found, drops_rest, has_wanted, has_row, drops_place, drops_decided, notes_drop, temp_dropped_row, epoch_coord_step}
use Rattle.eris_rules.specs.EpochMessages.{EpochMessage, Stamped, Instructs, Notifies, Exchanges, Responds, Request, Found, Dropped, Find, Has, TempDropped}
use Rattle.eris_rules.specs.Outer.{outer, outer_sends}
use Rattle.eris_rules.proofs.OuterLaws.{outer_sends-append}
use Rattle.eris_in_place.specs.MessageRanges.{PacketFits, PlaceFits, PlacesFit, MessageFits, SendsFit}
use Rattle.eris_in_place.proofs.SendLaws.{each_sent}
use Rattle.eris_coord.proofs.EachItem.{Each-with_item, Each-find, OnFound}
use Rattle.eris_coord.specs.Fitting.{InnerFits}

pub record OutFits (epoch : Epoch) (out : EpochCoordOut) : Type 0 where
  pub inner : InnerFits out.state
  pub sends : SendsFit (outer_sends epoch out.sends)

unmoved-fits : (epoch : Epoch) (inner : EpochCoord) → InnerFits inner → OutFits epoch (unmoved inner)
unmoved-fits epoch inner h = record { inner = h; sends = tt }

all_nodes : (epoch : Epoch) (config : ConfigValue) (message : EpochMessage) → MessageFits (outer epoch message) → SendsFit (outer_sends epoch (to_all config message))
all_nodes epoch config message h = each_sent epoch (all_replicas config) message h

pub each_place : (epoch : Epoch) (config : ConfigValue) (about : Place → EpochMessage) → ((place : Place) → PlaceFits place → MessageFits (outer epoch (about place)))
    → (places : List Place) → PlacesFit places → SendsFit (outer_sends epoch (flat_map (λ place. to_all config (about place)) places))
each_place epoch config about k [] h = tt
each_place epoch config about k (place ∷ places) h =
    subst SendsFit (sym (outer_sends-append epoch (to_all config (about place)) (flat_map (λ other. to_all config (about other)) places)))
    (Each-append (λ (send : Outgoing). MessageFits send.message) _ _ (all_nodes epoch config (about place) (k place h.0)) (each_place epoch config about k places h.1))

pub requested : (place : Place) → PlaceFits place → message_fits (Message.Request place) ≡ true
requested place h = m.request_fits place ∙ h

dropped_fits : (place : Place) → PlaceFits place → message_fits (Message.Dropped place) ≡ true
dropped_fits place h = m.dropped_fits place ∙ h

found_fits : (packet : Packet) → PacketFits packet → message_fits (Message.Found packet) ≡ true
found_fits packet h = m.found_fits packet ∙ h

with_place-fits : (places : List Place) (place : Place) → PlacesFit places → PlaceFits place → PlacesFit (with_place places place)
unfolding with_place
with_place-fits places place h k = Each-with_item PlaceFits (λ other. other) place_cmp places place h k

asks_new-fits : (epoch : Epoch) (config : ConfigValue) (inner : EpochCoord) (place : Place) → InnerFits inner → PlaceFits place → OutFits epoch (asks_new config inner place)
unfolding asks_new asks_all
asks_new-fits epoch config inner place h k =
    cond_both (contains_place inner.asked place) (unmoved inner) (asks_all config inner place) (OutFits epoch)
    (λ _. unmoved-fits epoch inner h)
    (λ _. record {
      inner = record { asked = with_place-fits inner.asked place h.asked k; found = h.found };
      sends = all_nodes epoch config (Instructs (Request place)) (requested place k);
    })

finds_lost-fits : (epoch : Epoch) (config : ConfigValue) (inner : EpochCoord) (replica : ReplicaId) (place : Place) → InnerFits inner → PlaceFits place → OutFits epoch (finds_lost config inner replica place)
unfolding finds_lost tells_dropped
finds_lost-fits epoch config inner replica place h k =
    cond_both (contains_place inner.dropped place) (tells_dropped inner replica place) (asks_new config inner place) (OutFits epoch)
    (λ _. record { inner = h; sends = (dropped_fits place k, tt) })
    (λ _. asks_new-fits epoch config inner place h k)

finds_by-fits : (epoch : Epoch) (config : ConfigValue) (inner : EpochCoord) (replica : ReplicaId) (place : Place) → InnerFits inner → PlaceFits place
    → (found : Option Packet) → OnFound PacketFits found → OutFits epoch (finds_by config inner replica place found)
unfolding tells_found
finds_by-fits epoch config inner replica place h k None is = finds_lost-fits epoch config inner replica place h k
finds_by-fits epoch config inner replica place h k (Some packet) is = record { inner = h; sends = (found_fits packet is, tt) }

find_row-fits : (epoch : Epoch) (config : ConfigValue) (inner : EpochCoord) (replica : ReplicaId) (place : Place) → InnerFits inner → PlaceFits place → OutFits epoch (find_row config inner replica place)
unfolding find_row finder_of
find_row-fits epoch config inner replica place h k =
    finds_by-fits epoch config inner replica place h k (finder_of inner.found place)
    (Each-find PacketFits (λ packet. has_place packet.stamp place) inner.found h.found)

has_row-fits : (epoch : Epoch) (config : ConfigValue) (inner : EpochCoord) (packet : Packet) → InnerFits inner → PacketFits packet → OutFits epoch (has_row config inner packet)
unfolding has_row has_wanted drops_rest keeps_found all_hear_dropped
has_row-fits epoch config inner packet h k =
    let not_had = Each-filter PlaceFits (λ place. not (has_place packet.stamp place)) inner.asked h.asked in
    let had = Each-filter PlaceFits (λ place. has_place packet.stamp place) inner.asked h.asked in
    cond_both (any_among inner.dropped packet.stamp) (drops_rest config inner packet) (has_wanted config inner packet) (OutFits epoch)
    (λ _. record {
      inner = record { asked = not_had; found = h.found };
      sends = each_place epoch config (λ place. Instructs (Dropped place)) dropped_fits (places_had inner.asked packet) had;
    })
    (λ _. cond_both (any_among inner.asked packet.stamp) (keeps_found config inner packet) (unmoved inner) (OutFits epoch)
    (λ _. record {
      inner = record { asked = not_had; found = Each-append PacketFits inner.found (packet ∷ []) h.found (k, tt) };
      sends = all_nodes epoch config (Instructs (Found packet)) (found_fits packet k);
    })
    (λ _. unmoved-fits epoch inner h))

drops_decided-fits : (epoch : Epoch) (config : ConfigValue) (inner : EpochCoord) (place : Place) → InnerFits inner → PlaceFits place → OutFits epoch (drops_decided config inner place)
unfolding drops_decided drops_place
drops_decided-fits epoch config inner place h k =
    cond_both (decided config inner.notes place) (drops_place config inner place) (unmoved inner) (OutFits epoch)
    (λ _. record {
      inner = record { asked = Each-filter PlaceFits (λ other. not (same_place other place)) inner.asked h.asked; found = h.found };
      sends = all_nodes epoch config (Instructs (Dropped place)) (dropped_fits place k);
    })
    (λ _. unmoved-fits epoch inner h)

temp_dropped_row-fits : (epoch : Epoch) (config : ConfigValue) (inner : EpochCoord) (one : DropNote) → InnerFits inner → PlaceFits one.place → OutFits epoch (temp_dropped_row config inner one)
unfolding temp_dropped_row notes_drop
temp_dropped_row-fits epoch config inner one h k =
    cond_both (contains_place inner.asked one.place) (notes_drop config inner one) (unmoved inner) (OutFits epoch)
    (λ _. drops_decided-fits epoch config (record inner { notes = note inner.notes one }) one.place (record { asked = h.asked; found = h.found }) k)
    (λ _. unmoved-fits epoch inner h)

-- what is told the coordinator within an epoch
abbrev pub NoticeFits : EpochMessage → Type 0
NoticeFits (Stamped packet) = ⊤
NoticeFits (Instructs instruction) = ⊤
NoticeFits (Notifies (Find replica place)) = PlaceFits place
NoticeFits (Notifies (Has packet)) = PacketFits packet
NoticeFits (Notifies (TempDropped place shard replica view)) = PlaceFits place
NoticeFits (Exchanges exchange) = ⊤
NoticeFits (Responds response) = ⊤

pub epoch_step-fits : (epoch : Epoch) (config : ConfigValue) (inner : EpochCoord) (message : EpochMessage) → InnerFits inner → NoticeFits message → OutFits epoch (epoch_coord_step config inner message)
epoch_step-fits epoch config inner (Stamped packet) h k = unmoved-fits epoch inner h
epoch_step-fits epoch config inner (Instructs instruction) h k = unmoved-fits epoch inner h
epoch_step-fits epoch config inner (Notifies (Find replica place)) h k = find_row-fits epoch config inner replica place h k
epoch_step-fits epoch config inner (Notifies (Has packet)) h k = has_row-fits epoch config inner packet h k
epoch_step-fits epoch config inner (Notifies (TempDropped place shard replica view)) h k = temp_dropped_row-fits epoch config inner (record { place = place; shard = shard; replica = replica; view = view }) h k
epoch_step-fits epoch config inner (Exchanges exchange) h k = unmoved-fits epoch inner h
epoch_step-fits epoch config inner (Responds response) h k = unmoved-fits epoch inner h
