-- What closing an epoch leaves, and the logs of the shards in it, are in range where the noted parts and the found
-- packets are.
use Rattle.std.proofs.Common.{◌==◌, not, List, [], ◌∷◌, ◌++◌, map, filter, fold}
use Rattle.std.proofs.lemmas.Bool.{cond_both}
use Rattle.eris_base.specs.declared.ids.Epoch.{Epoch}
use Rattle.eris_base.specs.declared.ids.Place.{Place}
use Rattle.eris_base.specs.declared.ids.ShardId.{ShardId}
use Rattle.eris_base.specs.Each.{Each}
use Rattle.eris_base.proofs.Each.{Each-append, Each-filter}
use Rattle.eris_txn.specs.declared.packet.Packet.{Packet}
use Rattle.eris_log.specs.Places.{any_among}
use Rattle.eris_epoch.specs.declared.noted.NotedPart.{NotedPart}
use Rattle.eris_epoch.specs.Closing.{held_of, held_in, undropped, with_new, each_once, by_places, close, shard_log, names, turn_on}
use Rattle.eris_epoch.specs.EpochTallies.{EpochTallyValue}
use Rattle.eris_epoch.specs.SamePackets.{is_listed}
use Rattle.eris_epoch.specs.Sorting.{places_cmp, turn_cmp}
use Rattle.eris_in_place.specs.MessageRanges.{PacketFits, PacketsFit}
use Rattle.eris_coord.proofs.EachItem.{Each-flat_map, Each-sorted}
use Rattle.eris_coord.specs.Fitting.{HeldFits}

each_once_onto : (made packets : List Packet) → PacketsFit made → PacketsFit packets → PacketsFit (fold (λ front packet. with_new front packet) made packets)
unfolding with_new
each_once_onto made [] h k = h
each_once_onto made (packet ∷ packets) h k =
    each_once_onto (with_new made packet) packets
    (cond_both (is_listed made packet) made (made ++ packet ∷ []) PacketsFit (λ _. h) (λ _. Each-append PacketFits made (packet ∷ []) h (k.0, tt)))
    k.1

held_in-fits : (epoch : Epoch) (noted : List NotedPart) → Each HeldFits noted → PacketsFit (held_in epoch noted)
unfolding held_in held_of
held_in-fits epoch noted h =
    Each-flat_map PacketFits HeldFits (held_of epoch)
    (λ one k. cond_both (one.part.epoch.0 == epoch.0) (map (λ pair. pair.1) one.part.held) [] PacketsFit (λ _. k) (λ _. tt)) noted h

pub close-fits : (tally : EpochTallyValue) (last : Epoch) (found : List Packet) (dropped : List Place) → Each HeldFits tally.noted → PacketsFit found → PacketsFit (close tally last found dropped)
unfolding close by_places each_once undropped
close-fits tally last found dropped h k =
    let all = Each-append PacketFits (held_in last tally.noted) found (held_in-fits last tally.noted h) k in
    let left = Each-filter PacketFits (λ packet. not (any_among dropped packet.stamp)) (held_in last tally.noted ++ found) all in
    Each-sorted PacketFits (λ packet. packet.stamp.places) places_cmp _ (each_once_onto [] _ tt left)

pub shard_log-fits : (closed : List Packet) (shard : ShardId) → PacketsFit closed → PacketsFit (shard_log closed shard)
unfolding shard_log
shard_log-fits closed shard h = Each-sorted PacketFits (turn_on shard) turn_cmp (filter (names shard) closed) (Each-filter PacketFits (names shard) closed h)
