-- A message that has a spelling has its fields in their ranges; and by what a part and the marks in it are in
-- range. The nodes use this for what comes to them and what they send.
use Rattle.std.proofs.Common.{◌≡◌, ℕ, ◌-◌, ◌<◌, ◌^◌, ◌&&◌, ◌==◌, nat_lt, true, Option, Some, List, [], ◌∷◌, ◌++◌, length, map, refl, ap, sym, ◌∙◌, subst}
use Rattle.std.specs.List.{list_all, AllByRecursion}
use Rattle.std.specs.Option.{option_map}
use Rattle.std.specs.Ordering.{nat_cmp}
use Rattle.std.proofs.lemmas.Bool.{and_from, eqb-true}
use Rattle.eris_base.specs.declared.ids.Epoch.{Epoch}
use Rattle.eris_base.specs.declared.ids.Place.{Place}
use Rattle.eris_base.specs.declared.ids.ShardId.{ShardId}
use Rattle.eris_base.proofs.Booleans.{left_of, right_of}
use Rattle.eris_txn.specs.declared.packet.Packet.{Packet}
use Rattle.eris_log.specs.PartFacts.{AreHeld, AreMarks, IsPart}
use Rattle.eris_log.specs.PartValues.{PartValue}
use Rattle.eris_log.specs.Places.{place_cmp, are_of_epoch, pair_of, place_at}
use Rattle.eris_log.specs.Sorted.{is_above, ascends_from}
use Rattle.eris_codec.specs.Codecs.{last_of, items_fit}
use Rattle.eris_msg.specs.declared.message.Message.{Message}
use Rattle.eris_codec.specs.Fields as f
use Rattle.eris_codec.specs.Parts as p
use Rattle.eris_codec.specs.Ranges.{PlaceInRange, HeldInRange, part_fits}
use Rattle.eris_msg.specs.Spellings.{message_fits}
use Rattle.eris_msg.proofs.MessageFits as m
use Rattle.eris_codec.proofs.RangeLaws.{part_parts, part_fits-from, word_fits, mark_items}
use Rattle.eris_codec.proofs.LastItems.{last_added}
use Rattle.eris_codec.proofs.PartOrder.{above_in_epoch, above_number}
use Rattle.eris_in_place.specs.MessageRanges.{PacketsFit, PairsFit, PartFits, MessageFits, IsCounted}

-- ---- packets
each_packet : (before packets : List Packet) → items_fit (λ _. f.packet) before packets ≡ true → PacketsFit packets
each_packet before [] h = tt
each_packet before (packet ∷ packets) h =
    let rest = items_fit (λ _. f.packet) (before ++ packet ∷ []) packets in
    (left_of (f.packet.fits packet) rest h, each_packet (before ++ packet ∷ []) packets (right_of (f.packet.fits packet) rest h))

pub packets_fit : (packets : List Packet) → f.packets.fits packets ≡ true → PacketsFit packets
unfolding f.packets
packets_fit packets h = each_packet [] packets (right_of _ (items_fit (λ _. f.packet) [] packets) h)

-- the packets that a part holds
pub held_packets_fit : (held : List (ℕ × Packet)) → AllByRecursion HeldInRange held → PacketsFit (map (λ pair. pair.1) held)
held_packets_fit [] h = tt
held_packets_fit (pair ∷ held) h = (h.0.1, held_packets_fit held h.1)

-- ---- marks: places of an epoch, and their shards and numbers
abbrev at_epoch_number : Place → ℕ → Place
at_epoch_number place n = record { epoch = record { 0 = n }; shard = place.shard; number = place.number }

here_again : (epoch : Epoch) (place : Place) → place.epoch.0 ≡ epoch.0 → place_at epoch (pair_of place) ≡ place
here_again epoch place same = ap (λ (n : ℕ). at_epoch_number place n) (sym same)

last_place : (epoch : Epoch) (before : List (ShardId × ℕ)) (place : Place) → place.epoch.0 ≡ epoch.0
    → option_map (place_at epoch) (last_of (before ++ pair_of place ∷ [])) ≡ Some place
last_place epoch before place same =
    let some_place : Place → Option Place = λ one. Some one in
    ap (λ (z : Option (ShardId × ℕ)). option_map (place_at epoch) z) (last_added before (pair_of place)) ∙ ap some_place (here_again epoch place same)

-- the marks of an epoch that a replica tells of
pub marks_fit : (epoch : Epoch) (places : List Place) → AreMarks epoch places → AllByRecursion PlaceInRange places → PairsFit (map (λ place. (place.shard, place.number)) places)
unfolding p.pairs_of
marks_fit epoch places marks k = mark_items epoch [] places marks.ascend marks.of_epoch k

-- and back
marks_ascend : (epoch : Epoch) (before : List (ShardId × ℕ)) (places : List Place) → items_fit p.listed_place before (p.pairs_of places) ≡ true
    → are_of_epoch epoch places ≡ true → ascends_from (λ place. place) place_cmp (option_map (place_at epoch) (last_of before)) places ≡ true
unfolding p.listed_place p.pairs_of
marks_ascend epoch before [] h o = refl
marks_ascend epoch before (place ∷ places) h o =
    let pair = pair_of place in
    let rest = items_fit p.listed_place (before ++ pair ∷ []) (p.pairs_of places) in
    let one = left_of ((f.shard.fits place.shard && f.number.fits place.number) && p.is_after (last_of before) pair) rest h in
    let more = right_of ((f.shard.fits place.shard && f.number.fits place.number) && p.is_after (last_of before) pair) rest h in
    let same : place.epoch.0 ≡ epoch.0 = eqb-true _ _ (left_of (place.epoch.0 == epoch.0) (are_of_epoch epoch places) o) in
    let after = right_of (f.shard.fits place.shard && f.number.fits place.number) (p.is_after (last_of before) pair) one in
    let above = subst (λ (z : Place). is_above place_cmp (option_map (place_at epoch) (last_of before)) z ≡ true) (here_again epoch place same) (above_in_epoch epoch (last_of before) pair after) in
    let next = marks_ascend epoch (before ++ pair ∷ []) places more (right_of (place.epoch.0 == epoch.0) (are_of_epoch epoch places) o) in
    and_from _ _ above (subst (λ (z : Option Place). ascends_from (λ place. place) place_cmp z places ≡ true) (last_place epoch before place same) next)

are_marks : (epoch : Epoch) (places : List Place) → are_of_epoch epoch places ≡ true → p.places.fits (p.pairs_of places) ≡ true → AreMarks epoch places
unfolding p.places
are_marks epoch places of_epoch h =
    record { ascend = marks_ascend epoch [] places (right_of _ (items_fit p.listed_place [] (p.pairs_of places)) h) of_epoch; of_epoch = of_epoch }

-- ---- the packets that a part holds
record HeldFrom (before held : List (ℕ × Packet)) : Type 0 where
  ascend : ascends_from (λ pair. pair.0) nat_cmp (option_map (λ pair. pair.0) (last_of before)) held ≡ true
  from_one : list_all (λ pair. nat_lt 0 pair.0) held ≡ true

held_from : (before held : List (ℕ × Packet)) → items_fit p.held_packet before held ≡ true → HeldFrom before held
unfolding p.held_packet f.number
held_from before [] h = record { ascend = refl; from_one = refl }
held_from before (pair ∷ held) h =
    let rest = items_fit p.held_packet (before ++ pair ∷ []) held in
    let here = ((f.word.fits pair.0 && nat_lt 0 pair.0) && p.is_above (last_of before) pair.0) in
    let one = left_of here (f.packet.fits pair.1) (left_of (here && f.packet.fits pair.1) rest h) in
    let more = held_from (before ++ pair ∷ []) held (right_of (here && f.packet.fits pair.1) rest h) in
    let above = above_number (last_of before) pair.0 (right_of (f.word.fits pair.0 && nat_lt 0 pair.0) (p.is_above (last_of before) pair.0) one) in
    let first = right_of (f.word.fits pair.0) (nat_lt 0 pair.0) (left_of (f.word.fits pair.0 && nat_lt 0 pair.0) (p.is_above (last_of before) pair.0) one) in
    let next : ascends_from (λ pair. pair.0) nat_cmp (Some pair.0) held ≡ true =
    subst (λ (z : Option (ℕ × Packet)). ascends_from (λ pair. pair.0) nat_cmp (option_map (λ pair. pair.0) z) held ≡ true) (last_added before pair) more.ascend in
    record { ascend = and_from _ _ above next; from_one = and_from _ _ first more.from_one }

are_held : (held : List (ℕ × Packet)) → p.held.fits held ≡ true → AreHeld held
unfolding p.held
are_held held h =
    let from = held_from [] held (right_of _ (items_fit p.held_packet [] held) h) in
    record { ascend = from.ascend; from_one = from.from_one }

-- ---- parts
is_part : (part : PartValue) → part_fits part ≡ true → IsPart part
unfolding p.part p.part_of_epoch
is_part part h =
    let marks = left_of (p.part_of_epoch part) _ h in
    let first = left_of (are_of_epoch part.epoch part.temp && are_of_epoch part.epoch part.fnd) (are_of_epoch part.epoch part.perm) marks in
    let fields = right_of (p.part_of_epoch part) _ h in
    let a = right_of (f.shard.fits part.shard) _ fields in
    let b = right_of (f.epoch.fits part.epoch) _ a in
    let c = right_of (p.held.fits part.held) _ b in
    let d = right_of (p.places.fits (p.pairs_of part.temp)) _ c in
    record {
      held = are_held part.held (left_of (p.held.fits part.held) _ b);
      temp = are_marks part.epoch part.temp (left_of (are_of_epoch part.epoch part.temp) _ first) (left_of (p.places.fits (p.pairs_of part.temp)) _ c);
      fnd = are_marks part.epoch part.fnd (right_of (are_of_epoch part.epoch part.temp) _ first) (left_of (p.places.fits (p.pairs_of part.fnd)) _ d);
      perm = are_marks part.epoch part.perm (right_of (are_of_epoch part.epoch part.temp && are_of_epoch part.epoch part.fnd) (are_of_epoch part.epoch part.perm) marks)
          (right_of (p.places.fits (p.pairs_of part.fnd)) _ d);
    }

pub part_is_in_range : (part : PartValue) → part_fits part ≡ true → PartFits part
part_is_in_range part h = record { is = is_part part h; ranges = (part_parts part h).ranges }

-- ---- messages
settled_places : (pairs : List (ShardId × ℕ)) → p.places.fits pairs ≡ true → PairsFit pairs
unfolding p.places
settled_places pairs h = right_of _ (items_fit p.listed_place [] pairs) h

-- A MESSAGE THAT HAS A SPELLING is in its ranges
pub message_is_in_range : (message : Message) → message_fits message ≡ true → MessageFits message
message_is_in_range (Message.ViewChange replica view part) h =
    let fits = sym (m.view_change_fits replica view part) ∙ h in
    let rest = right_of (f.replica.fits replica) (f.view.fits view && part_fits part) fits in
    (left_of (f.replica.fits replica) _ fits, left_of (f.view.fits view) (part_fits part) rest, part_is_in_range part (right_of (f.view.fits view) (part_fits part) rest))
message_is_in_range (Message.StartView view part) h =
    let fits = sym (m.start_view_fits view part) ∙ h in
    (left_of (f.view.fits view) (part_fits part) fits, part_is_in_range part (right_of (f.view.fits view) (part_fits part) fits))
message_is_in_range (Message.Settled epoch view number places) h =
    let fits = sym (m.settled_fits epoch view number places) ∙ h in
    let rest = right_of (f.epoch.fits epoch) (f.view.fits view && (f.number.fits number && p.places.fits places)) fits in
    let more = right_of (f.view.fits view) (f.number.fits number && p.places.fits places) rest in (
      left_of (f.epoch.fits epoch) _ fits,
      left_of (f.view.fits view) _ rest,
      left_of (f.number.fits number) (p.places.fits places) more,
      settled_places places (right_of (f.number.fits number) (p.places.fits places) more),
    )
message_is_in_range (Message.EpochState replica epoch part) h =
    let fits = sym (m.epoch_state_fits replica epoch part) ∙ h in
    let rest = right_of (f.replica.fits replica) (f.epoch.fits epoch && part_fits part) fits in
    (left_of (f.replica.fits replica) _ fits, left_of (f.epoch.fits epoch) (part_fits part) rest, part_is_in_range part (right_of (f.epoch.fits epoch) (part_fits part) rest))
message_is_in_range (Message.StartEpoch epoch shard packets) h =
    let fits = sym (m.start_epoch_fits epoch shard packets) ∙ h in
    let rest = right_of (f.epoch.fits epoch) (f.shard.fits shard && f.packets.fits packets) fits in
    (left_of (f.epoch.fits epoch) _ fits, left_of (f.shard.fits shard) (f.packets.fits packets) rest, packets_fit packets (right_of (f.shard.fits shard) (f.packets.fits packets) rest))
message_is_in_range message h = h

-- ---- and back
packets_from : (before packets : List Packet) → PacketsFit packets → items_fit (λ _. f.packet) before packets ≡ true
packets_from before [] h = refl
packets_from before (packet ∷ packets) h = and_from _ _ h.0 (packets_from (before ++ packet ∷ []) packets h.1)

packets_counted : (packets : List Packet) → PacketsFit packets → length packets < 2 ^ 32 → f.packets.fits packets ≡ true
unfolding f.packets
packets_counted packets h few = and_from _ _ (word_fits (length packets) few) (packets_from [] packets h)

places_counted : (pairs : List (ShardId × ℕ)) → PairsFit pairs → length pairs < 2 ^ 32 → p.places.fits pairs ≡ true
unfolding p.places
places_counted pairs h few = and_from _ _ (word_fits (length pairs) few) h

-- A MESSAGE IN ITS RANGES whose lists are counted has a spelling
pub counted_message_fits : (message : Message) → MessageFits message → IsCounted message → message_fits message ≡ true
counted_message_fits (Message.ViewChange replica view part) h few =
    m.view_change_fits replica view part ∙ and_from _ _ h.0 (and_from _ _ h.1 (part_fits-from part h.2.is h.2.ranges few))
counted_message_fits (Message.StartView view part) h few = m.start_view_fits view part ∙ and_from _ _ h.0 (part_fits-from part h.1.is h.1.ranges few)
counted_message_fits (Message.Settled epoch view number places) h few =
    m.settled_fits epoch view number places ∙ and_from _ _ h.0 (and_from _ _ h.1 (and_from _ _ h.2 (places_counted places h.3 few)))
counted_message_fits (Message.EpochState replica epoch part) h few =
    m.epoch_state_fits replica epoch part ∙ and_from _ _ h.0 (and_from _ _ h.1 (part_fits-from part h.2.is h.2.ranges few))
counted_message_fits (Message.StartEpoch epoch shard packets) h few =
    m.start_epoch_fits epoch shard packets ∙ and_from _ _ h.0 (and_from _ _ h.1 (packets_counted packets h.2 few))
counted_message_fits message h few = h
