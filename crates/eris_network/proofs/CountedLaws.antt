-- A message whose fields are in their ranges, but for the counts of its lists: where the lists are short enough to
-- be counted it fits whole, and where one isn't the message is longer than any that is sent. Used before a message
-- is spelled.
use Rattle.std.proofs.Common.{◌≡◌, ◌<◌, ◌≤◌, ℕ, ◌^◌, ◌&&◌, Bool, true, false, List, [], ◌∷◌, ◌++◌, length, refl, arith, ◌⊎◌, inl, inr}
use Rattle.std.specs.List.{flat_map}
use Rattle.std.proofs.lemmas.Bool.{and_parts, ltb-true, ltb-false}
use Rattle.std.proofs.lemmas.List.{length-append}
use Rattle.eris_base.specs.declared.ids.Place.{Place}
use Rattle.eris_base.specs.declared.ids.ShardId.{ShardId}
use Rattle.eris_txn.specs.declared.packet.Packet.{Packet}
use Rattle.eris_log.specs.PartValues.{PartValue}
use Rattle.eris_in_place.specs.MessageRanges.{MessageFits, IsCounted}
use Rattle.eris_in_place.proofs.MessageRangeLaws.{counted_message_fits}
use Rattle.eris_msg.specs.declared.message.Message.{Message}
use Rattle.eris_msg.specs.declared.message.Message.TheVariants as kinds
use Rattle.eris_codec.specs.Codecs.{◌⊗◌}
use Rattle.eris_codec.specs.Fields as f
use Rattle.eris_msg.specs.Messages as m
use Rattle.eris_codec.specs.Parts as p
use Rattle.eris_codec.specs.Ranges.{PartCounted}
use Rattle.eris_msg.specs.Spellings.{message_fits, spelling}
use Rattle.eris_codec.proofs.Sizes.{pairs_length}
use Rattle.eris_rules.specs.Refusals.{frame_size}
use Rattle.eris_network.specs.Counted.{is_short, is_part_counted, is_counted}
use Rattle.eris_network.specs.Limits.{byte_limit}

-- ---- what is counted fits
part_counted : (part : PartValue) → is_part_counted part ≡ true → PartCounted part
part_counted part h =
    let front = and_parts _ _ h in
    let more = and_parts _ _ front.0 in
    let first = and_parts _ _ more.0 in
    record {
      held = ltb-true _ _ first.0;
      temp = ltb-true _ _ first.1;
      fnd = ltb-true _ _ more.1;
      perm = ltb-true _ _ front.1;
    }

counted_right : (message : Message) → is_counted message ≡ true → IsCounted message
counted_right (kinds.ViewChange r v part) h = part_counted part h
counted_right (kinds.StartView v part) h = part_counted part h
counted_right (kinds.EpochState r e part) h = part_counted part h
counted_right (kinds.Settled e v n places) h = ltb-true _ _ h
counted_right (kinds.StartEpoch e s packets) h = ltb-true _ _ h
counted_right (kinds.Ask a i b) h = tt
counted_right (kinds.Txn k) h = tt
counted_right (kinds.Vouch v s r t i ph) h = tt
counted_right (kinds.Reply v s r t i ph w) h = tt
counted_right (kinds.Late s r i ph w) h = tt
counted_right (kinds.Find r q) h = tt
counted_right (kinds.Request q) h = tt
counted_right (kinds.Has k) h = tt
counted_right (kinds.TempDropped q s r v) h = tt
counted_right (kinds.Found k) h = tt
counted_right (kinds.Dropped q) h = tt
counted_right (kinds.SyncAsk e v) h = tt
counted_right (kinds.Ack r e v n) h = tt
counted_right (kinds.NewEpoch s r e) h = tt
counted_right (kinds.EpochAsk e) h = tt

pub fits_whole : (message : Message) → MessageFits message → is_counted message ≡ true → message_fits message ≡ true
fits_whole message h short = counted_message_fits message h (counted_right message short)

-- ---- what isn't counted is long: each item has a byte at least
items_long : {X : Type 0} (spell : X → List ℕ) (some : (x : X) → 1 ≤ length (spell x)) (xs : List X) → length xs ≤ length (flat_map spell xs)
items_long spell some [] = omega arith
items_long spell some (x ∷ xs) = omega (arith, length-append (spell x) (flat_map spell xs), some x, items_long spell some xs)

packet_some : (packet : Packet) → 1 ≤ length (f.packet.spell packet)
unfolding f.packet f.stamp f.epoch f.word
packet_some packet = omega arith

pair_some : (pair : ShardId × ℕ) → 1 ≤ length ((f.shard ⊗ f.number).spell pair)
unfolding f.shard f.from_to f.byte
pair_some pair = omega arith

held_some : (pair : ℕ × Packet) → 1 ≤ length ((f.number ⊗ f.packet).spell pair)
unfolding f.number f.word
held_some pair = omega arith

packets_long : (packets : List Packet) → length packets ≤ length (f.packets.spell packets)
unfolding f.packets
packets_long packets =
    omega (arith, length-append (f.word.spell (length packets)) (flat_map f.packet.spell packets), items_long f.packet.spell packet_some packets)

places_long : (pairs : List (ShardId × ℕ)) → length pairs ≤ length (p.places.spell pairs)
unfolding p.places
places_long pairs =
    omega (arith, length-append (f.word.spell (length pairs)) (flat_map (f.shard ⊗ f.number).spell pairs), items_long (f.shard ⊗ f.number).spell pair_some pairs)

held_long : (list : List (ℕ × Packet)) → length list ≤ length (p.held.spell list)
unfolding p.held
held_long list =
    omega (arith, length-append (f.word.spell (length list)) (flat_map (f.number ⊗ f.packet).spell list), items_long (f.number ⊗ f.packet).spell held_some list)

marks_long : (list : List Place) → length list ≤ length (p.places.spell (p.pairs_of list))
marks_long list = omega (arith, places_long (p.pairs_of list), pairs_length list)

-- a list in the middle of bytes
in_middle : (front rest : List ℕ) (n : ℕ) → n ≤ length rest → n ≤ length (front ++ rest)
in_middle front rest n h = omega (arith, length-append front rest, h)

in_front : (front rest : List ℕ) (n : ℕ) → n ≤ length front → n ≤ length (front ++ rest)
in_front front rest n h = omega (arith, length-append front rest, h)

-- ---- a part
all_tests : (a b c d : Bool) → (a && b && c && d) ≡ false → (a ≡ false) ⊎ ((b ≡ false) ⊎ ((c ≡ false) ⊎ (d ≡ false)))
all_tests false b c d h = inl refl
all_tests true false c d h = inr (inl refl)
all_tests true true false d h = inr (inr (inl refl))
all_tests true true true false h = inr (inr (inr refl))
all_tests true true true true h = absurd cc

part_long : (part : PartValue) → is_part_counted part ≡ false → 2 ^ 32 ≤ length (p.part.spell part)
unfolding p.part
part_long part h =
    in_middle (f.shard.spell part.shard) _ (2 ^ 32) (in_middle (f.epoch.spell part.epoch) _ (2 ^ 32)
    (elim (all_tests (is_short (length part.held)) (is_short (length part.temp)) (is_short (length part.fnd)) (is_short (length part.perm)) h) [
      | inl long ↦ in_front (p.held.spell part.held) _ (2 ^ 32) (omega (arith, held_long part.held, ltb-false _ _ long))
      | inr rest ↦ in_middle (p.held.spell part.held) _ (2 ^ 32) (elim rest [
        | inl long ↦ in_front (p.places.spell (p.pairs_of part.temp)) _ (2 ^ 32) (omega (arith, marks_long part.temp, ltb-false _ _ long))
        | inr rest ↦ in_middle (p.places.spell (p.pairs_of part.temp)) _ (2 ^ 32) (elim rest [
          | inl long ↦ in_front (p.places.spell (p.pairs_of part.fnd)) _ (2 ^ 32) (omega (arith, marks_long part.fnd, ltb-false _ _ long))
          | inr long ↦ in_middle (p.places.spell (p.pairs_of part.fnd)) _ (2 ^ 32) (omega (arith, marks_long part.perm, ltb-false _ _ long))
        ])
      ])
    ]))

-- ---- a message
framed_long : (message : Message) → 2 ^ 32 ≤ length (spelling message) → byte_limit < frame_size message
unfolding frame_size
framed_long message h = omega (arith, h)

pub too_long : (message : Message) → is_counted message ≡ false → byte_limit < frame_size message
unfolding m.message m.spell_kind m.view_change m.start_view m.epoch_state m.settled m.start_epoch
too_long (kinds.ViewChange r v part) h =
    framed_long (kinds.ViewChange r v part) (omega (arith, in_middle (f.replica.spell r) _ (2 ^ 32) (in_middle (f.view.spell v) (p.part.spell part) (2 ^ 32) (part_long part h))))
too_long (kinds.StartView v part) h =
    framed_long (kinds.StartView v part) (omega (arith, in_middle (f.view.spell v) (p.part.spell part) (2 ^ 32) (part_long part h)))
too_long (kinds.EpochState r e part) h =
    framed_long (kinds.EpochState r e part) (omega (arith, in_middle (f.replica.spell r) _ (2 ^ 32) (in_middle (f.epoch.spell e) (p.part.spell part) (2 ^ 32) (part_long part h))))
too_long (kinds.Settled e v n places) h =
    let long : 2 ^ 32 ≤ length (p.places.spell places) = omega (arith, places_long places, ltb-false _ _ h) in
    framed_long (kinds.Settled e v n places)
    (omega (arith, in_middle (f.epoch.spell e) _ (2 ^ 32) (in_middle (f.view.spell v) _ (2 ^ 32) (in_middle (f.number.spell n) (p.places.spell places) (2 ^ 32) long))))
too_long (kinds.StartEpoch e s packets) h =
    let long : 2 ^ 32 ≤ length (f.packets.spell packets) = omega (arith, packets_long packets, ltb-false _ _ h) in
    framed_long (kinds.StartEpoch e s packets)
    (omega (arith, in_middle (f.epoch.spell e) _ (2 ^ 32) (in_middle (f.shard.spell s) (f.packets.spell packets) (2 ^ 32) long)))
too_long (kinds.Ask a i b) h = absurd cc
too_long (kinds.Txn k) h = absurd cc
too_long (kinds.Vouch v s r t i ph) h = absurd cc
too_long (kinds.Reply v s r t i ph w) h = absurd cc
too_long (kinds.Late s r i ph w) h = absurd cc
too_long (kinds.Find r q) h = absurd cc
too_long (kinds.Request q) h = absurd cc
too_long (kinds.Has k) h = absurd cc
too_long (kinds.TempDropped q s r v) h = absurd cc
too_long (kinds.Found k) h = absurd cc
too_long (kinds.Dropped q) h = absurd cc
too_long (kinds.SyncAsk e v) h = absurd cc
too_long (kinds.Ack r e v n) h = absurd cc
too_long (kinds.NewEpoch s r e) h = absurd cc
too_long (kinds.EpochAsk e) h = absurd cc
