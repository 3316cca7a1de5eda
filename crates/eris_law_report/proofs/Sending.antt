-- WHAT WAS SENT, within the limits: each message that is in range but for the counts of its lists is in range whole, since each item
-- of a list takes a byte at least.
use Rattle.std.proofs.Common.{◌≡◌, ◌≤◌, ◌<◌, ◌+◌, ◌^◌, ℕ, Bool, true, false, cond, nat_lt, length, Option, Some, None, List, [], ◌∷◌, ◌++◌, refl, arith}
use Rattle.std.specs.List.{flat_map}
use Rattle.std.specs.Option.{option_or}
use Rattle.std.proofs.lemmas.Bool.{ltb-false}
use Rattle.std.proofs.lemmas.List.{length-append}
use Rattle.std.proofs.lemmas.List.Sums.{sum_by-append}
use Rattle.eris_base.specs.declared.ids.Place.{Place}
use Rattle.eris_base.specs.declared.ids.ShardId.{ShardId}
use Rattle.eris_base.specs.Each.{Each}
use Rattle.eris_txn.specs.declared.packet.Packet.{Packet}
use Rattle.eris_log.specs.PartValues.{PartValue}
use Rattle.eris_codec.specs.Codecs.{◌⊗◌}
use Rattle.eris_codec.specs.Fields as f
use Rattle.eris_codec.specs.Parts as p
use Rattle.eris_codec.specs.Ranges.{PartCounted}
use Rattle.eris_codec.proofs.Sizes.{pairs_length}
use Rattle.eris_event.specs.declared.refusal.Refusal.{Refusal}
use Rattle.eris_event.specs.declared.refusal.Refusal.TheVariants.{Bytes, Packets}
use Rattle.eris_msg.specs.declared.message.Message.{Message}
use Rattle.eris_msg.specs.declared.message.Message.TheVariants as kinds
use Rattle.eris_msg.specs.declared.outgoing.Outgoing.{Outgoing}
use Rattle.eris_msg.specs.Messages as m
use Rattle.eris_msg.specs.Spellings.{message_fits, spelling}
use Rattle.eris_in_place.specs.MessageRanges.{IsCounted, MessageFits, SendsFit}
use Rattle.eris_in_place.proofs.MessageRangeLaws.{counted_message_fits}
use Rattle.eris_rules.specs.Refusals.{frame_size, frame_sizes, limit_met}

-- ---- each item of a list takes a byte at least
items_long : {X : Type 0} (spell : X → List ℕ) (some : (x : X) → 1 ≤ length (spell x)) (xs : List X) → length xs ≤ length (flat_map spell xs)
items_long spell some [] = omega arith
items_long spell some (x ∷ xs) = omega (arith, length-append (spell x) (flat_map spell xs), some x, items_long spell some xs)

packet_some : (packet : Packet) → 1 ≤ length (f.packet.spell packet)
unfolding f.packet f.stamp f.epoch f.word
packet_some packet = omega arith

pair_some : (pair : ShardId × ℕ) → 1 ≤ length ((f.shard ⊗ f.number).spell pair)
unfolding f.shard f.from_to f.byte
pair_some pair = omega arith

held_some : (pair : ℕ × Packet) → 1 ≤ length ((f.number ⊗ f.packet).spell pair)
unfolding f.number f.word
held_some pair = omega arith

packets_long : (packets : List Packet) → length packets ≤ length (f.packets.spell packets)
unfolding f.packets
packets_long packets =
    omega (arith, length-append (f.word.spell (length packets)) (flat_map f.packet.spell packets), items_long f.packet.spell packet_some packets)

places_long : (pairs : List (ShardId × ℕ)) → length pairs ≤ length (p.places.spell pairs)
unfolding p.places
places_long pairs =
    omega (arith, length-append (f.word.spell (length pairs)) (flat_map (f.shard ⊗ f.number).spell pairs), items_long (f.shard ⊗ f.number).spell pair_some pairs)

held_long : (list : List (ℕ × Packet)) → length list ≤ length (p.held.spell list)
unfolding p.held
held_long list =
    omega (arith, length-append (f.word.spell (length list)) (flat_map (f.number ⊗ f.packet).spell list), items_long (f.number ⊗ f.packet).spell held_some list)

marks_long : (list : List Place) → length list ≤ length (p.places.spell (p.pairs_of list))
marks_long list = omega (arith, places_long (p.pairs_of list), pairs_length list)

-- ---- so what is short has few items
part_counted : (part : PartValue) → length (p.part.spell part) < 2 ^ 32 → PartCounted part
unfolding p.part
part_counted part h =
    let shard = f.shard.spell part.shard in
    let epoch = f.epoch.spell part.epoch in
    let held = p.held.spell part.held in
    let temp = p.places.spell (p.pairs_of part.temp) in
    let fnd = p.places.spell (p.pairs_of part.fnd) in
    let perm = p.places.spell (p.pairs_of part.perm) in
    let all : length (shard ++ (epoch ++ (held ++ (temp ++ (fnd ++ perm))))) ≡ length shard + (length epoch + (length held + (length temp + (length fnd + length perm)))) =
    omega (arith, length-append shard (epoch ++ (held ++ (temp ++ (fnd ++ perm)))), length-append epoch (held ++ (temp ++ (fnd ++ perm))), length-append held (temp ++ (fnd ++ perm)), length-append temp (fnd ++ perm), length-append fnd perm) in
    record {
      held = omega (arith, h, all, held_long part.held);
      temp = omega (arith, h, all, marks_long part.temp);
      fnd = omega (arith, h, all, marks_long part.fnd);
      perm = omega (arith, h, all, marks_long part.perm);
    }

counted : (message : Message) → length (spelling message) < 2 ^ 32 → IsCounted message
unfolding m.message m.spell_kind m.view_change m.start_view m.epoch_state m.settled m.start_epoch
counted (kinds.ViewChange replica view part) h =
    part_counted part (omega (arith, h, length-append (f.replica.spell replica) (f.view.spell view ++ p.part.spell part), length-append (f.view.spell view) (p.part.spell part)))
counted (kinds.StartView view part) h = part_counted part (omega (arith, h, length-append (f.view.spell view) (p.part.spell part)))
counted (kinds.EpochState replica epoch part) h =
    part_counted part (omega (arith, h, length-append (f.replica.spell replica) (f.epoch.spell epoch ++ p.part.spell part), length-append (f.epoch.spell epoch) (p.part.spell part)))
counted (kinds.Settled epoch view number places) h =
    omega (
      arith,
      h,
      places_long places,
      length-append (f.epoch.spell epoch) (f.view.spell view ++ (f.number.spell number ++ p.places.spell places)),
      length-append (f.view.spell view) (f.number.spell number ++ p.places.spell places),
      length-append (f.number.spell number) (p.places.spell places),
    )
counted (kinds.StartEpoch epoch shard packets) h =
    omega (arith, h, packets_long packets, length-append (f.epoch.spell epoch) (f.shard.spell shard ++ f.packets.spell packets), length-append (f.shard.spell shard) (f.packets.spell packets))
counted message h = tt

one_spelled : (message : Message) → MessageFits message → frame_size message ≤ 67108864 → message_fits message ≡ true
unfolding frame_size
one_spelled message h small = counted_message_fits message h (counted message (omega (arith, small)))

-- ---- within the limits
-- each message has a spelling
abbrev pub AreSpelled : List Outgoing → Type 0
AreSpelled sent = Each (λ (one : Outgoing). message_fits one.message ≡ true) sent

-- few messages, of few bytes
pub record IsWithin (sent : List Outgoing) : Type 0 where
  pub few : length sent ≤ 262144
  pub small : frame_sizes sent ≤ 67108864

pub within_limits : (sent : List Outgoing) → limit_met sent ≡ None → IsWithin sent
unfolding limit_met
within_limits sent h = by_tests (nat_lt 262144 (length sent)) (nat_lt 67108864 (frame_sizes sent)) refl refl h
  where
    by_tests : (many large : Bool) → nat_lt 262144 (length sent) ≡ many → nat_lt 67108864 (frame_sizes sent) ≡ large
        → ◌≡◌ {A = Option Refusal} (cond many (Some Packets) (cond large (Some Bytes) None)) None → IsWithin sent
    by_tests true large e k h = absurd cc
    by_tests false true e k h = absurd cc
    by_tests false false e k h = record { few = ltb-false 262144 (length sent) e; small = ltb-false 67108864 (frame_sizes sent) k }

all_spelled : (sent : List Outgoing) → SendsFit sent → frame_sizes sent ≤ 67108864 → AreSpelled sent
unfolding frame_sizes
all_spelled [] h small = tt
all_spelled (one ∷ sent) h small =
    let both : frame_sizes (one ∷ sent) ≡ frame_size one.message + frame_sizes sent =
    omega (arith, sum_by-append (λ (one : Outgoing). frame_size one.message) (one ∷ []) sent) in
    (one_spelled one.message h.0 (omega (arith, small, both)), all_spelled sent h.1 (omega (arith, small, both)))

-- WITHIN THE LIMITS what was sent has spellings
pub spelled : (sent : List Outgoing) → SendsFit sent → limit_met sent ≡ None → AreSpelled sent
spelled sent h met = all_spelled sent h (within_limits sent met).small

-- ---- of what isn't refused
pub second_none : (one other : Option Refusal) → option_or one other ≡ None → other ≡ None
second_none None other h = h
second_none (Some cause) other h = absurd cc
