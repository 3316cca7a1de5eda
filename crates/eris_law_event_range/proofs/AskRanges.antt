-- What a sequencer sends for an Ask is in the ranges of messages: the packet has the epoch and the next numbers, which
-- are in theirs. Used where a message comes to a sequencer.
use Rattle.std.proofs.Common.{◌≡◌, ◌<◌, ◌≤◌, ℕ, zero, suc, ◌+◌, ◌-◌, ◌*◌, ◌^◌, ◌&&◌, true, false, nat_lt, List, [], ◌∷◌, ◌++◌, length, map, get_or, Some, None, refl, ap, sym, subst, ◌∙◌, arith, inl, inr}
use Rattle.std.specs.List.{AllByRecursion, flat_map, list_all, range_with_len}
use Rattle.std.proofs.lemmas.Bool.{and_parts, and_from, lt-ltb, ltb-true, eqb-true, eqb-false, or_parts}
use Rattle.std.proofs.lemmas.Option.{get_or_from_slice_get, slice_get_within}
use Rattle.eris_base.specs.declared.config.Config.{Config}
use Rattle.eris_base.specs.declared.ids.Epoch.{Epoch}
use Rattle.eris_base.specs.declared.ids.Node.{Node}
use Rattle.eris_base.specs.declared.ids.ShardId.{ShardId}
use Rattle.eris_txn.specs.declared.packet.Packet.{Packet}
use Rattle.eris_txn.specs.Bodies.{ascends_from, participants_of}
use Rattle.eris_txn.proofs.BodyLaws.{participants-ascend}
use Rattle.eris_in_place.specs.MessageRanges.{SendsFit}
use Rattle.eris_msg.specs.declared.message.Message.{Message}
use Rattle.eris_msg.specs.declared.message.Message.TheVariants as kinds
use Rattle.eris_msg.specs.declared.outgoing.Outgoing.{Outgoing}
use Rattle.eris_codec.specs.Fields as f
use Rattle.eris_codec.specs.Ranges.{PairInRange, packet_fits, stamp_fits}
use Rattle.eris_msg.specs.Spellings.{message_fits}
use Rattle.eris_msg.proofs.MessageFits.{ask_fits, txn_fits}
use Rattle.eris_codec.proofs.RangeLaws.{stamp_fits-from}
use Rattle.eris_sequencer.specs.declared.stamping.Stamping.{Stamping}
use Rattle.eris_sequencer.specs.Asks.{Asked, ask, sends_of, sends_to}
use Rattle.eris_sequencer.specs.Sequencers.{are_shards_of}
use Rattle.eris_sequencer.specs.StampingFacts.{AreStampings, is_sequencer}
use Rattle.eris_sequencer.specs.Stamps.{counter_of, is_full, next_packet, next_places, next_stamp}
use Rattle.eris_sequencer.proofs.AskLaws.{IsStamped, ask-cases}
use Rattle.eris_sequencer.proofs.SequencerLaws.{are_from-at, in_place-shards, some_shard}
use Rattle.eris_sequencer.proofs.StampLaws.{next_places-stamp}
use Rattle.eris_law_event_range.proofs.EventRanges.{shard_fits}

-- ---- numbers
in_range-at : (counters : List ℕ) (at : ℕ) → list_all (λ counter. nat_lt counter (2 ^ 32)) counters ≡ true → get_or counters at 0 < 2 ^ 32
in_range-at [] at h = omega arith
in_range-at (counter ∷ counters) zero h = ltb-true counter (2 ^ 32) (and_parts _ _ h).0
in_range-at (counter ∷ counters) (suc at) h = in_range-at counters at (and_parts _ _ h).1

number_fits : (n : ℕ) → 0 < n → n < 2 ^ 32 → f.number.fits n ≡ true
unfolding f.number f.word
number_fits n some lt = and_from _ _ (lt-ltb n (2 ^ 32) lt) (lt-ltb 0 n some)

epoch_fits : (epoch : Epoch) → epoch.0 < 2 ^ 32 → f.epoch.fits epoch ≡ true
unfolding f.epoch f.word
epoch_fits epoch lt = lt-ltb epoch.0 (2 ^ 32) lt

places_fit : (counters : List ℕ) (shards : List ShardId) (limit : ℕ) → limit ≤ 64 → list_all (λ counter. nat_lt counter (2 ^ 32)) counters ≡ true
    → list_all (λ shard. nat_lt shard.0 limit) shards ≡ true → is_full counters shards ≡ false → AllByRecursion PairInRange (next_places counters shards)
unfolding next_places is_full counter_of
places_fit counters [] limit le h k free = tt
places_fit counters (shard ∷ shards) limit le h k free =
    let full = or_parts _ _ free in
    let parts = and_parts _ _ k in
    let apart = eqb-false (get_or counters shard.0 0) (2 ^ 32 - 1) full.0 in
    let below = in_range-at counters shard.0 h in
    let within = ltb-true shard.0 limit parts.0 in (
      (shard_fits shard (omega (arith, within, le)), number_fits (get_or counters shard.0 0 + 1) (omega arith) (omega (arith, below, apart))),
      places_fit counters shards limit le h parts.1 full.1,
    )

-- ---- ascending shards below a limit are few
few_above : (before : ShardId) (shards : List ShardId) (limit : ℕ) → before.0 < limit → ascends_from (Some before) shards ≡ true → list_all (λ shard. nat_lt shard.0 limit) shards ≡ true
    → length shards + before.0 < limit
few_above before [] limit lt h k = omega (arith, lt)
few_above before (shard ∷ shards) limit lt h k =
    let parts = and_parts _ _ h in
    let more = and_parts _ _ k in
    let rest = few_above shard shards limit (ltb-true shard.0 limit more.0) parts.1 more.1 in
    let above = ltb-true before.0 shard.0 parts.0 in
    omega (arith, rest, above)

few_shards : (shards : List ShardId) (limit : ℕ) → ascends_from None shards ≡ true → list_all (λ shard. nat_lt shard.0 limit) shards ≡ true → length shards ≤ limit
few_shards [] limit h k = omega arith
few_shards (shard ∷ shards) limit h k =
    let more = and_parts _ _ k in
    let rest = few_above shard shards limit (ltb-true shard.0 limit more.0) h more.1 in
    omega (arith, rest)

length-places : (counters : List ℕ) (shards : List ShardId) → length (next_places counters shards) ≡ length shards
unfolding next_places
length-places counters [] = refl
length-places counters (shard ∷ shards) = ap suc (length-places counters shards)

-- ---- the packet
all_below : (config : Config) (shards : List ShardId) → are_shards_of config shards ≡ true → list_all (λ shard. nat_lt shard.0 config.shards) shards ≡ true
unfolding are_shards_of
all_below config shards h = (and_parts _ _ h).1

next_stamp-fits : (config : Config) (epoch : ℕ) (stamping : Stamping) (shards : List ShardId) → config.shards ≤ 64 → epoch < 2 ^ 32 → is_sequencer config.shards epoch stamping.sequencer ≡ true
    → are_shards_of config shards ≡ true → ascends_from None shards ≡ true → is_full stamping.sequencer.counters shards ≡ false → stamp_fits (next_stamp stamping.sequencer shards) ≡ true
unfolding next_stamp
next_stamp-fits config epoch stamping shards le lt h k ascend free =
    let parts = and_parts _ _ h in
    let more = and_parts _ _ parts.1 in
    let same = eqb-true stamping.sequencer.epoch.0 epoch parts.0 in
    let below = all_below config shards k in
    stamp_fits-from (next_stamp stamping.sequencer shards) (epoch_fits stamping.sequencer.epoch (omega (arith, same, lt)))
    (next_places-stamp stamping.sequencer.counters shards (some_shard config shards k) ascend)
    (omega (arith, length-places stamping.sequencer.counters shards, few_shards shards config.shards ascend below, le))
    (places_fit stamping.sequencer.counters shards config.shards le more.1 below free)

-- ---- what is sent
each_in : (packet : Packet) → packet_fits packet ≡ true → (shard : ShardId) (numbers : List ℕ)
    → SendsFit (map (λ replica. let send : Outgoing = record { to = Node.Replica shard (record { 0 = replica }); message = kinds.Txn packet } in send) numbers)
each_in packet fits shard [] = tt
each_in packet fits shard (number ∷ numbers) = (txn_fits packet ∙ fits, each_in packet fits shard numbers)

sends-append : (sends more : List Outgoing) → SendsFit sends → SendsFit more → SendsFit (sends ++ more)
sends-append [] more h k = k
sends-append (send ∷ sends) more h k = (h.0, sends-append sends more h.1 k)

in_shards : (n : ℕ) (packet : Packet) → packet_fits packet ≡ true → (shards : List ShardId) → SendsFit (flat_map (sends_to n packet) shards)
unfolding sends_to
in_shards n packet fits [] = tt
in_shards n packet fits (shard ∷ shards) = sends-append (sends_to n packet shard) (flat_map (sends_to n packet) shards) (each_in packet fits shard (range_with_len 0 (2 * n + 1))) (in_shards n packet fits shards)

sent_fits : (n : ℕ) (packet : Packet) → packet_fits packet ≡ true → SendsFit (sends_of n packet)
unfolding sends_of
sent_fits n packet fits = in_shards n packet fits (participants_of packet.body)

stamped_fits : (config : Config) (stampings : List Stamping) (epoch : Epoch) (message : Message) (asked : Asked) → AreStampings config stampings → config.shards ≤ 64 → message_fits message ≡ true
    → IsStamped config stampings epoch message asked → SendsFit asked.sends
unfolding next_packet f.packet
stamped_fits config stampings epoch message asked h le fits s =
    let lt = slice_get_within stampings epoch.0 s.stamping s.found in
    let is : is_sequencer config.shards epoch.0 s.stamping.sequencer ≡ true =
    subst (λ (z : Stamping). is_sequencer config.shards epoch.0 z.sequencer ≡ true) (get_or_from_slice_get stampings epoch.0 s.stamping s.stamping s.found)
    (subst (λ n. is_sequencer config.shards n (get_or stampings epoch.0 s.stamping).sequencer ≡ true) (omega arith) (are_from-at config.shards 0 stampings h.each epoch.0 s.stamping lt)) in
    let asks = and_parts (f.client.fits s.asker) (f.id.fits s.id && f.body.fits s.body) (sym (ask_fits s.asker s.id s.body) ∙ ap message_fits (sym s.is_ask) ∙ fits) in
    let more = and_parts (f.id.fits s.id) (f.body.fits s.body) asks.1 in
    let stamp = next_stamp-fits config epoch.0 s.stamping (participants_of s.body) le (omega (arith, lt, h.few)) is (in_place-shards config s.asker s.id s.body s.in_place) (participants-ascend s.body) s.free in
    let packet : packet_fits (next_packet s.stamping.sequencer s.id s.asker s.body) ≡ true = and_from (stamp_fits (next_stamp s.stamping.sequencer (participants_of s.body))) (f.id.fits s.id && (f.client.fits s.asker && f.body.fits s.body)) stamp
    (and_from (f.id.fits s.id) (f.client.fits s.asker && f.body.fits s.body) more.0 (and_from (f.client.fits s.asker) (f.body.fits s.body) asks.0 more.1)) in
    subst SendsFit (sym s.sent) (sent_fits config.f (next_packet s.stamping.sequencer s.id s.asker s.body) packet)

pub asks_are_in_range : (config : Config) (stampings : List Stamping) (epoch : Epoch) (message : Message) → AreStampings config stampings → config.shards ≤ 64 → message_fits message ≡ true
    → SendsFit (ask config stampings epoch message).sends
asks_are_in_range config stampings epoch message h le fits =
    elim (ask-cases config stampings epoch message) [
      | inl none ↦ subst (λ (asked : Asked). SendsFit asked.sends) (sym none) tt
      | inr stamped ↦ stamped_fits config stampings epoch message (ask config stampings epoch message) h le fits stamped
    ]
