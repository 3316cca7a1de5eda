-- What a replica says to clients and to the coordinator is in the messages' ranges; used for its rows.
use Rattle.std.proofs.Common.{◌≡◌, ◌<◌, ◌≤◌, ◌+◌, ◌-◌, ◌^◌, ℕ, zero, suc, Bool, true, false, nat_le, Option, Some, None, List, [], ◌∷◌, ◌++◌, map, refl, sym, ◌∙◌, subst, arith, inl, inr}
use Rattle.std.specs.List.{list_any, AllByRecursion}
use Rattle.std.proofs.lemmas.Bool.{cond_both, leb-true, or_cases, and_from}
use Rattle.eris_base.specs.declared.ids.Epoch.{Epoch}
use Rattle.eris_base.specs.declared.ids.Phase.{Phase}
use Rattle.eris_base.specs.declared.ids.Phase.TheVariants.{Whole, Prelim, Conclude}
use Rattle.eris_base.specs.Each.{Each}
use Rattle.eris_base.proofs.Each.{Each-append}
use Rattle.eris_txn.specs.declared.answer.Answer.{Answer}
use Rattle.eris_txn.specs.declared.packet.Packet.{Packet}
use Rattle.eris_log.specs.Entries.{length_of, own_place, entry_of}
use Rattle.eris_log.specs.Held.{packet_at}
use Rattle.eris_log.specs.PartValues.{PartValue}
use Rattle.eris_log.specs.Laws.Held.{all-packet_at}
use Rattle.eris_locks.specs.declared.done.Done.{Done}
use Rattle.eris_locks.specs.Shards.{names_shard}
use Rattle.eris_locks.specs.States.{phase_of}
use Rattle.eris_in_place.specs.MessageRanges.{MessageFits, SendsFit}
use Rattle.eris_msg.specs.declared.outgoing.Outgoing.{Outgoing}
use Rattle.eris_codec.specs.Fields as f
use Rattle.eris_codec.specs.Ranges.{HeldInRange}
use Rattle.eris_msg.proofs.MessageFits as m
use Rattle.eris_rules.specs.EpochMessages.{EpochSend}
use Rattle.eris_rules.specs.Outer.{outer_sends}
use Rattle.eris_rules.specs.ReplicaAnswers.{is_open, open_packet, open_at, open_upto, log_upto, late_answers, answer_after}
use Rattle.eris_rules.specs.ReplicaStates.{Member, EpochReplica, is_learner}
use Rattle.eris_rules.specs.Settling.{late_for, tells_late}
use Rattle.eris_rules.specs.Speaking.{vouch_for, replies_with, speaks_of, speaks_of_held, speaks_for, speaks_at, speaks_after, holds_from, has_gap, find_gap}
use Rattle.eris_rules.proofs.OuterLaws.{outer_sends-append}
use Rattle.eris_law_range.specs.Fitting.{PartIsRight, HeldIsRight, MemberFits, StateFits}
use Rattle.eris_law_range.specs.Answering.{PacketIsRight, DoneFits, KeptFits}
use Rattle.eris_law_range.proofs.AnswerRanges.{late_answers-fit, answer_after-fits}
use Rattle.eris_law_range.proofs.PartRanges.{number_from, number_below, place_from, packet_stamp, packet_id}

-- ---- sends
pub sent_also : (epoch : Epoch) (some more : List EpochSend) → SendsFit (outer_sends epoch some) → SendsFit (outer_sends epoch more) → SendsFit (outer_sends epoch (some ++ more))
sent_also epoch some more h k =
    subst SendsFit (sym (outer_sends-append epoch some more))
    (Each-append (λ (send : Outgoing). MessageFits send.message) (outer_sends epoch some) (outer_sends epoch more) h k)

phase-fits : (phase : Phase) → f.phase.fits phase ≡ true
unfolding f.phase f.from_to f.byte
phase-fits Whole = refl
phase-fits Prelim = refl
phase-fits Conclude = refl

module _ (me : Member) (epoch : Epoch) (fits : MemberFits me epoch) where
  -- ---- the packets of a part and of a log
  module _ (part : PartValue) (right : PartIsRight epoch me.shard part) where
    held_right : (number : ℕ) (packet : Packet) → packet_at part.held number ≡ Some packet → PacketIsRight packet × (names_shard me.shard packet ≡ true)
    held_right number packet e =
        let range = all-packet_at HeldInRange part.held number packet right.fits.ranges.held e in
        let held = all-packet_at (HeldIsRight me.shard) part.held number packet right.held e in
        (record { fits = range.1; exact = held.0 }, held.1)

    open_one : (is : Bool) (found : Option Packet) → ((packet : Packet) → found ≡ Some packet → PacketIsRight packet) → Each PacketIsRight (open_packet is found)
    open_one true (Some packet) h = (h packet refl, tt)
    open_one true None h = tt
    open_one false found h = tt

    open_at-right : (number : ℕ) → Each PacketIsRight (open_at part number)
    unfolding open_at
    open_at-right number = open_one (is_open (entry_of part number)) (packet_at part.held number) (λ packet e. (held_right number packet e).0)

    open_upto-right : (number : ℕ) → Each PacketIsRight (open_upto part number)
    unfolding open_upto
    open_upto-right zero = tt
    open_upto-right (suc number) = Each-append PacketIsRight (open_upto part number) (open_at part (number + 1)) (open_upto-right number) (open_at-right (number + 1))

    log_upto-right : (number : ℕ) → Each PacketIsRight (log_upto me.prior part number)
    unfolding log_upto
    log_upto-right number = Each-append PacketIsRight me.prior (open_upto part number) fits.prior (open_upto-right number)

    held_above : (number : ℕ) (held : List (ℕ × Packet)) → AllByRecursion HeldInRange held → list_any (λ pair. nat_le number pair.0) held ≡ true → number < 2 ^ 32
    held_above number [] r k = absurd cc
    held_above number (pair ∷ held) r k = elim (or_cases (nat_le number pair.0) (list_any (λ pair. nat_le number pair.0) held) k) [
      | inl here ↦ (let le : number ≤ pair.0 = leb-true number pair.0 here in let lt : pair.0 < 2 ^ 32 = number_below pair.0 r.0.0 in omega arith)
      | inr more ↦ held_above number held r.1 more
    ]

    gap_number : has_gap part ≡ true → f.number.fits (length_of part + 1) ≡ true
    unfolding has_gap holds_from
    gap_number h = number_from (length_of part + 1) (omega arith) (held_above (length_of part + 1) part.held right.fits.ranges.held h)

    pub gap-fits : has_gap part ≡ true → SendsFit (outer_sends epoch (find_gap me part ∷ []))
    gap-fits h =
        let place = own_place part (length_of part + 1) in
        (m.find_fits me.replica place ∙ and_from (f.replica.fits me.replica) (f.place.fits place) fits.replica (place_from place right.fits.ranges.of_epoch right.fits.ranges.of_shard (gap_number h)), tt)

  module _ (state : EpochReplica) (h : StateFits epoch me.shard state) where
    -- ---- to clients
    late_sent : (dones : List Done) → Each DoneFits dones → SendsFit (outer_sends epoch (map (λ done. late_for me done) dones))
    late_sent [] k = tt
    late_sent (done ∷ dones) k = (
      m.late_fits me.shard me.replica done.id done.phase done.answer
          ∙ and_from (f.shard.fits me.shard) _ fits.shard (and_from (f.replica.fits me.replica) _ fits.replica (and_from (f.id.fits done.id) _ k.0.id (and_from (f.phase.fits done.phase) (f.answer.fits done.answer) (phase-fits done.phase) k.0.answer))),
      late_sent dones k.1,
    )

    pub tells_late-fits : (number : ℕ) → SendsFit (outer_sends epoch (tells_late me state number))
    unfolding tells_late
    tells_late-fits number =
        late_sent (late_answers me.shard state.part.epoch (log_upto me.prior state.part number) state.settled)
        (late_answers-fit me.shard state.part.epoch (log_upto me.prior state.part number) state.settled (log_upto-right state.part h.part number))

    replied-fits : (packet : Packet) (answer : Option Answer) → PacketIsRight packet → KeptFits answer → SendsFit (outer_sends epoch (replies_with me state packet answer))
    replied-fits packet None k a = tt
    replied-fits packet (Some answer) k a = (
      m.reply_fits state.view me.shard me.replica packet.stamp packet.id (phase_of packet.body) answer
          ∙ and_from (f.view.fits state.view) _ h.view (and_from (f.shard.fits me.shard) _ fits.shard (and_from (f.replica.fits me.replica) _ fits.replica
          (and_from (f.stamp.fits packet.stamp) _ (packet_stamp packet k.fits) (and_from (f.id.fits packet.id) _ (packet_id packet k.fits)
          (and_from (f.phase.fits (phase_of packet.body)) (f.answer.fits answer) (phase-fits (phase_of packet.body)) a))))),
      tt,
    )

    speaks_of-fits : (number : ℕ) (packet : Packet) → PacketIsRight packet → names_shard me.shard packet ≡ true → SendsFit (outer_sends epoch (speaks_of me state number packet))
    unfolding speaks_of
    speaks_of-fits number packet k named =
        cond_both (is_learner me state.view) (replies_with me state packet (answer_after me.shard (log_upto me.prior state.part (number - 1)) packet)) (vouch_for me state packet ∷ []) (λ sends. SendsFit (outer_sends epoch sends))
        (λ _. replied-fits packet (answer_after me.shard (log_upto me.prior state.part (number - 1)) packet) k
        (answer_after-fits me.shard (log_upto me.prior state.part (number - 1)) packet (log_upto-right state.part h.part (number - 1)) k named))
        (λ _. (
          m.vouch_fits state.view me.shard me.replica packet.stamp packet.id (phase_of packet.body)
              ∙ and_from (f.view.fits state.view) _ h.view (and_from (f.shard.fits me.shard) _ fits.shard (and_from (f.replica.fits me.replica) _ fits.replica
              (and_from (f.stamp.fits packet.stamp) _ (packet_stamp packet k.fits) (and_from (f.id.fits packet.id) (f.phase.fits (phase_of packet.body)) (packet_id packet k.fits) (phase-fits (phase_of packet.body)))))),
          tt,
        ))

    speaks_of_held-fits : (number : ℕ) (found : Option Packet) → packet_at state.part.held number ≡ found → SendsFit (outer_sends epoch (speaks_of_held me state number found))
    speaks_of_held-fits number None e = tt
    speaks_of_held-fits number (Some packet) e = let k = held_right state.part h.part number packet e in speaks_of-fits number packet k.0 k.1

    pub speaks_for-fits : (number : ℕ) → SendsFit (outer_sends epoch (speaks_for me state number))
    unfolding speaks_for
    speaks_for-fits number = speaks_of_held-fits number (packet_at state.part.held number) refl

    speaks_at-fits : (number : ℕ) → SendsFit (outer_sends epoch (speaks_at me state number))
    unfolding speaks_at
    speaks_at-fits number =
        cond_both (is_open (entry_of state.part number)) (speaks_for me state number) [] (λ sends. SendsFit (outer_sends epoch sends))
        (λ _. speaks_for-fits number) (λ _. tt)

    pub speaks_after-fits : (number count : ℕ) → SendsFit (outer_sends epoch (speaks_after me state number count))
    unfolding speaks_after
    speaks_after-fits number zero = tt
    speaks_after-fits number (suc count) =
        sent_also epoch (speaks_after me state number count) (speaks_at me state (number + count + 1)) (speaks_after-fits number count) (speaks_at-fits (number + count + 1))
