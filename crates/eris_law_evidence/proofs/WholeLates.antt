-- A late answer is given only over a log without a gap: the learner that gives it settles no further than its length.
-- Used where the log behind a late answer is shown to be the settled one.
use Rattle.std.proofs.Common.{ℕ, zero, suc, ◌+◌, ◌-◌, ◌≤◌, List, not, ◌&&◌, Option, Some, None}
use Rattle.std.proofs.lemmas.Bool.{cond_both}
use Rattle.eris_base.specs.Each.{Each}
use Rattle.eris_base.specs.StampPlaces.{is_number}
use Rattle.eris_base.proofs.Each.{Each-append, Each-any}
use Rattle.eris_txn.specs.declared.answer.Answer.{Answer}
use Rattle.eris_txn.specs.declared.packet.Packet.{Packet}
use Rattle.eris_log.specs.Entries.{entry_of, length_of}
use Rattle.eris_log.specs.Held.{packet_at}
use Rattle.eris_log.specs.Laws.Entries.{NoGap}
use Rattle.eris_log.specs.PartValues.{PartValue}
use Rattle.eris_view.proofs.Acks.{IsSettled-settled}
use Rattle.eris_rules.specs.EpochMessages.{EpochMessage, EpochSend, Stamped, Instructs, Notifies, Exchanges, Responds, SyncAsk, Settled, Response, Vouch, Reply, Late, send_each}
use Rattle.eris_rules.specs.EpochReplicas.{EpochInput, holds_packet, gives_packet, drops_for_a_time, found_row, dropped_row, row, epoch_step}
use Rattle.eris_rules.specs.ReplicaAnswers.{is_open, log_upto, answer_after}
use Rattle.eris_rules.specs.ReplicaStates.{Member, EpochReplica, EpochOut, is_normal, is_learner, others}
use Rattle.eris_rules.specs.Settling.{shared_number, ack_tally, late_for, tells_late, tells_settled, settles, acknowledges, also_asks}
use Rattle.eris_rules.specs.Speaking.{replies_with, speaks_of, speaks_of_held, speaks_for, speaks_at, speaks_after, speaks_on, has_gap, asks_gap, asks_once, tail}
use Rattle.eris_rules.specs.Views.{shows_part, starts_view, became_normal, tells_view, takes_view}
use Rattle.eris_law_epoch.proofs.Grow.{NoGap-within}
use Rattle.eris_law_epoch.proofs.Leaves.{Leaf, Nothing, Holds, SpeaksAgain, Gives, Drops, Finds, Loses, Shows, Starts, Waits, Tells, Takes, Acknowledges, Settles, Counts, Hears, Learns, Repeats, AsksHowFar, AsksGap, leaf}
use Rattle.eris_law_epoch.proofs.Members.{OfMessage, Each-map, Each-told}

-- of a late answer: there is no gap up to the number
abbrev pub IsWholeResponse : PartValue → ℕ → Response → Type 0
IsWholeResponse part number (Vouch view shard replica stamp id phase) = Unit {0}
IsWholeResponse part number (Reply view shard replica stamp id phase answer) = Unit {0}
IsWholeResponse part number (Late shard replica id phase answer) = NoGap part number

abbrev pub IsWhole : PartValue → ℕ → EpochMessage → Type 0
IsWhole part number (Stamped packet) = Unit {0}
IsWhole part number (Instructs instruction) = Unit {0}
IsWhole part number (Notifies notice) = Unit {0}
IsWhole part number (Exchanges exchange) = Unit {0}
IsWhole part number (Responds response) = IsWholeResponse part number response

record IsWholeOut (out : EpochOut) : Type 0 where
  whole : Each (OfMessage (IsWhole out.state.part out.state.settled)) out.sends

-- ---- what it speaks is no late answer
module _ (part : PartValue) (settled_to : ℕ) (me : Member) (state : EpochReplica) where
  abbrev AllWhole : List EpochSend → Type 0
  AllWhole sends = Each (OfMessage (IsWhole part settled_to)) sends

  whole_reply : (packet : Packet) (found : Option Answer) → AllWhole (replies_with me state packet found)
  whole_reply packet None = tt
  whole_reply packet (Some answer) = (tt, tt)

  whole_of : (number : ℕ) (packet : Packet) → AllWhole (speaks_of me state number packet)
  unfolding speaks_of
  whole_of number packet = cond_both (is_learner me state.view) _ _ AllWhole
      (λ h. whole_reply packet (answer_after me.shard (log_upto me.prior state.part (number - 1)) packet)) (λ h. (tt, tt))

  whole_held : (number : ℕ) (found : Option Packet) → AllWhole (speaks_of_held me state number found)
  whole_held number None = tt
  whole_held number (Some packet) = whole_of number packet

  whole_for : (number : ℕ) → AllWhole (speaks_for me state number)
  unfolding speaks_for
  whole_for number = whole_held number (packet_at state.part.held number)

  whole_at : (number : ℕ) → AllWhole (speaks_at me state number)
  unfolding speaks_at
  whole_at number = cond_both (is_open (entry_of state.part number)) _ _ AllWhole (λ h. whole_for number) (λ h. tt)

  whole_after : (number count : ℕ) → AllWhole (speaks_after me state number count)
  unfolding speaks_after
  whole_after number zero = tt
  whole_after number (suc count) = Each-append _ (speaks_after me state number count) (speaks_at me state (number + count + 1)) (whole_after number count) (whole_at (number + count + 1))

-- ---- the learner settles at most its length
shared_low : (me : Member) (made : EpochReplica) → shared_number me made ≤ length_of made.part
unfolding shared_number
shared_low me made = (IsSettled-settled (ack_tally me made) (length_of made.part)).within

whole_late : (me : Member) (made : EpochReplica) → Each (OfMessage (IsWhole made.part (shared_number me made))) (tells_late me made (shared_number me made))
unfolding tells_late
whole_late me made =
    Each-map (OfMessage (IsWhole made.part (shared_number me made))) (λ done. late_for me done) _
    (Each-any (λ done. NoGap made.part (shared_number me made)) (λ done. NoGap-within made.part (shared_number me made) (shared_low me made)) _)

whole_settled : (part : PartValue) (number : ℕ) (me : Member) (made : EpochReplica) (upto : ℕ) → Each (OfMessage (IsWhole part number)) (tells_settled me made upto)
unfolding tells_settled
whole_settled part number me made upto = Each-told (IsWhole part number) (others me) (Exchanges (Settled made.view upto made.part.perm)) tt

whole_settles : (me : Member) (made : EpochReplica) → IsWholeOut (settles me made (shared_number me made))
unfolding settles
whole_settles me made = record {
  whole = Each-append _ (tells_late me made (shared_number me made)) (tells_settled me made (shared_number me made)) (whole_late me made) (whole_settled made.part (shared_number me made) me made (shared_number me made));
}

whole_gives : (me : Member) (state : EpochReplica) (found : Option Packet) → IsWholeOut (gives_packet state found)
whole_gives me state None = record { whole = tt }
whole_gives me state (Some packet) = record { whole = (tt, tt) }

whole_starts : (me : Member) (made : EpochReplica) → IsWholeOut (starts_view me made)
unfolding starts_view became_normal
whole_starts me made = record { whole = Each-told _ (others me) _ tt }

whole_leaf : (me : Member) (state : EpochReplica) (input : EpochInput) (out : EpochOut) → Leaf me state input out → IsWholeOut out
unfolding holds_packet drops_for_a_time found_row dropped_row shows_part tells_view takes_view became_normal acknowledges also_asks
whole_leaf me state input _ (Nothing i) = record { whole = tt }
whole_leaf me state _ _ (Holds packet) = record { whole = tt }
whole_leaf me state _ _ (SpeaksAgain packet number h) = record { whole = whole_for state.part state.settled me state number }
whole_leaf me state _ _ (Gives place number normal e) = whole_gives me state _
whole_leaf me state _ _ (Drops place normal none) = record { whole = (tt, tt) }
whole_leaf me state _ _ (Finds packet) = record { whole = tt }
whole_leaf me state _ _ (Loses place) = record { whole = tt }
whole_leaf me state input _ (Shows i made h) = record { whole = (tt, tt) }
whole_leaf me state input _ (Starts i made h learner ready) = whole_starts me made
whole_leaf me state input _ (Waits i made h) = record { whole = tt }
whole_leaf me state input _ (Tells i replica normal learner) = record { whole = (tt, tt) }
whole_leaf me state _ _ (Takes view part le own follows) = record { whole = tt }
whole_leaf me state input _ (Acknowledges i normal follows) = record { whole = (tt, tt) }
whole_leaf me state input _ (Settles i made h lt) = whole_settles me made
whole_leaf me state input _ (Counts i made h) = record { whole = tt }
whole_leaf me state _ _ (Hears view number places) = record { whole = tt }
whole_leaf me state _ _ (Learns view number places e covered lt) = record { whole = tt }
whole_leaf me state input _ (Repeats i normal learner) = record { whole = whole_settled state.part state.settled me state state.settled }
whole_leaf me state input _ (AsksHowFar i out normal learner l) = record {
  whole = Each-append _ out.sends (send_each (others me) (Exchanges (SyncAsk out.state.view))) (whole_leaf me state input out l).whole (Each-told _ (others me) (Exchanges (SyncAsk out.state.view)) tt);
}
whole_leaf me state input _ (AsksGap i normal gap) = record { whole = (tt, tt) }

-- ---- the tail
whole_speaks : (me : Member) (out : EpochOut) → IsWholeOut out → IsWholeOut (speaks_on me out)
unfolding speaks_on
whole_speaks me out h = record {
  whole = Each-append _ out.sends _ h.whole (whole_after out.state.part out.state.settled me out.state out.state.spoken (length_of out.state.part - out.state.spoken));
}

whole_asks : (me : Member) (out : EpochOut) → IsWholeOut out → IsWholeOut (asks_gap me out)
unfolding asks_gap
whole_asks me out h = record { whole = Each-append _ out.sends _ h.whole (tt, tt) }

whole_once : (me : Member) (out : EpochOut) → IsWholeOut out → IsWholeOut (asks_once me out)
unfolding asks_once
whole_once me out h = cond_both (has_gap out.state.part && not (is_number out.state.asked (length_of out.state.part + 1))) _ _ IsWholeOut (λ k. whole_asks me out h) (λ k. h)

whole_tail : (me : Member) (out : EpochOut) → IsWholeOut out → IsWholeOut (tail me out)
unfolding tail
whole_tail me out h = cond_both (is_normal out.state.status) _ _ IsWholeOut (λ k. whole_once me (speaks_on me out) (whole_speaks me out h)) (λ k. h)

-- NO STEP GIVES A LATE ANSWER but over a log without a gap
pub whole_step : (me : Member) (state : EpochReplica) (input : EpochInput) → Each (OfMessage (IsWhole (epoch_step me state input).state.part (epoch_step me state input).state.settled)) (epoch_step me state input).sends
unfolding epoch_step
whole_step me state input = (whole_tail me (row me state input) (whole_leaf me state input _ (leaf me state input))).whole
