-- The rows of one epoch that tell others, as sends of the whole.
use Rattle.std.proofs.Common.{◌≡◌, ◌<◌, ◌+◌, ℕ, zero, suc, List, [], ◌∷◌, ◌++◌, map, length, take, get_or, refl, ap, sym, ◌∙◌, arith}
use Rattle.std.proofs.lemmas.List.Sums.{fold_more}
use Rattle.eris_base.specs.declared.ids.Epoch.{Epoch}
use Rattle.eris_base.specs.declared.ids.Place.{Place}
use Rattle.eris_base.specs.Each.{Each}
use Rattle.eris_log.specs.PartValues.{PartValue}
use Rattle.eris_log.specs.Parts.{mark_dropped}
use Rattle.eris_log.specs.Places.{place_cmp, with_place, with_places, pairs_of}
use Rattle.eris_log.specs.Sorted.{union, with_item}
use Rattle.eris_locks.specs.declared.done.Done.{Done}
use Rattle.eris_msg.specs.declared.message.Message.{Message}
use Rattle.eris_msg.specs.declared.outgoing.Outgoing.{Outgoing}
use Rattle.eris_rules.specs.EpochMessages.{Exchanges, StartView, SyncAsk, Settled, send_each}
use Rattle.eris_rules.specs.Outer.{outer_sends, tell_each}
use Rattle.eris_rules.specs.ReplicaAnswers.{late_answers, log_upto}
use Rattle.eris_rules.specs.ReplicaStates.{Member, EpochReplica, EpochOut, others}
use Rattle.eris_rules.specs.Settling.{mark_all_dropped, late_for, tells_late, tells_settled, settles, also_asks}
use Rattle.eris_rules.specs.Views.{became_normal, starts_view}
use Rattle.eris_rules.proofs.OuterLaws.{outer_sends-each, outer_sends-append}
use Rattle.eris_view.specs.AckTallies.{AckTallyValue, settled}
use Rattle.eris_view.specs.ViewTallies.{union_of}
use Rattle.eris_member.specs.LateSends.{late_out}
use Rattle.eris_member.specs.MemberValues.{MemberValue, after}

pub starts_view_told : (value : MemberValue) → after value (starts_view value.me value.state)
    ≡ (
      record value { state = became_normal (record value.state { part = union_of value.state.noted value.state.part }) },
      tell_each (others value.me) (Message.StartView value.state.view (union_of value.state.noted value.state.part)),
    )
unfolding starts_view
starts_view_told value =
    ap (λ (sends : List Outgoing). (record value { state = became_normal (record value.state { part = union_of value.state.noted value.state.part }) }, sends))
    (outer_sends-each value.epoch (others value.me) (Exchanges (StartView value.state.view (union_of value.state.noted value.state.part))))

abbrev pub joined : MemberValue → MemberValue
joined value = record value { state = record value.state { part = union_of value.state.noted value.state.part } }

abbrev pub normal_again : MemberValue → MemberValue
normal_again value = record value { state = became_normal value.state }

abbrev start_of : MemberValue → MemberValue × List Outgoing
start_of value = (value, tell_each (others value.me) (Message.StartView value.state.view value.state.part))

-- joined, then normal, then told
pub starts_now : (before then now : MemberValue) (sends : List Outgoing) → then ≡ joined before → now ≡ normal_again then
    → sends ≡ tell_each (others now.me) (Message.StartView now.state.view now.state.part) → (now, sends) ≡ after before (starts_view before.me before.state)
unfolding became_normal
starts_now before then now sends d e f =
    ap (λ (made : List Outgoing). (now, made)) f ∙ ap start_of (e ∙ ap normal_again d) ∙ sym (starts_view_told before)

pub tells_settled_told : (epoch : Epoch) (me : Member) (state : EpochReplica) (number : ℕ)
    → outer_sends epoch (tells_settled me state number) ≡ tell_each (others me) (Message.Settled epoch state.view number (pairs_of state.part.perm))
unfolding tells_settled
tells_settled_told epoch me state number = outer_sends-each epoch (others me) (Exchanges (Settled state.view number state.part.perm))

late_each : (epoch : Epoch) (me : Member) (dones : List Done) → outer_sends epoch (map (λ done. late_for me done) dones) ≡ map (late_out me.shard me.replica) dones
late_each epoch me [] = refl
late_each epoch me (done ∷ dones) = ap (λ (rest : List Outgoing). late_out me.shard me.replica done ∷ rest) (late_each epoch me dones)

pub tells_late_told : (epoch : Epoch) (me : Member) (state : EpochReplica) (number : ℕ)
    → outer_sends epoch (tells_late me state number) ≡ map (late_out me.shard me.replica) (late_answers me.shard state.part.epoch (log_upto me.prior state.part number) state.settled)
unfolding tells_late
tells_late_told epoch me state number = late_each epoch me (late_answers me.shard state.part.epoch (log_upto me.prior state.part number) state.settled)

pub settles_told : (value : MemberValue) (number : ℕ) → after value (settles value.me value.state number)
    ≡ (
      record value { state = record value.state { settled = number } },
      outer_sends value.epoch (tells_late value.me value.state number) ++ outer_sends value.epoch (tells_settled value.me value.state number),
    )
unfolding settles
settles_told value number =
    ap (λ (sends : List Outgoing). (record value { state = record value.state { settled = number } }, sends))
    (outer_sends-append value.epoch (tells_late value.me value.state number) (tells_settled value.me value.state number))

pub also_asks_told : (value : MemberValue) (out : EpochOut) → after value (also_asks value.me out)
    ≡ (record value { state = out.state }, outer_sends value.epoch out.sends ++ tell_each (others value.me) (Message.SyncAsk value.epoch out.state.view))
unfolding also_asks
also_asks_told value out =
    ap (λ (sends : List Outgoing). (record value { state = out.state }, sends))
    (outer_sends-append value.epoch out.sends (send_each (others value.me) (Exchanges (SyncAsk out.state.view)))
    ∙ ap (λ (asks : List Outgoing). outer_sends value.epoch out.sends ++ asks) (outer_sends-each value.epoch (others value.me) (Exchanges (SyncAsk out.state.view))))

-- the tally counts with the faults of the config
pub settled_is : (tally : AckTallyValue) (f length : ℕ) → tally.f ≡ f → settled (record { f = f; acks = tally.acks }) length ≡ settled tally length
settled_is tally f length same = ap (λ (n : ℕ). settled (record { f = n; acks = tally.acks }) length) (sym same)

-- ---- places that are dropped one after the other
pub each_at : {X : Type 0} (P : X → Type 0) (xs : List X) (at : ℕ) (d : X) → Each P xs → at < length xs → P (get_or xs at d)
each_at P [] at d h lt = absurd (omega arith)
each_at P (x ∷ xs) zero d h lt = h.0
each_at P (x ∷ xs) (suc at) d h lt = each_at P xs at d h.1 (omega arith)

pub drops_none : (part : PartValue) → part ≡ mark_all_dropped part []
unfolding mark_all_dropped with_places union
drops_none part = refl

pub drops_more : (part : PartValue) (places : List Place) (at : ℕ) (d : Place) → at < length places
    → mark_dropped (mark_all_dropped part (take at places)) (get_or places at d) ≡ mark_all_dropped part (take (at + 1) places)
unfolding mark_all_dropped mark_dropped with_places with_place union
drops_more part places at d lt =
    ap (λ (perm : List Place). record part { perm = perm })
    (sym (fold_more (λ (made : List Place) (item : Place). with_item (λ (place : Place). place) place_cmp made item) part.perm places at d lt))
