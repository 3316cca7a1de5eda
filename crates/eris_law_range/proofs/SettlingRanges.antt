-- The rows for settling keep to the messages' ranges.
use Rattle.std.proofs.Common.{◌≡◌, ◌<◌, ◌≤◌, ◌^◌, ◌&&◌, ◌==◌, ℕ, true, not, nat_lt, List, ◌∙◌, arith}
use Rattle.std.proofs.lemmas.Bool.{cond_both, ltb-true, and_from}
use Rattle.eris_base.specs.declared.ids.Epoch.{Epoch}
use Rattle.eris_base.specs.declared.ids.Place.{Place}
use Rattle.eris_base.specs.declared.ids.ReplicaId.{ReplicaId}
use Rattle.eris_base.specs.declared.ids.View.{View}
use Rattle.eris_base.specs.Each.{Each}
use Rattle.eris_base.specs.Quorums.{same_replica}
use Rattle.eris_log.specs.Entries.{length_of, covers}
use Rattle.eris_in_place.specs.MessageRanges.{SendsFit}
use Rattle.eris_in_place.proofs.SendLaws.{each_sent}
use Rattle.eris_codec.specs.Fields as f
use Rattle.eris_msg.proofs.MessageFits as m
use Rattle.eris_codec.proofs.RangeLaws.{word_fits}
use Rattle.eris_codec.proofs.Sizes.{word_below}
use Rattle.eris_rules.specs.EpochMessages.{Exchanges, Settled, SyncAsk, send_each}
use Rattle.eris_rules.specs.Outer.{outer_sends}
use Rattle.eris_rules.specs.ReplicaStates.{Member, EpochReplica, EpochOut, quiet, is_learner, others}
use Rattle.eris_rules.specs.Settling.{ack_tally, shared_number, tells_late, tells_settled, settles, raises, enters_above, follows, leads, acknowledges, sync_ask_same, sync_ask_row, notes_ack, ack_row, mark_all_dropped, learns, hears_settled, settled_same, settled_row, repeats_settled, raises_or_repeats, also_asks, sync_row}
use Rattle.eris_rules.specs.Views.{enters_view}
use Rattle.eris_view.specs.AckTallies.{with_ack}
use Rattle.eris_view.proofs.Acks.{IsSettled-settled}
use Rattle.eris_law_range.specs.Fitting.{PlaceIsRight, MemberFits, StateFits, RowFits}
use Rattle.eris_law_range.proofs.PartRanges.{number_from, length_of-below, perm-fits, mark_all_dropped-right}
use Rattle.eris_law_range.proofs.SendRanges.{sent_also, tells_late-fits}
use Rattle.eris_law_range.proofs.ViewRanges.{quiet-fits, enters_view-fits}

module _ (me : Member) (epoch : Epoch) (fits : MemberFits me epoch) where
  abbrev Fits : EpochReplica → Type 0
  Fits state = StateFits epoch me.shard state

  abbrev Row : EpochOut → Type 0
  Row out = RowFits me epoch out

  still : (state : EpochReplica) → Fits state → Row (quiet state)
  still state h = quiet-fits me epoch fits state h

  shared_number-below : (state : EpochReplica) → Fits state → shared_number me state < 2 ^ 32
  unfolding shared_number
  shared_number-below state h =
      let within = (IsSettled-settled (ack_tally me state) (length_of state.part)).within in
      let below = length_of-below state.part h.part.fits in
      omega arith

  tells_settled-fits : (state : EpochReplica) (number : ℕ) → Fits state → f.number.fits number ≡ true → SendsFit (outer_sends epoch (tells_settled me state number))
  unfolding tells_settled
  tells_settled-fits state number h n =
      each_sent epoch (others me) (Exchanges (Settled state.view number state.part.perm)) (fits.in_epoch, h.view, n, perm-fits state.part h.part.fits)

  settles-fits : (state : EpochReplica) (number : ℕ) → Fits state → 1 ≤ number → number < 2 ^ 32 → Row (settles me state number)
  unfolding settles
  settles-fits state number h some few = record {
    state = record { view = h.view; part = h.part; noted = h.noted; settled = word_fits number few };
    sends = sent_also epoch (tells_late me state number) (tells_settled me state number) (tells_late-fits me epoch fits state h number) (tells_settled-fits state number h (number_from number some few));
  }

  settles_shared : (state : EpochReplica) → Fits state → nat_lt state.settled (shared_number me state) ≡ true → Row (settles me state (shared_number me state))
  settles_shared state h e =
      let lt = ltb-true state.settled (shared_number me state) e in
      settles-fits state (shared_number me state) h (omega arith) (shared_number-below state h)

  raises-fits : (state : EpochReplica) → Fits state → Row (raises me state)
  unfolding raises
  raises-fits state h =
      cond_both (nat_lt state.settled (shared_number me state)) (settles me state (shared_number me state)) (quiet state) Row
      (λ e. settles_shared state h e) (λ _. still state h)

  enters_above-fits : (state : EpochReplica) (view : View) → Fits state → f.view.fits view ≡ true → Row (enters_above me state view)
  unfolding enters_above
  enters_above-fits state view h v =
      cond_both (nat_lt state.view.0 view.0 && not (is_learner me view)) (enters_view me state view) (quiet state) Row
      (λ _. enters_view-fits me epoch fits state view h v) (λ _. still state h)

  acknowledges-fits : (state : EpochReplica) → Fits state → Row (acknowledges me state)
  unfolding acknowledges
  acknowledges-fits state h = record {
    state = h;
    sends = (
      m.ack_fits me.replica epoch state.view (length_of state.part)
          ∙ and_from (f.replica.fits me.replica) _ fits.replica (and_from (f.epoch.fits epoch) _ fits.in_epoch (and_from (f.view.fits state.view) (f.word.fits (length_of state.part)) h.view
          (word_fits (length_of state.part) (length_of-below state.part h.part.fits)))),
      tt,
    );
  }

  pub sync_ask_row-fits : (state : EpochReplica) (view : View) → Fits state → f.view.fits view ≡ true → Row (sync_ask_row me state view)
  unfolding sync_ask_row sync_ask_same
  sync_ask_row-fits state view h v =
      cond_both (view.0 == state.view.0) (sync_ask_same me state) (enters_above me state view) Row
      (λ _. cond_both (follows me state) (acknowledges me state) (quiet state) Row (λ _. acknowledges-fits state h) (λ _. still state h))
      (λ _. enters_above-fits state view h v)

  notes_ack-fits : (state : EpochReplica) (replica : ReplicaId) (length : ℕ) → Fits state → Row (notes_ack me state replica length)
  unfolding notes_ack
  notes_ack-fits state replica length h =
      raises-fits (record state { acks = with_ack state.acks replica length }) (record { view = h.view; part = h.part; noted = h.noted; settled = h.settled })

  pub ack_row-fits : (state : EpochReplica) (replica : ReplicaId) (view : View) (length : ℕ) → Fits state → Row (ack_row me state replica view length)
  unfolding ack_row
  ack_row-fits state replica view length h =
      cond_both (view.0 == state.view.0 && (leads me state && not (same_replica replica me.replica))) (notes_ack me state replica length) (quiet state) Row
      (λ _. notes_ack-fits state replica length h) (λ _. still state h)

  learns-fits : (state : EpochReplica) (number : ℕ) → Fits state → f.word.fits number ≡ true → Fits (learns state number)
  unfolding learns
  learns-fits state number h n =
      cond_both (covers state.part number && nat_lt state.settled number) (record state { settled = number }) state Fits
      (λ _. record { view = h.view; part = h.part; noted = h.noted; settled = n }) (λ _. h)

  hears_settled-fits : (state : EpochReplica) (number : ℕ) (places : List Place) → Fits state → f.word.fits number ≡ true → Each (PlaceIsRight epoch) places → Row (hears_settled state number places)
  unfolding hears_settled
  hears_settled-fits state number places h n k =
      still (learns (record state { part = mark_all_dropped state.part places }) number)
      (learns-fits (record state { part = mark_all_dropped state.part places }) number
      (record { view = h.view; part = mark_all_dropped-right epoch me.shard state.part places h.part k; noted = h.noted; settled = h.settled }) n)

  pub settled_row-fits : (state : EpochReplica) (view : View) (number : ℕ) (places : List Place) → Fits state → f.view.fits view ≡ true → f.word.fits number ≡ true → Each (PlaceIsRight epoch) places
      → Row (settled_row me state view number places)
  unfolding settled_row settled_same
  settled_row-fits state view number places h v n k =
      cond_both (view.0 == state.view.0) (settled_same me state number places) (enters_above me state view) Row
      (λ _. cond_both (follows me state) (hears_settled state number places) (quiet state) Row (λ _. hears_settled-fits state number places h n k) (λ _. still state h))
      (λ _. enters_above-fits state view h v)

  repeats_settled-fits : (state : EpochReplica) → Fits state → Row (repeats_settled me state)
  unfolding repeats_settled
  repeats_settled-fits state h =
      cond_both (nat_lt 0 state.settled) (record { state = state; sends = tells_settled me state state.settled }) (quiet state) Row
      (λ e. let lt = ltb-true 0 state.settled e in record { state = h; sends = tells_settled-fits state state.settled h (number_from state.settled (omega arith) (word_below state.settled h.settled)) })
      (λ _. still state h)

  raises_or_repeats-fits : (state : EpochReplica) → Fits state → Row (raises_or_repeats me state)
  unfolding raises_or_repeats
  raises_or_repeats-fits state h =
      cond_both (nat_lt state.settled (shared_number me state)) (settles me state (shared_number me state)) (repeats_settled me state) Row
      (λ e. settles_shared state h e) (λ _. repeats_settled-fits state h)

  also_asks-fits : (out : EpochOut) → Row out → Row (also_asks me out)
  unfolding also_asks
  also_asks-fits out h = record {
    state = h.state;
    sends =
        sent_also epoch out.sends (send_each (others me) (Exchanges (SyncAsk out.state.view))) h.sends
        (each_sent epoch (others me) (Exchanges (SyncAsk out.state.view)) (m.sync_ask_fits epoch out.state.view ∙ and_from (f.epoch.fits epoch) (f.view.fits out.state.view) fits.in_epoch h.state.view));
  }

  pub sync_row-fits : (state : EpochReplica) → Fits state → Row (sync_row me state)
  unfolding sync_row
  sync_row-fits state h =
      cond_both (leads me state) (also_asks me (raises_or_repeats me state)) (quiet state) Row
      (λ _. also_asks-fits (raises_or_repeats me state) (raises_or_repeats-fits state h)) (λ _. still state h)
