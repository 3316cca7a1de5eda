-- A REPLICA KEEPS TO THE MESSAGES' RANGES within an epoch: where what it keeps and its input are in them, so are
-- what it keeps after its step and what it sends.
use Rattle.std.proofs.Common.{◌≡◌, ◌+◌, ◌-◌, ◌&&◌, ℕ, not, Option, Some, None, [], ◌∷◌, is_some, refl, ◌∙◌}
use Rattle.std.proofs.lemmas.Bool.{and_parts, cond_both, and_from}
use Rattle.eris_base.specs.declared.ids.Epoch.{Epoch}
use Rattle.eris_base.specs.declared.ids.Place.{Place}
use Rattle.eris_base.specs.Places.{number_in}
use Rattle.eris_base.specs.StampPlaces.{is_number}
use Rattle.eris_txn.specs.declared.packet.Packet.{Packet}
use Rattle.eris_log.specs.Entries.{length_of}
use Rattle.eris_log.specs.Held.{packet_at}
use Rattle.eris_log.specs.Parts.{hold, mark_found, mark_dropped}
use Rattle.eris_drop.specs.declared.request.RequestAnswer.{RequestAnswer}
use Rattle.eris_drop.specs.Requests.{answer_request}
use Rattle.eris_codec.specs.Fields as f
use Rattle.eris_msg.proofs.MessageFits as m
use Rattle.eris_rules.specs.EpochMessages.{EpochMessage, Stamped, Instructs, Notifies, Exchanges, Responds, Request, Found, Dropped, ViewChange, StartView, SyncAsk, Ack, Settled}
use Rattle.eris_rules.specs.EpochReplicas.{has_spoken_for, speaks_again, holds_packet, txn_at, txn_named, txn_row, gives_packet, drops_for_a_time, answers_request, request_row, found_row, dropped_row, probe_normal, probe_changing, probe_row, EpochInput, Get, Probe, Suspect, Sync, message_row, row, epoch_step}
use Rattle.eris_rules.specs.ReplicaStates.{Member, EpochReplica, EpochOut, quiet, is_normal, is_learner}
use Rattle.eris_rules.specs.Speaking.{speaks_for, speaks_after, speaks_on, has_gap, find_gap, asks_gap, asks_once, tail}
use Rattle.eris_rules.specs.Views.{shows_part}
use Rattle.eris_law_range.specs.Fitting.{PlaceIsRight, PacketIsOf, MemberFits, StateFits, RowFits, MessageIsRight, InputFits}
use Rattle.eris_law_range.proofs.PartRanges.{hold-right, mark_temp-right, mark_found-right, mark_dropped-right, held_there}
use Rattle.eris_law_range.proofs.SendRanges.{sent_also, speaks_for-fits, speaks_after-fits, gap-fits}
use Rattle.eris_law_range.proofs.SettlingRanges.{sync_ask_row-fits, ack_row-fits, settled_row-fits, sync_row-fits}
use Rattle.eris_law_range.proofs.ViewRanges.{quiet-fits, shows_part-fits, suspect_row-fits, view_change_row-fits, start_view_row-fits}

module _ (me : Member) (epoch : Epoch) (fits : MemberFits me epoch) where
  abbrev Fits : EpochReplica → Type 0
  Fits state = StateFits epoch me.shard state

  abbrev Row : EpochOut → Type 0
  Row out = RowFits me epoch out

  still : (state : EpochReplica) → Fits state → Row (quiet state)
  still state h = quiet-fits me epoch fits state h

  speaks_again-fits : (state : EpochReplica) (number : ℕ) → Fits state → Row (speaks_again me state number)
  unfolding speaks_again
  speaks_again-fits state number h =
      cond_both (has_spoken_for state number) (record { state = state; sends = speaks_for me state number }) (quiet state) Row
      (λ _. record { state = h; sends = speaks_for-fits me epoch fits state h number }) (λ _. still state h)

  holds_packet-fits : (state : EpochReplica) (packet : Packet) → Fits state → PacketIsOf epoch packet → Row (holds_packet state packet)
  unfolding holds_packet
  holds_packet-fits state packet h k =
      still (record state { part = hold state.part packet })
      (record { view = h.view; part = hold-right epoch me.shard state.part packet h.part k.right; noted = h.noted; settled = h.settled })

  txn_named-fits : (state : EpochReplica) (packet : Packet) (number : Option ℕ) → Fits state → PacketIsOf epoch packet → Row (txn_named me state packet number)
  unfolding txn_at
  txn_named-fits state packet None h k = still state h
  txn_named-fits state packet (Some number) h k =
      cond_both (is_some (packet_at state.part.held number)) (speaks_again me state number) (holds_packet state packet) Row
      (λ _. speaks_again-fits state number h) (λ _. holds_packet-fits state packet h k)

  txn_row-fits : (state : EpochReplica) (packet : Packet) → Fits state → PacketIsOf epoch packet → Row (txn_row me state packet)
  unfolding txn_row
  txn_row-fits state packet h k = txn_named-fits state packet (number_in packet.stamp.places me.shard) h k

  gives_packet-fits : (state : EpochReplica) (number : ℕ) (found : Option Packet) → packet_at state.part.held number ≡ found → Fits state → Row (gives_packet state found)
  gives_packet-fits state number None e h = still state h
  gives_packet-fits state number (Some packet) e h = record { state = h; sends = (m.has_fits packet ∙ (held_there state.part number packet h.part.fits e).1, tt) }

  drops_for_a_time-fits : (state : EpochReplica) (place : Place) → Fits state → PlaceIsRight epoch place → Row (drops_for_a_time me state place)
  unfolding drops_for_a_time
  drops_for_a_time-fits state place h k = record {
    state = record { view = h.view; part = mark_temp-right epoch me.shard state.part place h.part k; noted = h.noted; settled = h.settled };
    sends = (
      m.temp_dropped_fits place me.shard me.replica state.view
          ∙ and_from (f.place.fits place) _ k.fits (and_from (f.shard.fits me.shard) _ fits.shard (and_from (f.replica.fits me.replica) (f.view.fits state.view) fits.replica h.view)),
      tt,
    );
  }

  answers_request-fits : (state : EpochReplica) (place : Place) (answer : RequestAnswer) → Fits state → PlaceIsRight epoch place → Row (answers_request me state place answer)
  answers_request-fits state place (RequestAnswer.Has number) h k = gives_packet-fits state number (packet_at state.part.held number) refl h
  answers_request-fits state place RequestAnswer.Silent h k = still state h
  answers_request-fits state place RequestAnswer.Temp h k = drops_for_a_time-fits state place h k

  request_row-fits : (state : EpochReplica) (place : Place) → Fits state → PlaceIsRight epoch place → Row (request_row me state place)
  unfolding request_row
  request_row-fits state place h k =
      cond_both (is_normal state.status) (answers_request me state place (answer_request state.part place)) (quiet state) Row
      (λ _. answers_request-fits state place (answer_request state.part place) h k) (λ _. still state h)

  found_row-fits : (state : EpochReplica) (packet : Packet) → Fits state → PacketIsOf epoch packet → Row (found_row state packet)
  unfolding found_row
  found_row-fits state packet h k =
      still (record state { part = mark_found (hold state.part packet) packet.stamp })
      (record { view = h.view; part = mark_found-right epoch me.shard (hold state.part packet) packet (hold-right epoch me.shard state.part packet h.part k.right) k; noted = h.noted; settled = h.settled })

  dropped_row-fits : (state : EpochReplica) (place : Place) → Fits state → PlaceIsRight epoch place → Row (dropped_row state place)
  unfolding dropped_row
  dropped_row-fits state place h k =
      still (record state { part = mark_dropped state.part place })
      (record { view = h.view; part = mark_dropped-right epoch me.shard state.part place h.part k; noted = h.noted; settled = h.settled })

  probe_row-fits : (state : EpochReplica) → Fits state → Row (probe_row me state)
  unfolding probe_row probe_normal probe_changing
  probe_row-fits state h =
      cond_both (is_normal state.status) (probe_normal me state) (probe_changing me state) Row
      (λ _. cond_both (has_gap state.part) (record { state = state; sends = find_gap me state.part ∷ [] }) (quiet state) Row
      (λ e. record { state = h; sends = gap-fits me epoch fits state.part h.part e }) (λ _. still state h))
      (λ _. cond_both (is_learner me state.view) (quiet state) (shows_part me state) Row
      (λ _. still state h) (λ _. shows_part-fits me epoch fits state h))

  message_row-fits : (state : EpochReplica) (message : EpochMessage) → Fits state → MessageIsRight epoch message → Row (message_row me state message)
  message_row-fits state (Stamped packet) h k = txn_row-fits state packet h k
  message_row-fits state (Instructs (Request place)) h k = request_row-fits state place h k
  message_row-fits state (Instructs (Found packet)) h k = found_row-fits state packet h k
  message_row-fits state (Instructs (Dropped place)) h k = dropped_row-fits state place h k
  message_row-fits state (Notifies notice) h k = still state h
  message_row-fits state (Exchanges (ViewChange replica view part)) h k = view_change_row-fits me epoch fits state replica view part h k.0 k.1
  message_row-fits state (Exchanges (StartView view part)) h k = start_view_row-fits me epoch fits state view part h k.0 k.1
  message_row-fits state (Exchanges (SyncAsk view)) h k = sync_ask_row-fits me epoch fits state view h k
  message_row-fits state (Exchanges (Ack replica view length)) h k = ack_row-fits me epoch fits state replica view length h
  message_row-fits state (Exchanges (Settled view number places)) h k = settled_row-fits me epoch fits state view number places h k.0 k.1 k.2
  message_row-fits state (Responds response) h k = still state h

  row-fits : (state : EpochReplica) (input : EpochInput) → Fits state → InputFits epoch input → Row (row me state input)
  row-fits state (Get message) h k = message_row-fits state message h k
  row-fits state Probe h k = probe_row-fits state h
  row-fits state Suspect h k = suspect_row-fits me epoch fits state h
  row-fits state Sync h k = sync_row-fits me epoch fits state h

  speaks_on-fits : (out : EpochOut) → Row out → Row (speaks_on me out)
  unfolding speaks_on
  speaks_on-fits out h = record {
    state = record { view = h.state.view; part = h.state.part; noted = h.state.noted; settled = h.state.settled };
    sends =
        sent_also epoch out.sends (speaks_after me out.state out.state.spoken (length_of out.state.part - out.state.spoken)) h.sends
        (speaks_after-fits me epoch fits out.state h.state out.state.spoken (length_of out.state.part - out.state.spoken));
  }

  asks_once-fits : (out : EpochOut) → Row out → Row (asks_once me out)
  unfolding asks_once asks_gap
  asks_once-fits out h =
      cond_both (has_gap out.state.part && not (is_number out.state.asked (length_of out.state.part + 1))) (asks_gap me out) out Row
      (λ e. record {
        state = record { view = h.state.view; part = h.state.part; noted = h.state.noted; settled = h.state.settled };
        sends =
            sent_also epoch out.sends (find_gap me out.state.part ∷ []) h.sends
            (gap-fits me epoch fits out.state.part h.state.part (and_parts (has_gap out.state.part) (not (is_number out.state.asked (length_of out.state.part + 1))) e).0);
      })
      (λ _. h)

  tail-fits : (out : EpochOut) → Row out → Row (tail me out)
  unfolding tail
  tail-fits out h =
      cond_both (is_normal out.state.status) (asks_once me (speaks_on me out)) out Row
      (λ _. asks_once-fits (speaks_on me out) (speaks_on-fits out h)) (λ _. h)

  pub epoch_step-fits : (state : EpochReplica) (input : EpochInput) → Fits state → InputFits epoch input → Row (epoch_step me state input)
  unfolding epoch_step
  epoch_step-fits state input h k = tail-fits (row me state input) (row-fits state input h k)
