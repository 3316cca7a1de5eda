-- A REPLICA KEEPS TO THE MESSAGES' RANGES over all epochs: by what a message that is in place and in its ranges
-- carries, and by its rows within an epoch.
use Rattle.std.proofs.Common.{◌≡◌, ◌&&◌, ◌==◌, ℕ, true, not, Option, Some, None, is_some, nat_lt, List, [], ◌∷◌, map, refl, sym, ◌∙◌, subst}
use Rattle.std.specs.Prelude.{⊤}
use Rattle.std.specs.List.{list_all, AllByRecursion}
use Rattle.std.proofs.lemmas.Bool.{cond_both, eqb-true, and_from}
use Rattle.eris_base.specs.declared.ids.Epoch.{Epoch}
use Rattle.eris_base.specs.declared.ids.Place.{Place}
use Rattle.eris_base.specs.declared.ids.ShardId.{ShardId}
use Rattle.eris_base.specs.ConfigLimits.{ConfigValue, IsConfig}
use Rattle.eris_base.specs.Each.{Each}
use Rattle.eris_base.specs.Places.{number_in}
use Rattle.eris_base.specs.StampPlaces.{is_number}
use Rattle.eris_base.proofs.Booleans.{left_of, right_of}
use Rattle.eris_txn.specs.declared.packet.Packet.{Packet}
use Rattle.eris_log.specs.PartValues.{PartValue}
use Rattle.eris_log.specs.Parts.{empty_part}
use Rattle.eris_log.specs.Laws.Parts.{IsPart-empty_part}
use Rattle.eris_log.specs.Places.{places_at}
use Rattle.eris_in_place.specs.MessageRanges.{PacketFits, PacketsFit, PlaceFits, PartFits, MessageFits}
use Rattle.eris_msg.specs.declared.message.Message.{Message}
use Rattle.eris_codec.specs.Fields as f
use Rattle.eris_codec.specs.Parts as p
use Rattle.eris_codec.specs.Ranges.{PairInRange}
use Rattle.eris_msg.proofs.MessageFits as m
use Rattle.eris_codec.proofs.RangeLaws.{word_fits, pair_in_range}
use Rattle.eris_codec.proofs.Sizes.{items_have}
use Rattle.eris_rules.specs.declared.replica_input.ReplicaInput.{ReplicaInput}
use Rattle.eris_rules.specs.EpochMessages.{EpochMessage, Stamped, Instructs, Notifies, Exchanges, Responds}
use Rattle.eris_rules.specs.EpochReplicas.{EpochInput, Get, Probe, Suspect, Sync}
use Rattle.eris_rules.specs.InPlace.{names_participants, all_name_participants, packets_in, packets_held, is_held_right, is_right_part, has_right_part, has_right_log, is_sound, is_for_replica, is_in_place_at_replica}
use Rattle.eris_rules.specs.Known.{knows_all}
use Rattle.eris_rules.specs.Outer.{Inner, inner_of}
use Rattle.eris_rules.specs.ReplicaStates.{Identity, ReplicaState, fresh, begun, first_state, is_stopped}
use Rattle.eris_rules.specs.Replicas.{still, member, steps_in, steps, asks_start, later_txn, takes_other, takes_part_in, takes_inner, may_promise, promises, epoch_ask_row, may_begin, start_epoch_row, takes_outer, takes_said, takes, message_step, probe_step, timer_step, replica_step}
use Rattle.eris_rules.proofs.InPlaceLaws.{kind_in_place}
use Rattle.eris_law_range.specs.Answering.{PacketIsRight}
use Rattle.eris_law_range.specs.Fitting.{HeldIsRight, PlaceIsRight, PartCame, MessageIsRight, InputFits, ReplicaFits, ReplicaInputFits, ReplicaStepFits}
use Rattle.eris_law_range.proofs.PartRanges.{number_below, place_from, packet_stamp, stamp_right}
use Rattle.eris_law_range.proofs.RowRanges.{epoch_step-fits}

-- ---- what a message carries
-- it is in place
pub record Sound (message : Message) : Type 0 where
  pub packets : all_name_participants (packets_in message) ≡ true
  pub part : has_right_part message ≡ true

sound_of : (config : ConfigValue) (message : Message) → is_in_place_at_replica config message ≡ true → Sound message
unfolding is_in_place_at_replica is_sound
sound_of config message h =
    let sound = right_of (is_for_replica message) (knows_all config message && (all_name_participants (packets_in message) && (has_right_part message && has_right_log message))) h in
    let rest = right_of (knows_all config message) (all_name_participants (packets_in message) && (has_right_part message && has_right_log message)) sound in
    record {
      packets = left_of (all_name_participants (packets_in message)) (has_right_part message && has_right_log message) rest;
      part = left_of (has_right_part message) (has_right_log message) (right_of (all_name_participants (packets_in message)) (has_right_part message && has_right_log message) rest);
    }

packet_exact : (packet : Packet) (packets : List Packet) → all_name_participants (packet ∷ packets) ≡ true → names_participants packet ≡ true
unfolding all_name_participants
packet_exact packet packets h = left_of (names_participants packet) (list_all (λ packet. names_participants packet) packets) h

packets_right : (packets : List Packet) → PacketsFit packets → all_name_participants packets ≡ true → Each PacketIsRight packets
unfolding all_name_participants
packets_right [] h k = tt
packets_right (packet ∷ packets) h k = (
  record { fits = h.0; exact = left_of (names_participants packet) (list_all (λ packet. names_participants packet) packets) k },
  packets_right packets h.1 (right_of (names_participants packet) (list_all (λ packet. names_participants packet) packets) k),
)

number_there : (found : Option ℕ) (number : ℕ) → is_number found number ≡ true → is_some found ≡ true
number_there None number h = absurd cc
number_there (Some other) number h = refl

held_each : (part : PartValue) (held : List (ℕ × Packet)) → list_all (λ packet. names_participants packet) (map (λ pair. pair.1) held) ≡ true → list_all (is_held_right part) held ≡ true
    → AllByRecursion (HeldIsRight part.shard) held
held_each part [] h k = tt
held_each part (pair ∷ held) h k =
    let here = left_of (is_held_right part pair) (list_all (is_held_right part) held) k in (
      (
        left_of (names_participants pair.1) (list_all (λ packet. names_participants packet) (map (λ pair. pair.1) held)) h,
        number_there (number_in pair.1.stamp.places part.shard) pair.0 (right_of (pair.1.stamp.epoch.0 == part.epoch.0) (is_number (number_in pair.1.stamp.places part.shard) pair.0) here),
      ),
      held_each part held (right_of (names_participants pair.1) (list_all (λ packet. names_participants packet) (map (λ pair. pair.1) held)) h)
          (right_of (is_held_right part pair) (list_all (is_held_right part) held) k),
    )

part_came : (part : PartValue) → PartFits part → all_name_participants (packets_held part) ≡ true → is_right_part part ≡ true → PartCame part.epoch part
unfolding all_name_participants is_right_part
part_came part h k r = record { of_epoch = refl; fits = h; held = held_each part part.held k r }

stamp_epoch : (packet : Packet) → PacketFits packet → f.epoch.fits packet.stamp.epoch ≡ true
stamp_epoch packet h = (stamp_right packet.stamp (packet_stamp packet h)).epoch

place_epoch : (place : Place) → PlaceFits place → f.epoch.fits place.epoch ≡ true
unfolding f.place
place_epoch place h = left_of (f.epoch.fits place.epoch) (f.shard.fits place.shard && f.number.fits place.number) h

places_of_pairs : (epoch : Epoch) (pairs : List (ShardId × ℕ)) → f.epoch.fits epoch ≡ true → AllByRecursion PairInRange pairs → Each (PlaceIsRight epoch) (places_at epoch pairs)
places_of_pairs epoch [] e h = tt
places_of_pairs epoch (pair ∷ pairs) e h =
    (record { of_epoch = refl; fits = place_from (record { epoch = epoch; shard = pair.0; number = pair.1 }) e h.0.0 h.0.1 }, places_of_pairs epoch pairs e h.1)

-- what is said in an epoch, if anything
abbrev SaidRight : Option Inner → Type 0
SaidRight None = ⊤
SaidRight (Some inner) = (f.epoch.fits inner.epoch ≡ true) × MessageIsRight inner.epoch inner.message

said_right : (message : Message) → MessageFits message → is_for_replica message ≡ true → Sound message → SaidRight (inner_of message)
said_right (Message.Ask asker id body) h k s = tt
said_right (Message.Txn packet) h k s =
    let fits = sym (m.txn_fits packet) ∙ h in
    (stamp_epoch packet fits, record { of_epoch = refl; right = record { fits = fits; exact = packet_exact packet [] s.packets } })
said_right (Message.Vouch view shard replica stamp id phase) h k s = absurd cc
said_right (Message.Reply view shard replica stamp id phase answer) h k s = absurd cc
said_right (Message.Late shard replica id phase answer) h k s = tt
said_right (Message.Find replica place) h k s = absurd cc
said_right (Message.Request place) h k s = let fits = sym (m.request_fits place) ∙ h in (place_epoch place fits, record { of_epoch = refl; fits = fits })
said_right (Message.Has packet) h k s = absurd cc
said_right (Message.TempDropped place shard replica view) h k s = absurd cc
said_right (Message.Found packet) h k s =
    let fits = sym (m.found_fits packet) ∙ h in
    (stamp_epoch packet fits, record { of_epoch = refl; right = record { fits = fits; exact = packet_exact packet [] s.packets } })
said_right (Message.Dropped place) h k s = let fits = sym (m.dropped_fits place) ∙ h in (place_epoch place fits, record { of_epoch = refl; fits = fits })
said_right (Message.ViewChange replica view part) h k s = (h.2.ranges.of_epoch, (h.1, part_came part h.2 s.packets s.part))
said_right (Message.StartView view part) h k s = (h.1.ranges.of_epoch, (h.0, part_came part h.1 s.packets s.part))
said_right (Message.SyncAsk epoch view) h k s =
    let fits = sym (m.sync_ask_fits epoch view) ∙ h in
    (left_of (f.epoch.fits epoch) (f.view.fits view) fits, right_of (f.epoch.fits epoch) (f.view.fits view) fits)
said_right (Message.Ack replica epoch view length) h k s =
    let fits = right_of (f.replica.fits replica) _ (sym (m.ack_fits replica epoch view length) ∙ h) in
    (left_of (f.epoch.fits epoch) _ fits, tt)
said_right (Message.Settled epoch view number places) h k s =
    (h.0, (h.1, word_fits number (number_below number h.2), places_of_pairs epoch places h.0 (items_have p.listed_place PairInRange pair_in_range [] places h.3)))
said_right (Message.NewEpoch shard replica epoch) h k s = tt
said_right (Message.EpochAsk epoch) h k s = tt
said_right (Message.EpochState replica epoch part) h k s = tt
said_right (Message.StartEpoch epoch shard packets) h k s = tt

-- ---- the steps
epoch_is : (some other : Epoch) → (some.0 == other.0) ≡ true → some ≡ other
epoch_is some other h = let e : some.0 ≡ other.0 = eqb-true some.0 other.0 h in λ i. record { 0 = e i }

begun-fits : (me : Identity) (epoch : Epoch) (packets : List Packet) → IsConfig me.config → f.shard.fits me.shard ≡ true → f.replica.fits me.replica ≡ true → f.epoch.fits epoch ≡ true → Each PacketIsRight packets
    → ReplicaFits me (begun epoch me.shard packets)
unfolding begun fresh empty_part f.view f.word
begun-fits me epoch packets c s r e k = record {
  config = c;
  shard = s;
  replica = r;
  epoch = e;
  promised = e;
  prior = k;
  inner = record {
    view = refl;
    part = record {
      own = record { in_epoch = refl; on_shard = refl };
      fits = record { is = IsPart-empty_part epoch me.shard; ranges = record { of_shard = s; of_epoch = e; held = tt; temp = tt; fnd = tt; perm = tt } };
      held = tt;
    };
    noted = tt;
    settled = refl;
  };
}

zero_fits : f.epoch.fits (record { 0 = 0 }) ≡ true
unfolding f.epoch f.word
zero_fits = refl

pub first_state_fits : (me : Identity) → IsConfig me.config → f.shard.fits me.shard ≡ true → f.replica.fits me.replica ≡ true → ReplicaFits me (first_state me.shard)
unfolding first_state
first_state_fits me c s r = begun-fits me (record { 0 = 0 }) [] c s r zero_fits tt

module _ (me : Identity) (state : ReplicaState) (h : ReplicaFits me state) where
  still-fits : ReplicaStepFits me (still state)
  still-fits = record { state = h; sends = tt }

  steps-fits : (input : EpochInput) → InputFits state.epoch input → ReplicaStepFits me (steps me state input)
  unfolding steps steps_in
  steps-fits input k =
      let row = epoch_step-fits (member me state) state.epoch (record { config = h.config; shard = h.shard; replica = h.replica; in_epoch = h.epoch; prior = h.prior }) state.inner input h.inner k in
      record {
        state = record { config = h.config; shard = h.shard; replica = h.replica; epoch = h.epoch; promised = h.promised; prior = h.prior; inner = row.state };
        sends = row.sends;
      }

  asks_start-fits : (epoch : Epoch) → f.epoch.fits epoch ≡ true → ReplicaStepFits me (asks_start me state epoch)
  unfolding asks_start
  asks_start-fits epoch e = record {
    state = h;
    sends = (m.new_epoch_fits me.shard me.replica epoch ∙ and_from (f.shard.fits me.shard) (f.replica.fits me.replica && f.epoch.fits epoch) h.shard (and_from (f.replica.fits me.replica) (f.epoch.fits epoch) h.replica e), tt);
  }

  takes_other-fits : (epoch : Epoch) (message : EpochMessage) → f.epoch.fits epoch ≡ true → ReplicaStepFits me (takes_other me state epoch message)
  unfolding later_txn
  takes_other-fits epoch (Stamped packet) e =
      cond_both (nat_lt state.promised.0 epoch.0) (asks_start me state epoch) (still state) (ReplicaStepFits me) (λ _. asks_start-fits epoch e) (λ _. still-fits)
  takes_other-fits epoch (Instructs instruction) e = still-fits
  takes_other-fits epoch (Notifies notice) e = still-fits
  takes_other-fits epoch (Exchanges exchange) e = still-fits
  takes_other-fits epoch (Responds response) e = still-fits

  takes_inner-fits : (inner : Inner) → f.epoch.fits inner.epoch ≡ true → MessageIsRight inner.epoch inner.message → ReplicaStepFits me (takes_inner me state inner)
  unfolding takes_inner
  takes_inner-fits inner e k =
      cond_both (takes_part_in state inner.epoch) (steps me state (Get inner.message)) (takes_other me state inner.epoch inner.message) (ReplicaStepFits me)
      (λ t. steps-fits (Get inner.message)
      (subst (λ (epoch : Epoch). MessageIsRight epoch inner.message) (epoch_is inner.epoch state.epoch (left_of (inner.epoch.0 == state.epoch.0) (not (is_stopped state)) t)) k))
      (λ _. takes_other-fits inner.epoch inner.message e)

  promises-fits : (epoch : Epoch) → f.epoch.fits epoch ≡ true → ReplicaStepFits me (promises me state epoch)
  unfolding promises
  promises-fits epoch e = record {
    state = record { config = h.config; shard = h.shard; replica = h.replica; epoch = h.epoch; promised = e; prior = h.prior; inner = h.inner };
    sends = ((h.replica, e, h.inner.part.fits), tt);
  }

  begins-fits : (epoch : Epoch) (shard : ShardId) (packets : List Packet) → f.epoch.fits epoch ≡ true → Each PacketIsRight packets → ReplicaStepFits me (start_epoch_row me state epoch shard packets)
  unfolding start_epoch_row
  begins-fits epoch shard packets e k =
      cond_both (may_begin me state epoch shard) (still (begun epoch me.shard packets)) (still state) (ReplicaStepFits me)
      (λ _. record { state = begun-fits me epoch packets h.config h.shard h.replica e k; sends = tt }) (λ _. still-fits)

  takes_outer-fits : (message : Message) → MessageFits message → Sound message → ReplicaStepFits me (takes_outer me state message)
  unfolding epoch_ask_row
  takes_outer-fits (Message.EpochAsk epoch) k s =
      cond_both (may_promise state epoch) (promises me state epoch) (still state) (ReplicaStepFits me)
      (λ _. promises-fits epoch (sym (m.epoch_ask_fits epoch) ∙ k)) (λ _. still-fits)
  takes_outer-fits (Message.StartEpoch epoch shard packets) k s = begins-fits epoch shard packets k.0 (packets_right packets k.2 s.packets)
  takes_outer-fits (Message.Ask asker id body) k s = still-fits
  takes_outer-fits (Message.Txn packet) k s = still-fits
  takes_outer-fits (Message.Vouch view shard replica stamp id phase) k s = still-fits
  takes_outer-fits (Message.Reply view shard replica stamp id phase answer) k s = still-fits
  takes_outer-fits (Message.Late shard replica id phase answer) k s = still-fits
  takes_outer-fits (Message.Find replica place) k s = still-fits
  takes_outer-fits (Message.Request place) k s = still-fits
  takes_outer-fits (Message.Has packet) k s = still-fits
  takes_outer-fits (Message.TempDropped place shard replica view) k s = still-fits
  takes_outer-fits (Message.Found packet) k s = still-fits
  takes_outer-fits (Message.Dropped place) k s = still-fits
  takes_outer-fits (Message.ViewChange replica view part) k s = still-fits
  takes_outer-fits (Message.StartView view part) k s = still-fits
  takes_outer-fits (Message.SyncAsk epoch view) k s = still-fits
  takes_outer-fits (Message.Ack replica epoch view length) k s = still-fits
  takes_outer-fits (Message.Settled epoch view number places) k s = still-fits
  takes_outer-fits (Message.NewEpoch shard replica epoch) k s = still-fits
  takes_outer-fits (Message.EpochState replica epoch part) k s = still-fits

  takes_said-fits : (message : Message) (said : Option Inner) → MessageFits message → Sound message → SaidRight said → ReplicaStepFits me (takes_said me state message said)
  takes_said-fits message None k s r = takes_outer-fits message k s
  takes_said-fits message (Some inner) k s r = takes_inner-fits inner r.0 r.1

  message_step-fits : (message : Message) → MessageFits message → ReplicaStepFits me (message_step me state message)
  unfolding message_step takes
  message_step-fits message k =
      cond_both (is_in_place_at_replica me.config message) (takes_said me state message (inner_of message)) (still state) (ReplicaStepFits me)
      (λ t. let s = sound_of me.config message t in takes_said-fits message (inner_of message) k s (said_right message k (kind_in_place me.config message t) s))
      (λ _. still-fits)

  probe_step-fits : ReplicaStepFits me (probe_step me state)
  unfolding probe_step
  probe_step-fits =
      cond_both (is_stopped state) (asks_start me state state.promised) (steps me state Probe) (ReplicaStepFits me)
      (λ _. asks_start-fits state.promised h.promised) (λ _. steps-fits Probe tt)

  timer_step-fits : (input : EpochInput) → InputFits state.epoch input → ReplicaStepFits me (timer_step me state input)
  unfolding timer_step
  timer_step-fits input k =
      cond_both (is_stopped state) (still state) (steps me state input) (ReplicaStepFits me) (λ _. still-fits) (λ _. steps-fits input k)

pub replica_step_fits : (me : Identity) (state : ReplicaState) (input : ReplicaInput) → ReplicaFits me state → ReplicaInputFits input → ReplicaStepFits me (replica_step me state input)
unfolding replica_step
replica_step_fits me state (ReplicaInput.Message message) h k = message_step-fits me state h message k
replica_step_fits me state ReplicaInput.Probe h k = probe_step-fits me state h
replica_step_fits me state ReplicaInput.Suspect h k = timer_step-fits me state h Suspect tt
replica_step_fits me state ReplicaInput.Sync h k = timer_step-fits me state h Sync tt
