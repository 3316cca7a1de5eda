-- THE COORDINATOR KEEPS TO THE MESSAGES' RANGES: where its state and its input do, the state after its step
-- and what it sends do.
use Rattle.std.proofs.Common.{◌≡◌, ◌<◌, ◌≤◌, ◌+◌, ◌^◌, ◌==◌, ℕ, zero, suc, true, ◌&&◌, List, [], ◌∷◌, nat_lt, nat_le, refl, sym, ◌∙◌, subst, arith}
use Rattle.std.specs.Prelude.{Result, Ok, Err, IfOk}
use Rattle.std.specs.List.{range_with_len}
use Rattle.std.proofs.lemmas.Bool.{and_parts, and_from, cond_both, le-leb, lt-ltb}
use Rattle.eris_base.specs.declared.ids.Epoch.{Epoch}
use Rattle.eris_base.specs.declared.ids.Node.{Node}
use Rattle.eris_base.specs.declared.ids.Place.{Place}
use Rattle.eris_base.specs.declared.ids.ReplicaId.{ReplicaId}
use Rattle.eris_base.specs.declared.ids.ShardId.{ShardId}
use Rattle.eris_base.specs.ConfigLimits.{ConfigValue, IsConfig}
use Rattle.eris_base.specs.Each.{Each}
use Rattle.eris_base.proofs.Each.{Each-append}
use Rattle.eris_log.specs.PartValues.{PartValue}
use Rattle.eris_epoch.specs.declared.noted.NotedPart.{NotedPart}
use Rattle.eris_epoch.specs.EpochTallies.{with_noted, is_ready}
use Rattle.eris_msg.specs.declared.message.Message.{Message}
use Rattle.eris_msg.specs.declared.outgoing.Outgoing.{Outgoing}
use Rattle.eris_codec.specs.Fields as f
use Rattle.eris_msg.specs.Spellings.{message_fits}
use Rattle.eris_codec.specs.Ranges.{part_fits}
use Rattle.eris_msg.proofs.MessageFits as m
use Rattle.eris_codec.proofs.RangeLaws.{part_parts}
use Rattle.eris_rules.specs.declared.coord_input.CoordInput.{CoordInput}
use Rattle.eris_rules.specs.Addressees.{all_replicas, shard_replicas}
use Rattle.eris_rules.specs.CoordStates.{EpochCoordOut, CoordState, begun_epoch, first_coordinator, nothing_asked, is_frozen}
use Rattle.eris_rules.specs.Coordinators.{stays, coord_steps_in, start_of, starts, takes_older, takes_elsewhere, decides_in, coord_takes_inner, tell_all, raises_target, new_epoch_above, new_epoch_row, epoch_tally, left_behind, after_closing, starts_shard, starts_all, closes, tests_closing, notes_state, epoch_state_late, epoch_state_row, coord_takes, coord_message_step, nudge_step, coord_step}
use Rattle.eris_rules.specs.EpochCoords.{nudge_row, epoch_coord_step}
use Rattle.eris_rules.specs.EpochMessages.{EpochMessage, Stamped, Instructs, Notifies, Exchanges, Responds, Request, Find, Has, TempDropped}
use Rattle.eris_rules.specs.InPlace.{is_in_place_at_coordinator}
use Rattle.eris_rules.specs.Outer.{Inner, tell_each}
use Rattle.eris_in_place.specs.MessageRanges.{PacketFits, PlaceFits, MessageFits, SendsFit}
use Rattle.eris_in_place.proofs.MessageRangeLaws.{held_packets_fit}
use Rattle.eris_coord.proofs.EachItem.{Each-flat_map}
use Rattle.eris_coord.specs.CoordinatorValues.{StateValue, after}
use Rattle.eris_coord.specs.Fitting.{HeldFits, StateFits, InputFits, StepFits}
use Rattle.eris_epoch.proofs.EpochLaws.{each-with_noted}
use Rattle.eris_coord.proofs.ClosingFits.{close-fits, shard_log-fits}
use Rattle.eris_coord.proofs.EpochFits.{OutFits, NoticeFits, epoch_step-fits, each_place, requested}

stays-fits : (state : CoordState) → StateFits state → StepFits (stays state)
stays-fits state h = record { state = h; sends = tt }

steps_in-fits : (state : CoordState) (out : EpochCoordOut) → StateFits state → OutFits state.current out → StepFits (coord_steps_in state out)
unfolding coord_steps_in
steps_in-fits state out h k = record {
  state = record { current = h.current; target = h.target; closed = h.closed; noted = h.noted; inner = k.inner };
  sends = k.sends;
}

starts-fits : (state : CoordState) (shard : ShardId) (replica : ReplicaId) → StateFits state → f.shard.fits shard ≡ true → StepFits (starts state shard replica)
unfolding starts
starts-fits state shard replica h k = record { state = h; sends = ((h.current, k, shard_log-fits state.closed shard h.closed), tt) }

shard_of : (place : Place) → PlaceFits place → f.shard.fits place.shard ≡ true
unfolding f.place
shard_of place h =
    (and_parts (f.shard.fits place.shard) (f.number.fits place.number)
    (and_parts (f.epoch.fits place.epoch) (f.shard.fits place.shard && f.number.fits place.number) h).1).0

takes_older-fits : (state : CoordState) (message : EpochMessage) → StateFits state → NoticeFits message → StepFits (takes_older state message)
takes_older-fits state (Stamped packet) h k = stays-fits state h
takes_older-fits state (Instructs instruction) h k = stays-fits state h
takes_older-fits state (Notifies (Find replica place)) h k = starts-fits state place.shard replica h (shard_of place k)
takes_older-fits state (Notifies (Has packet)) h k = stays-fits state h
takes_older-fits state (Notifies (TempDropped place shard replica view)) h k = stays-fits state h
takes_older-fits state (Exchanges exchange) h k = stays-fits state h
takes_older-fits state (Responds response) h k = stays-fits state h

takes_inner-fits : (config : ConfigValue) (state : CoordState) (inner : Inner) → StateFits state → NoticeFits inner.message → StepFits (coord_takes_inner config state inner)
unfolding coord_takes_inner takes_elsewhere
takes_inner-fits config state inner h k =
    cond_both (decides_in state inner.epoch) (coord_steps_in state (epoch_coord_step config state.inner inner.message)) (takes_elsewhere state inner) StepFits
    (λ _. steps_in-fits state (epoch_coord_step config state.inner inner.message) h (epoch_step-fits state.current config state.inner inner.message h.inner k))
    (λ _. cond_both (nat_lt inner.epoch.0 state.current.0) (takes_older state inner.message) (stays state) StepFits
    (λ _. takes_older-fits state inner.message h k) (λ _. stays-fits state h))

each_told : (nodes : List Node) (message : Message) → MessageFits message → SendsFit (tell_each nodes message)
each_told [] message h = tt
each_told (node ∷ nodes) message h = (h, each_told nodes message h)

new_epoch-fits : (config : ConfigValue) (state : CoordState) (shard : ShardId) (replica : ReplicaId) (epoch : Epoch)
    → StateFits state → f.shard.fits shard ≡ true → f.epoch.fits epoch ≡ true → StepFits (new_epoch_row config state shard replica epoch)
unfolding new_epoch_row new_epoch_above raises_target
new_epoch-fits config state shard replica epoch h s e =
    cond_both (nat_le epoch.0 state.current.0) (starts state shard replica) (new_epoch_above config state epoch) StepFits
    (λ _. starts-fits state shard replica h s)
    (λ _. cond_both (nat_lt state.target.0 epoch.0) (raises_target config state epoch) (stays state) StepFits
    (λ _. record {
      state = record { current = h.current; target = e; closed = h.closed; noted = tt; inner = h.inner };
      sends = each_told (all_replicas config) (Message.EpochAsk epoch) (m.epoch_ask_fits epoch ∙ e);
    })
    (λ _. stays-fits state h))

-- the numbers of shards of a config are in their range
shard_in_range : (number : ℕ) → number < 64 → f.shard.fits (record { 0 = number }) ≡ true
unfolding f.shard f.from_to f.byte
shard_in_range number h =
    and_from (nat_lt number (2 ^ 8)) (nat_le 0 number && nat_le number 63)
    (lt-ltb number (2 ^ 8) (omega (arith, h)))
    (and_from (nat_le 0 number) (nat_le number 63) (le-leb 0 number (omega arith)) (le-leb number 63 (omega (arith, h))))

abbrev Small : ℕ → Type 0
Small number = number < 64

range_small : (from count : ℕ) → from + count ≤ 64 → Each Small (range_with_len from count)
range_small from zero h = tt
range_small from (suc count) h = (omega (arith, h), range_small (from + 1) count (omega (arith, h)))

starts_all-fits : (config : ConfigValue) (state : CoordState) → config.shards ≤ 64 → StateFits state → SendsFit (starts_all config state)
unfolding starts_all starts_shard
starts_all-fits config state few h =
    Each-flat_map (λ (send : Outgoing). MessageFits send.message) Small (λ number. starts_shard config state (record { 0 = number }))
    (λ number small. each_told (shard_replicas config (record { 0 = number })) (start_of state (record { 0 = number }))
    (h.current, shard_in_range number small, shard_log-fits state.closed (record { 0 = number }) h.closed))
    (range_with_len 0 config.shards) (range_small 0 config.shards (omega (arith, few)))

after_closing-fits : (config : ConfigValue) (state : CoordState) → StateFits state → StateFits (after_closing config state)
unfolding after_closing left_behind begun_epoch nothing_asked
after_closing-fits config state h = record {
  current = h.target;
  target = h.target;
  closed = Each-append PacketFits state.closed _ h.closed (close-fits (epoch_tally config state) state.current state.inner.found state.inner.dropped h.noted h.inner.found);
  noted = tt;
  inner = record { asked = tt; found = tt };
}

tests_closing-fits : (config : ConfigValue) (state : CoordState) → config.shards ≤ 64 → StateFits state → StepFits (tests_closing config state)
unfolding tests_closing closes
tests_closing-fits config state few h =
    cond_both (is_ready (epoch_tally config state)) (closes config state) (stays state) StepFits
    (λ _. (let after = after_closing-fits config state h in record { state = after; sends = starts_all-fits config (after_closing config state) few after }))
    (λ _. stays-fits state h)

epoch_state-fits : (config : ConfigValue) (state : CoordState) (replica : ReplicaId) (epoch : Epoch) (part : PartValue) → config.shards ≤ 64
    → StateFits state → part_fits part ≡ true → StepFits (epoch_state_row config state replica epoch part)
unfolding epoch_state_row notes_state epoch_state_late with_noted
epoch_state-fits config state replica epoch part few h k =
    let one : NotedPart = record { replica = replica; part = part } in
    cond_both (epoch.0 == state.target.0 && nat_lt state.current.0 epoch.0) (notes_state config state replica part) (epoch_state_late state replica epoch part) StepFits
    (λ _. tests_closing-fits config (record state { noted = with_noted state.noted one }) few
    (record {
      current = h.current;
      target = h.target;
      closed = h.closed;
      inner = h.inner;
      noted = each-with_noted HeldFits state.noted one h.noted (held_packets_fit part.held (part_parts part k).ranges.held);
    }))
    (λ _. cond_both (nat_le epoch.0 state.current.0) (starts state part.shard replica) (stays state) StepFits
    (λ _. starts-fits state part.shard replica h (part_parts part k).ranges.of_shard)
    (λ _. stays-fits state h))

takes-fits : (config : ConfigValue) (state : CoordState) (message : Message) → config.shards ≤ 64 → StateFits state → message_fits message ≡ true → StepFits (coord_takes config state message)
unfolding coord_takes
takes-fits config state (Message.Ask asker id body) few h k = stays-fits state h
takes-fits config state (Message.Txn packet) few h k = takes_inner-fits config state _ h tt
takes-fits config state (Message.Vouch view shard replica stamp id phase) few h k = takes_inner-fits config state _ h tt
takes-fits config state (Message.Reply view shard replica stamp id phase answer) few h k = takes_inner-fits config state _ h tt
takes-fits config state (Message.Late shard replica id phase answer) few h k = stays-fits state h
takes-fits config state (Message.Find replica place) few h k =
    takes_inner-fits config state _ h (and_parts (f.replica.fits replica) (f.place.fits place) (sym (m.find_fits replica place) ∙ k)).1
takes-fits config state (Message.Request place) few h k = takes_inner-fits config state _ h tt
takes-fits config state (Message.Has packet) few h k = takes_inner-fits config state _ h (sym (m.has_fits packet) ∙ k)
takes-fits config state (Message.TempDropped place shard replica view) few h k =
    takes_inner-fits config state _ h (and_parts (f.place.fits place) _ (sym (m.temp_dropped_fits place shard replica view) ∙ k)).0
takes-fits config state (Message.Found packet) few h k = takes_inner-fits config state _ h tt
takes-fits config state (Message.Dropped place) few h k = takes_inner-fits config state _ h tt
takes-fits config state (Message.ViewChange replica view part) few h k = takes_inner-fits config state _ h tt
takes-fits config state (Message.StartView view part) few h k = takes_inner-fits config state _ h tt
takes-fits config state (Message.SyncAsk epoch view) few h k = takes_inner-fits config state _ h tt
takes-fits config state (Message.Ack replica epoch view length) few h k = takes_inner-fits config state _ h tt
takes-fits config state (Message.Settled epoch view number places) few h k = takes_inner-fits config state _ h tt
takes-fits config state (Message.NewEpoch shard replica epoch) few h k =
    let parts = and_parts (f.shard.fits shard) (f.replica.fits replica && f.epoch.fits epoch) (sym (m.new_epoch_fits shard replica epoch) ∙ k) in
    new_epoch-fits config state shard replica epoch h parts.0 (and_parts (f.replica.fits replica) (f.epoch.fits epoch) parts.1).1
takes-fits config state (Message.EpochAsk epoch) few h k = stays-fits state h
takes-fits config state (Message.EpochState replica epoch part) few h k =
    let rest = (and_parts (f.replica.fits replica) (f.epoch.fits epoch && part_fits part) (sym (m.epoch_state_fits replica epoch part) ∙ k)).1 in
    epoch_state-fits config state replica epoch part few h (and_parts (f.epoch.fits epoch) (part_fits part) rest).1
takes-fits config state (Message.StartEpoch epoch shard packets) few h k = stays-fits state h

step-fits : (config : ConfigValue) (state : CoordState) (input : CoordInput) → config.shards ≤ 64 → StateFits state → InputFits input → StepFits (coord_step config state input)
unfolding coord_step coord_message_step nudge_step nudge_row
step-fits config state (CoordInput.Message message) few h k =
    cond_both (is_in_place_at_coordinator config message) (coord_takes config state message) (stays state) StepFits
    (λ _. takes-fits config state message few h k) (λ _. stays-fits state h)
step-fits config state CoordInput.Nudge few h k =
    cond_both (is_frozen state) (record { state = state; sends = tell_all config (Message.EpochAsk state.target) }) (coord_steps_in state (nudge_row config state.inner)) StepFits
    (λ _. record { state = h; sends = each_told (all_replicas config) (Message.EpochAsk state.target) (m.epoch_ask_fits state.target ∙ h.target) })
    (λ _. steps_in-fits state (nudge_row config state.inner) h
    (record { inner = h.inner; sends = each_place state.current config (λ place. Instructs (Request place)) requested state.inner.asked h.inner.asked }))

pub steps_fit : (config : ConfigValue) (state : CoordState) (input : CoordInput) → IsConfig config → StateFits state → InputFits input → StepFits (coord_step config state input)
steps_fit config state input is h k = step-fits config state input is.few_shards h k

-- a new coordinator
pub first_fits : StateFits first_coordinator
unfolding first_coordinator begun_epoch nothing_asked f.epoch f.word
first_fits = record { current = refl; target = refl; closed = tt; noted = tt; inner = record { asked = tt; found = tt } }

-- the same of a coordinator that made the step
after_fits : (old new : StateValue) (input : CoordInput) (sends : List Outgoing) → (new, sends) ≡ after old (coord_step old.config old.state input)
    → IsConfig old.config → StateFits old.state → InputFits input → StateFits new.state × SendsFit sends
after_fits old new input sends e is h k =
    let fits = steps_fit old.config old.state input is h k in
    let Fits : StateValue × List Outgoing → Type 0 = λ pair. StateFits pair.0.state × SendsFit pair.1 in
    subst Fits (sym e) (fits.state, fits.sends)

pub result_fits : {E : Type 0} (old new : StateValue) (input : CoordInput) (result : Result (List Outgoing) E) → IsConfig old.config
    → IfOk result (λ sends. (new, sends) ≡ after old (coord_step old.config old.state input)) → StateFits old.state → InputFits input
    → IfOk result (λ sends. StateFits new.state × SendsFit sends)
result_fits old new input (Ok sends) is e h k = after_fits old new input sends e is h k
result_fits old new input (Err fault) is e h k = tt
