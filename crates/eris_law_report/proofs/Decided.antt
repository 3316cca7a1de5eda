-- HOW MUCH THE COORDINATOR HAS FOUND AND DROPPED in its epoch is no more than what was ever sent: for each packet that it finds,
-- and for each place that it drops, it sends something to each replica; and with a new epoch it begins anew.
use Rattle.std.proofs.Common.{◌≡◌, ◌≤◌, ◌+◌, ◌&&◌, ◌==◌, ℕ, zero, suc, nat_le, nat_lt, is_some, length, Option, Some, None, List, [], ◌∷◌, arith}
use Rattle.std.specs.List.{flat_map, range_with_len}
use Rattle.std.specs.Ordering.{is_lt}
use Rattle.std.specs.declared.cmp.Ordering.{Ordering}
use Rattle.std.proofs.lemmas.Bool.{cond_both}
use Rattle.std.proofs.lemmas.List.{length-append, length-map}
use Rattle.std.proofs.lemmas.List.FromFn.{length-map-range_with_len}
use Rattle.eris_base.specs.declared.ids.Epoch.{Epoch}
use Rattle.eris_base.specs.declared.ids.Place.{Place}
use Rattle.eris_base.specs.declared.ids.ReplicaId.{ReplicaId}
use Rattle.eris_base.specs.declared.ids.ShardId.{ShardId}
use Rattle.eris_base.specs.ConfigLimits.{ConfigValue, IsConfig}
use Rattle.eris_txn.specs.declared.packet.Packet.{Packet}
use Rattle.eris_drop.specs.declared.drop_note.DropNote.{DropNote}
use Rattle.eris_drop.specs.Notes.{decided, note}
use Rattle.eris_log.specs.PartValues.{PartValue}
use Rattle.eris_log.specs.Places.{any_among, contains_place, place_cmp, with_place, with_places}
use Rattle.eris_log.specs.Sorted.{item_at, placed, union, with_item}
use Rattle.eris_epoch.specs.EpochTallies.{is_ready, with_noted}
use Rattle.eris_msg.specs.declared.message.Message.{Message}
use Rattle.eris_rules.specs.declared.coord_input.CoordInput.{CoordInput}
use Rattle.eris_rules.specs.Addressees.{all_replicas, replica_count, replica_node, shard_replicas}
use Rattle.eris_rules.specs.Coordinators.{after_closing, closes, coord_message_step, coord_step, coord_steps_in, coord_takes, coord_takes_inner, coord_takes_outer, coord_takes_said, decides_in, epoch_state_late, epoch_state_row, epoch_tally, new_epoch_above, new_epoch_row, notes_state, nudge_step, raises_target, starts, stays, takes_elsewhere, takes_older, tell_all, tests_closing}
use Rattle.eris_rules.specs.CoordStates.{CoordOut, CoordState, EpochCoord, EpochCoordOut, begun_epoch, is_frozen, nothing_asked, unmoved}
use Rattle.eris_rules.specs.EpochCoords.{all_hear_dropped, asks_all, asks_new, drops_decided, drops_place, drops_rest, epoch_coord_step, find_row, finder_of, finds_by, finds_lost, has_row, has_wanted, keeps_found, notes_drop, nudge_row, places_had, temp_dropped_row, tells_dropped, tells_found, to_all}
use Rattle.eris_rules.specs.EpochMessages.{EpochMessage, Stamped, Instructs, Notifies, Exchanges, Responds, Found, Dropped, Find, Has, TempDropped, send}
use Rattle.eris_rules.specs.InPlace.{is_in_place_at_coordinator}
use Rattle.eris_rules.specs.Outer.{Inner, inner_of, outer_send}

abbrev pub decisions : EpochCoord → ℕ
decisions inner = length inner.found + length inner.dropped

-- a step decides no more than it sends
abbrev Tells : EpochCoord → EpochCoordOut → Type 0
Tells before out = decisions out.state ≤ decisions before + length out.sends

abbrev pub TellsAll : CoordState → CoordOut → Type 0
TellsAll before out = decisions out.state.inner ≤ decisions before.inner + length out.sends

-- ---- lists of places
placed_length : {X K : Type 0} (key : X → K) (cmp : K → K → Ordering) (items : List X) (item : X) → length (placed key cmp items item) ≡ length items + 1
unfolding placed
placed_length key cmp [] item = omega arith
placed_length key cmp (other ∷ items) item =
    cond_both (is_lt (cmp (key item) (key other))) (item ∷ other ∷ items) (other ∷ placed key cmp items item) (λ list. length list ≡ length (other ∷ items) + 1)
    (λ e. omega arith) (λ e. omega (arith, placed_length key cmp items item))

with_length : {X K : Type 0} (key : X → K) (cmp : K → K → Ordering) (items : List X) (item : X) → length (with_item key cmp items item) ≤ length items + 1
unfolding with_item
with_length key cmp items item =
    cond_both (is_some (item_at key cmp items (key item))) items (placed key cmp items item) (λ list. length list ≤ length items + 1)
    (λ e. omega arith) (λ e. omega (arith, placed_length key cmp items item))

union_length : {X K : Type 0} (key : X → K) (cmp : K → K → Ordering) (items others : List X) → length (union key cmp items others) ≤ length items + length others
unfolding union
union_length key cmp items [] = omega arith
union_length key cmp items (other ∷ others) =
    omega (arith, union_length key cmp (with_item key cmp items other) others, with_length key cmp items other)

place_length : (places : List Place) (place : Place) → length (with_place places place) ≤ length places + 1
unfolding with_place
place_length places place = with_length (λ other. other) place_cmp places place

places_length : (places others : List Place) → length (with_places places others) ≤ length places + length others
unfolding with_places
places_length places others = union_length (λ other. other) place_cmp places others

-- ---- what goes to all goes to somebody
some_of_shard : (config : ConfigValue) (shard : ShardId) → 1 ≤ length (shard_replicas config shard)
unfolding shard_replicas
some_of_shard config shard = omega (arith, length-map-range_with_len (λ number. replica_node shard number) 0 (replica_count config))

some_of_shards : (config : ConfigValue) (from count : ℕ) → 1 ≤ count
    → 1 ≤ length (flat_map (λ number. shard_replicas config (record { 0 = number })) (range_with_len from count))
some_of_shards config from zero h = absurd (omega (arith, h))
some_of_shards config from (suc count) h =
    omega (
      arith,
      some_of_shard config (record { 0 = from }),
      length-append (shard_replicas config (record { 0 = from })) (flat_map (λ number. shard_replicas config (record { 0 = number })) (range_with_len (from + 1) count)),
    )

module _ (config : ConfigValue) (limits : IsConfig config) where
  some_told : (message : EpochMessage) → 1 ≤ length (to_all config message)
  unfolding all_replicas
  some_told message =
      omega (arith, some_of_shards config 0 config.shards limits.some_shard, length-map (all_replicas config) (λ node. send node message))

  each_told : (places : List Place) → length places ≤ length (all_hear_dropped config places)
  unfolding all_hear_dropped
  each_told [] = omega arith
  each_told (place ∷ places) =
      omega (
        arith,
        some_told (Instructs (Dropped place)),
        each_told places,
        length-append (to_all config (Instructs (Dropped place))) (flat_map (λ place. to_all config (Instructs (Dropped place))) places),
      )

  -- ---- within an epoch
  lost_tells : (state : EpochCoord) (replica : ReplicaId) (place : Place) → Tells state (finds_lost config state replica place)
  unfolding finds_lost tells_dropped asks_new asks_all
  lost_tells state replica place =
      cond_both (contains_place state.dropped place) (tells_dropped state replica place) (asks_new config state place) (Tells state)
      (λ e. omega arith)
      (λ e. cond_both (contains_place state.asked place) (unmoved state) (asks_all config state place) (Tells state) (λ e. omega arith) (λ e. omega arith))

  finds_tell : (state : EpochCoord) (replica : ReplicaId) (place : Place) (found : Option Packet) → Tells state (finds_by config state replica place found)
  unfolding tells_found
  finds_tell state replica place (Some packet) = omega arith
  finds_tell state replica place None = lost_tells state replica place

  find_tells : (state : EpochCoord) (replica : ReplicaId) (place : Place) → Tells state (find_row config state replica place)
  unfolding find_row
  find_tells state replica place = finds_tell state replica place (finder_of state.found place)

  found_tells : (state : EpochCoord) (packet : Packet) → Tells state (keeps_found config state packet)
  unfolding keeps_found
  found_tells state packet = omega (arith, some_told (Instructs (Found packet)), length-append state.found (packet ∷ []))

  rest_tells : (state : EpochCoord) (packet : Packet) → Tells state (drops_rest config state packet)
  unfolding drops_rest
  rest_tells state packet = omega (arith, each_told (places_had state.asked packet), places_length state.dropped (places_had state.asked packet))

  wanted_tells : (state : EpochCoord) (packet : Packet) → Tells state (has_wanted config state packet)
  unfolding has_wanted
  wanted_tells state packet =
      cond_both (any_among state.asked packet.stamp) (keeps_found config state packet) (unmoved state) (Tells state) (λ e. found_tells state packet) (λ e. omega arith)

  has_tells : (state : EpochCoord) (packet : Packet) → Tells state (has_row config state packet)
  unfolding has_row
  has_tells state packet =
      cond_both (any_among state.dropped packet.stamp) (drops_rest config state packet) (has_wanted config state packet) (Tells state)
      (λ e. rest_tells state packet) (λ e. wanted_tells state packet)

  drop_tells : (state : EpochCoord) (place : Place) → Tells state (drops_place config state place)
  unfolding drops_place
  drop_tells state place = omega (arith, some_told (Instructs (Dropped place)), place_length state.dropped place)

  decided_tells : (state : EpochCoord) (place : Place) → Tells state (drops_decided config state place)
  unfolding drops_decided
  decided_tells state place = cond_both (decided config state.notes place) (drops_place config state place) (unmoved state) (Tells state) (λ e. drop_tells state place) (λ e. omega arith)

  noted_tells : (state : EpochCoord) (one : DropNote) → Tells state (notes_drop config state one)
  unfolding notes_drop
  noted_tells state one = decided_tells (record state { notes = note state.notes one }) one.place

  temp_tells : (state : EpochCoord) (one : DropNote) → Tells state (temp_dropped_row config state one)
  unfolding temp_dropped_row
  temp_tells state one = cond_both (contains_place state.asked one.place) (notes_drop config state one) (unmoved state) (Tells state) (λ e. noted_tells state one) (λ e. omega arith)

  step_tells : (state : EpochCoord) (message : EpochMessage) → Tells state (epoch_coord_step config state message)
  step_tells state (Stamped packet) = omega arith
  step_tells state (Instructs instruction) = omega arith
  step_tells state (Notifies (Find replica place)) = find_tells state replica place
  step_tells state (Notifies (Has packet)) = has_tells state packet
  step_tells state (Notifies (TempDropped place shard replica view)) = temp_tells state _
  step_tells state (Exchanges exchange) = omega arith
  step_tells state (Responds response) = omega arith

  -- ---- over all epochs
  stays_tells : (state : CoordState) → TellsAll state (stays state)
  stays_tells state = omega arith

  in_epoch_tells : (state : CoordState) (out : EpochCoordOut) → Tells state.inner out → TellsAll state (coord_steps_in state out)
  unfolding coord_steps_in
  in_epoch_tells state out h = omega (arith, h, length-map out.sends (λ one. outer_send state.current one))

  starts_tells : (state : CoordState) (shard : ShardId) (replica : ReplicaId) → TellsAll state (starts state shard replica)
  unfolding starts
  starts_tells state shard replica = omega arith

  older_tells : (state : CoordState) (message : EpochMessage) → TellsAll state (takes_older state message)
  older_tells state (Stamped packet) = stays_tells state
  older_tells state (Instructs instruction) = stays_tells state
  older_tells state (Notifies (Find replica place)) = starts_tells state place.shard replica
  older_tells state (Notifies (Has packet)) = stays_tells state
  older_tells state (Notifies (TempDropped place shard replica view)) = stays_tells state
  older_tells state (Exchanges exchange) = stays_tells state
  older_tells state (Responds response) = stays_tells state

  inner_tells : (state : CoordState) (inner : Inner) → TellsAll state (coord_takes_inner config state inner)
  unfolding coord_takes_inner takes_elsewhere
  inner_tells state inner =
      cond_both (decides_in state inner.epoch) (coord_steps_in state (epoch_coord_step config state.inner inner.message)) (takes_elsewhere state inner) (TellsAll state)
      (λ e. in_epoch_tells state (epoch_coord_step config state.inner inner.message) (step_tells state.inner inner.message))
      (λ e. cond_both (nat_lt inner.epoch.0 state.current.0) (takes_older state inner.message) (stays state) (TellsAll state)
      (λ e. older_tells state inner.message) (λ e. stays_tells state))

  new_epoch_tells : (state : CoordState) (shard : ShardId) (replica : ReplicaId) (epoch : Epoch) → TellsAll state (new_epoch_row config state shard replica epoch)
  unfolding new_epoch_row new_epoch_above raises_target
  new_epoch_tells state shard replica epoch =
      cond_both (nat_le epoch.0 state.current.0) (starts state shard replica) (new_epoch_above config state epoch) (TellsAll state)
      (λ e. starts_tells state shard replica)
      (λ e. cond_both (nat_lt state.target.0 epoch.0) (raises_target config state epoch) (stays state) (TellsAll state) (λ e. omega arith) (λ e. stays_tells state))

  closing_tells : (state : CoordState) → TellsAll state (tests_closing config state)
  unfolding tests_closing closes after_closing begun_epoch nothing_asked
  closing_tells state =
      cond_both (is_ready (epoch_tally config state)) (closes config state) (stays state) (TellsAll state) (λ e. omega arith) (λ e. stays_tells state)

  late_tells : (state : CoordState) (replica : ReplicaId) (epoch : Epoch) (part : PartValue) → TellsAll state (epoch_state_late state replica epoch part)
  unfolding epoch_state_late
  late_tells state replica epoch part =
      cond_both (nat_le epoch.0 state.current.0) (starts state part.shard replica) (stays state) (TellsAll state) (λ e. starts_tells state part.shard replica) (λ e. stays_tells state)

  epoch_state_tells : (state : CoordState) (replica : ReplicaId) (epoch : Epoch) (part : PartValue) → TellsAll state (epoch_state_row config state replica epoch part)
  unfolding epoch_state_row notes_state
  epoch_state_tells state replica epoch part =
      cond_both (epoch.0 == state.target.0 && nat_lt state.current.0 epoch.0) (notes_state config state replica part) (epoch_state_late state replica epoch part) (TellsAll state)
      (λ e. closing_tells (record state { noted = with_noted state.noted (record { replica = replica; part = part }) }))
      (λ e. late_tells state replica epoch part)

  outer_tells : (state : CoordState) (message : Message) → TellsAll state (coord_takes_outer config state message)
  outer_tells state (Message.NewEpoch shard replica epoch) = new_epoch_tells state shard replica epoch
  outer_tells state (Message.EpochState replica epoch part) = epoch_state_tells state replica epoch part
  outer_tells state message = stays_tells state

  said_tells : (state : CoordState) (message : Message) (found : Option Inner) → TellsAll state (coord_takes_said config state message found)
  said_tells state message None = outer_tells state message
  said_tells state message (Some inner) = inner_tells state inner

  takes_tells : (state : CoordState) (message : Message) → TellsAll state (coord_takes config state message)
  unfolding coord_takes
  takes_tells state message = said_tells state message (inner_of message)

  message_tells : (state : CoordState) (message : Message) → TellsAll state (coord_message_step config state message)
  unfolding coord_message_step
  message_tells state message =
      cond_both (is_in_place_at_coordinator config message) (coord_takes config state message) (stays state) (TellsAll state) (λ e. takes_tells state message) (λ e. stays_tells state)

  nudge_tells : (state : CoordState) → TellsAll state (nudge_step config state)
  unfolding nudge_step nudge_row
  nudge_tells state =
      cond_both (is_frozen state) (record { state = state; sends = tell_all config (Message.EpochAsk state.target) }) (coord_steps_in state (nudge_row config state.inner)) (TellsAll state)
      (λ e. omega arith) (λ e. in_epoch_tells state (nudge_row config state.inner) (omega arith))

  -- A STEP of the coordinator
  pub coordinator_tells : (state : CoordState) (input : CoordInput) → TellsAll state (coord_step config state input)
  unfolding coord_step
  coordinator_tells state (CoordInput.Message message) = message_tells state message
  coordinator_tells state CoordInput.Nudge = nudge_tells state
