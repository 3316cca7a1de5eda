-- The rows of one epoch that tell all replicas, as steps of the whole.
use Rattle.std.proofs.Common.{◌≡◌, ℕ, true, List, [], ◌∷◌, ◌++◌, filter, not, refl, ap, sym, ◌∙◌}
use Rattle.std.specs.Prelude.{Result, Ok, Err, IfOk}
use Rattle.std.specs.List.{flat_map, range_with_len}
use Rattle.std.proofs.lemmas.Bool.{and_parts}
use Rattle.eris_base.specs.declared.ids.Epoch.{Epoch}
use Rattle.eris_base.specs.declared.ids.Place.{Place}
use Rattle.eris_base.specs.ConfigLimits.{ConfigValue}
use Rattle.eris_base.specs.StampPlaces.{has_place}
use Rattle.eris_txn.specs.declared.packet.Packet.{Packet}
use Rattle.eris_log.specs.Places.{same_place, with_place, with_places, places_of}
use Rattle.eris_drop.specs.Notes.{forget}
use Rattle.eris_epoch.specs.Closing.{close, shard_log}
use Rattle.eris_epoch.specs.EpochTallies.{EpochTallyValue, is_ready}
use Rattle.eris_msg.specs.declared.message.Message.{Message}
use Rattle.eris_msg.specs.declared.outgoing.Outgoing.{Outgoing}
use Rattle.eris_rules.specs.Addressees.{all_replicas, shard_replicas}
use Rattle.eris_rules.specs.CoordStates.{CoordState, CoordOut}
use Rattle.eris_rules.specs.Coordinators.{coord_steps_in, tell_all, after_closing, starts_shard, starts_all, closes}
use Rattle.eris_rules.specs.EpochCoords.{to_all, asks_all, keeps_found, drops_rest, drops_place, nudge_row, all_hear_dropped, places_had, forget_all}
use Rattle.eris_rules.specs.EpochMessages.{EpochMessage, Instructs, Request, Found, Dropped}
use Rattle.eris_rules.specs.InPlace.{is_in_place_at_coordinator, is_for_coordinator, is_sound}
use Rattle.eris_rules.specs.Outer.{outer, outer_sends, tell_each}
use Rattle.eris_rules.proofs.OuterLaws.{outer_sends-each, outer_sends-append}
use Rattle.eris_coord.specs.CoordinatorValues.{StateValue, after}

told_all : (epoch : Epoch) (config : ConfigValue) (message : EpochMessage) → outer_sends epoch (to_all config message) ≡ tell_all config (outer epoch message)
told_all epoch config message = outer_sends-each epoch (all_replicas config) message

-- one message to all for each of the places
told_each : (epoch : Epoch) (config : ConfigValue) (about : Place → EpochMessage) (places : List Place)
    → outer_sends epoch (flat_map (λ place. to_all config (about place)) places) ≡ flat_map (λ place. tell_all config (outer epoch (about place))) places
told_each epoch config about [] = refl
told_each epoch config about (place ∷ places) =
    outer_sends-append epoch (to_all config (about place)) (flat_map (λ other. to_all config (about other)) places)
    ∙ ap (λ sends. sends ++ outer_sends epoch (flat_map (λ other. to_all config (about other)) places)) (told_all epoch config (about place))
    ∙ ap (λ sends. tell_all config (outer epoch (about place)) ++ sends) (told_each epoch config about places)

pub asks_all-told : (config : ConfigValue) (state : CoordState) (place : Place)
    → coord_steps_in state (asks_all config state.inner place)
    ≡ record { state = record state { inner = record state.inner { asked = with_place state.inner.asked place } }; sends = tell_all config (Message.Request place) }
unfolding coord_steps_in asks_all
asks_all-told config state place =
    ap (λ (sends : List Outgoing). record { state = record state { inner = record state.inner { asked = with_place state.inner.asked place } }; sends = sends })
    (told_all state.current config (Instructs (Request place)))

nudge_row-told : (config : ConfigValue) (state : CoordState)
    → coord_steps_in state (nudge_row config state.inner)
    ≡ record { state = state; sends = flat_map (λ place. tell_all config (Message.Request place)) state.inner.asked }
unfolding coord_steps_in nudge_row
nudge_row-told config state =
    ap (λ (sends : List Outgoing). record { state = state; sends = sends }) (told_each state.current config (λ place. Instructs (Request place)) state.inner.asked)

pub keeps_found-told : (config : ConfigValue) (state : CoordState) (packet : Packet)
    → coord_steps_in state (keeps_found config state.inner packet)
    ≡ record {
      state = record state {
        inner = record {
          asked = filter (λ place. not (has_place packet.stamp place)) state.inner.asked;
          notes = forget_all state.inner.notes (places_of packet.stamp);
          found = state.inner.found ++ packet ∷ [];
          dropped = state.inner.dropped;
        };
      };
      sends = tell_all config (Message.Found packet);
    }
unfolding coord_steps_in keeps_found
keeps_found-told config state packet =
    ap (λ (sends : List Outgoing). record {
      state = record state {
        inner = record {
          asked = filter (λ place. not (has_place packet.stamp place)) state.inner.asked;
          notes = forget_all state.inner.notes (places_of packet.stamp);
          found = state.inner.found ++ packet ∷ [];
          dropped = state.inner.dropped;
        };
      };
      sends = sends;
    }) (told_all state.current config (Instructs (Found packet)))

drops_rest-told : (config : ConfigValue) (state : CoordState) (packet : Packet)
    → coord_steps_in state (drops_rest config state.inner packet)
    ≡ record {
      state = record state {
        inner = record {
          asked = filter (λ place. not (has_place packet.stamp place)) state.inner.asked;
          notes = forget_all state.inner.notes (filter (λ place. has_place packet.stamp place) state.inner.asked);
          found = state.inner.found;
          dropped = with_places state.inner.dropped (filter (λ place. has_place packet.stamp place) state.inner.asked);
        };
      };
      sends = flat_map (λ place. tell_all config (Message.Dropped place)) (filter (λ place. has_place packet.stamp place) state.inner.asked);
    }
unfolding coord_steps_in drops_rest all_hear_dropped
drops_rest-told config state packet =
    ap (λ (sends : List Outgoing). record {
      state = record state {
        inner = record {
          asked = filter (λ place. not (has_place packet.stamp place)) state.inner.asked;
          notes = forget_all state.inner.notes (filter (λ place. has_place packet.stamp place) state.inner.asked);
          found = state.inner.found;
          dropped = with_places state.inner.dropped (filter (λ place. has_place packet.stamp place) state.inner.asked);
        };
      };
      sends = sends;
    }) (told_each state.current config (λ place. Instructs (Dropped place)) (filter (λ place. has_place packet.stamp place) state.inner.asked))

pub drops_place-told : (config : ConfigValue) (state : CoordState) (place : Place)
    → coord_steps_in state (drops_place config state.inner place)
    ≡ record {
      state = record state {
        inner = record {
          asked = filter (λ other. not (same_place other place)) state.inner.asked;
          notes = forget state.inner.notes place;
          found = state.inner.found;
          dropped = with_place state.inner.dropped place;
        };
      };
      sends = tell_all config (Message.Dropped place);
    }
unfolding coord_steps_in drops_place
drops_place-told config state place =
    ap (λ (sends : List Outgoing). record {
      state = record state {
        inner = record {
          asked = filter (λ other. not (same_place other place)) state.inner.asked;
          notes = forget state.inner.notes place;
          found = state.inner.found;
          dropped = with_place state.inner.dropped place;
        };
      };
      sends = sends;
    }) (told_all state.current config (Instructs (Dropped place)))

-- ---- what is sent for each place or shard, as the code made it from the coordinator's fields
pub asked_again : {E : Type 0} (value : StateValue) (config : ConfigValue) (asked : List Place) (result : Result (List Outgoing) E)
    → config ≡ value.config → asked ≡ value.state.inner.asked → IfOk result (λ sends. sends ≡ flat_map (λ place. tell_all config (Message.Request place)) asked)
    → IfOk result (λ sends. (value, sends) ≡ after value (coord_steps_in value.state (nudge_row value.config value.state.inner)))
asked_again value config asked (Ok sends) of_config of_asked h =
    ap (λ (made : List Outgoing). (value, made))
    (h
    ∙ ap (λ (one : ConfigValue). flat_map (λ place. tell_all one (Message.Request place)) asked) of_config
    ∙ ap (flat_map (λ place. tell_all value.config (Message.Request place))) of_asked)
    ∙ ap (after value) (sym (nudge_row-told value.config value.state))
asked_again value config asked (Err fault) of_config of_asked h = tt

pub rest_dropped : {E : Type 0} (old new : StateValue) (packet : Packet) (config : ConfigValue) (had : List Place) (result : Result (List Outgoing) E)
    → config ≡ new.config → had ≡ places_had old.state.inner.asked packet
    → new ≡ record old { state = (coord_steps_in old.state (drops_rest old.config old.state.inner packet)).state }
    → IfOk result (λ sends. sends ≡ flat_map (λ place. tell_all config (Message.Dropped place)) had)
    → IfOk result (λ sends. (new, sends) ≡ after old (coord_steps_in old.state (drops_rest old.config old.state.inner packet)))
rest_dropped old new packet config had (Ok sends) of_config of_had is h =
    let out = coord_steps_in old.state (drops_rest old.config old.state.inner packet) in
    ap (λ (made : List Outgoing). (new, made))
    (h
    ∙ ap (λ (one : ConfigValue). flat_map (λ place. tell_all one (Message.Dropped place)) had) (of_config ∙ ap (λ (value : StateValue). value.config) is)
    ∙ ap (flat_map (λ place. tell_all old.config (Message.Dropped place))) of_had
    ∙ sym (ap (λ (one : CoordOut). one.sends) (drops_rest-told old.config old.state packet)))
    ∙ ap (λ (value : StateValue). (value, out.sends)) is
rest_dropped old new packet config had (Err fault) of_config of_had is h = tt

-- the start of an epoch after these closed packets, to all
abbrev starts_by : ConfigValue → Epoch → List Packet → List Outgoing
starts_by config epoch closed =
    flat_map (λ (number : ℕ). tell_each (shard_replicas config (record { 0 = number }))
    (Message.StartEpoch epoch (record { 0 = number }) (shard_log closed (record { 0 = number })))) (range_with_len 0 config.shards)

pub closed_started : {E : Type 0} (old new : StateValue) (config : ConfigValue) (epoch : Epoch) (closed : List Packet) (result : Result (List Outgoing) E)
    → config ≡ new.config → epoch ≡ new.state.current → closed ≡ new.state.closed → new ≡ record old { state = after_closing old.config old.state }
    → IfOk result (λ sends. sends ≡ starts_by config epoch closed) → IfOk result (λ sends. (new, sends) ≡ after old (closes old.config old.state))
unfolding closes starts_all starts_shard
closed_started old new config epoch closed (Ok sends) of_config of_epoch of_closed is h =
    ap (λ (made : List Outgoing). (new, made))
    (h
    ∙ ap (λ (one : ConfigValue). starts_by one epoch closed) of_config
    ∙ ap (λ (one : Epoch). starts_by new.config one closed) of_epoch
    ∙ ap (λ (packets : List Packet). starts_by new.config new.state.current packets) of_closed)
    ∙ ap (λ (value : StateValue). (value, starts_by value.config value.state.current value.state.closed)) is
closed_started old new config epoch closed (Err fault) of_config of_epoch of_closed is h = tt

-- the tally has the config of the coordinator
pub ready_is : (tally : EpochTallyValue) (config : ConfigValue) → tally.config ≡ config → is_ready (record { target = tally.target; config = config; noted = tally.noted }) ≡ is_ready tally
ready_is tally config e = ap (λ (c : ConfigValue). is_ready (record { target = tally.target; config = c; noted = tally.noted })) (sym e)

pub close_is : (tally : EpochTallyValue) (config : ConfigValue) (last : Epoch) (found : List Packet) (dropped : List Place) → tally.config ≡ config
    → close (record { target = tally.target; config = config; noted = tally.noted }) last found dropped ≡ close tally last found dropped
close_is tally config last found dropped e = ap (λ (c : ConfigValue). close (record { target = tally.target; config = c; noted = tally.noted }) last found dropped) (sym e)

-- a message in place is of a kind that the coordinator takes
pub kind_in_place : (config : ConfigValue) (message : Message) → is_in_place_at_coordinator config message ≡ true → is_for_coordinator message ≡ true
unfolding is_in_place_at_coordinator
kind_in_place config message h = (and_parts (is_for_coordinator message) (is_sound config message) h).0

pub ruleset asks_all_told = (asks_all-told)

pub ruleset keeps_found_told = (keeps_found-told)

pub ruleset drops_place_told = (drops_place-told)
