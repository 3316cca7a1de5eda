-- THE STEP OF THE COORDINATOR. Within the current epoch it finds and drops. It goes to a higher epoch in three
-- steps: it raises the target and asks all replicas to stop; it notes what they know; and once f+1 replicas of
-- every shard gave it, it closes the epochs up to the target. What anybody counted in the current epoch is
-- with one of these replicas, so it is among the closed packets.
use Rattle.std.specs.Prelude.{Bool, not, ◌==◌, ◌&&◌, nat_lt, nat_le, Option, Some, None, List, [], ◌∷◌, ◌++◌, if◌then◌else◌}
use Rattle.std.specs.List.{flat_map, range_with_len}
use Rattle.eris_base.specs.declared.ids.Epoch.{Epoch}
use Rattle.eris_base.specs.declared.ids.Node.TheVariants.{Replica}
use Rattle.eris_base.specs.declared.ids.ReplicaId.{ReplicaId}
use Rattle.eris_base.specs.declared.ids.ShardId.{ShardId}
use Rattle.eris_base.specs.ConfigLimits.{ConfigValue}
use Rattle.eris_txn.specs.declared.packet.Packet.{Packet}
use Rattle.eris_log.specs.PartValues.{PartValue}
use Rattle.eris_epoch.specs.Closing.{close, shard_log}
use Rattle.eris_epoch.specs.EpochTallies.{EpochTallyValue, with_noted, is_ready}
use Rattle.eris_msg.specs.declared.message.Message.{Message}
use Rattle.eris_msg.specs.declared.outgoing.Outgoing.{Outgoing}
use Rattle.eris_rules.specs.declared.coord_input.CoordInput.{CoordInput}
use Rattle.eris_rules.specs.Addressees.{shard_replicas, all_replicas}
use Rattle.eris_rules.specs.CoordStates.{EpochCoordOut, CoordState, CoordOut, begun_epoch, is_frozen}
use Rattle.eris_rules.specs.EpochCoords.{epoch_coord_step, nudge_row}
use Rattle.eris_rules.specs.EpochMessages.{EpochMessage, Stamped, Instructs, Notifies, Exchanges, Responds, Find, Has, TempDropped}
use Rattle.eris_rules.specs.InPlace.{is_in_place_at_coordinator}
use Rattle.eris_rules.specs.Outer.{Inner, inner_of, outer_sends, tell_each}

abbrev pub stays : CoordState → CoordOut
stays state = record { state = state; sends = [] }

-- a step within the current epoch, as a step of the whole
unfoldable pub coord_steps_in : CoordState → EpochCoordOut → CoordOut
coord_steps_in state out = record { state = record state { inner = out.state }; sends = outer_sends state.current out.sends }

-- the start of the current epoch for a shard, with that shard's packets of the closed epochs
abbrev pub start_of : CoordState → ShardId → Message
start_of state shard = Message.StartEpoch state.current shard (shard_log state.closed shard)

-- a replica that is behind gets the start of the current epoch
unfoldable pub starts : CoordState → ShardId → ReplicaId → CoordOut
starts state shard replica =
    record { state = state; sends = record { to = Replica shard replica; message = start_of state shard } ∷ [] }

-- a replica that lacks a place of an older epoch lacks the epoch's end
abbrev pub takes_older : CoordState → EpochMessage → CoordOut
takes_older state (Stamped packet) = stays state
takes_older state (Instructs instruction) = stays state
takes_older state (Notifies (Find replica place)) = starts state place.shard replica
takes_older state (Notifies (Has packet)) = stays state
takes_older state (Notifies (TempDropped place shard replica view)) = stays state
takes_older state (Exchanges exchange) = stays state
takes_older state (Responds response) = stays state

unfoldable pub takes_elsewhere : CoordState → Inner → CoordOut
takes_elsewhere state inner =
    if nat_lt inner.epoch.0 state.current.0 then takes_older state inner.message else stays state

-- it decides in the current epoch alone, and no more once it is on its way to a higher one
abbrev pub decides_in : CoordState → Epoch → Bool
decides_in state epoch = epoch.0 == state.current.0 && not (is_frozen state)

unfoldable pub coord_takes_inner : ConfigValue → CoordState → Inner → CoordOut
coord_takes_inner config state inner =
    if decides_in state inner.epoch
    then coord_steps_in state (epoch_coord_step config state.inner inner.message)
    else takes_elsewhere state inner

-- a message to every replica of every shard
abbrev pub tell_all : ConfigValue → Message → List Outgoing
tell_all config message = tell_each (all_replicas config) message

-- The parts noted for an earlier target are of no use: their senders may have gone on since.
unfoldable pub raises_target : ConfigValue → CoordState → Epoch → CoordOut
raises_target config state epoch =
    record { state = record state { target = epoch; noted = [] }; sends = tell_all config (Message.EpochAsk epoch) }

unfoldable pub new_epoch_above : ConfigValue → CoordState → Epoch → CoordOut
new_epoch_above config state epoch = if nat_lt state.target.0 epoch.0 then raises_target config state epoch else stays state

-- NEW EPOCH: a replica waits for an epoch. It gets the current one, where that is no lower; else it is the target.
unfoldable pub new_epoch_row : ConfigValue → CoordState → ShardId → ReplicaId → Epoch → CoordOut
new_epoch_row config state shard replica epoch =
    if nat_le epoch.0 state.current.0 then starts state shard replica else new_epoch_above config state epoch

-- the noted parts, as the tally that counts them
abbrev pub epoch_tally : ConfigValue → CoordState → EpochTallyValue
epoch_tally config state = record { target = state.target; config = config; noted = state.noted }

-- the packets that the current epoch leaves
unfoldable pub left_behind : ConfigValue → CoordState → List Packet
left_behind config state = close (epoch_tally config state) state.current state.inner.found state.inner.dropped

-- the coordinator in the epoch that was its target
unfoldable pub after_closing : ConfigValue → CoordState → CoordState
after_closing config state = begun_epoch state.target (state.closed ++ left_behind config state)

-- the start of the current epoch to every replica of a shard
unfoldable pub starts_shard : ConfigValue → CoordState → ShardId → List Outgoing
starts_shard config state shard = tell_each (shard_replicas config shard) (start_of state shard)

-- and of every shard
unfoldable pub starts_all : ConfigValue → CoordState → List Outgoing
starts_all config state = flat_map (λ number. starts_shard config state (record { 0 = number })) (range_with_len 0 config.shards)

-- CLOSING: the epochs below the target are closed, and all replicas get the start of the next
unfoldable pub closes : ConfigValue → CoordState → CoordOut
closes config state = record { state = after_closing config state; sends = starts_all config (after_closing config state) }

-- It closes only with f+1 replicas of every shard, of those too that had no packet: a replica that it didn't
-- hear may have told a client something that no other shard has.
unfoldable pub tests_closing : ConfigValue → CoordState → CoordOut
tests_closing config state = if is_ready (epoch_tally config state) then closes config state else stays state

unfoldable pub notes_state : ConfigValue → CoordState → ReplicaId → PartValue → CoordOut
notes_state config state replica part =
    tests_closing config (record state { noted = with_noted state.noted (record { replica = replica; part = part }) })

unfoldable pub epoch_state_late : CoordState → ReplicaId → Epoch → PartValue → CoordOut
epoch_state_late state replica epoch part =
    if nat_le epoch.0 state.current.0 then starts state part.shard replica else stays state

-- EPOCH STATE: a part for the target is noted; a replica that stopped for an epoch which has begun gets its start
unfoldable pub epoch_state_row : ConfigValue → CoordState → ReplicaId → Epoch → PartValue → CoordOut
epoch_state_row config state replica epoch part =
    if epoch.0 == state.target.0 && nat_lt state.current.0 epoch.0
    then notes_state config state replica part
    else epoch_state_late state replica epoch part

-- what is said of epochs
abbrev pub coord_takes_outer : ConfigValue → CoordState → Message → CoordOut
coord_takes_outer config state (Message.NewEpoch shard replica epoch) = new_epoch_row config state shard replica epoch
coord_takes_outer config state (Message.EpochState replica epoch part) = epoch_state_row config state replica epoch part
coord_takes_outer config state message = stays state

abbrev pub coord_takes_said : ConfigValue → CoordState → Message → Option Inner → CoordOut
coord_takes_said config state message None = coord_takes_outer config state message
coord_takes_said config state message (Some inner) = coord_takes_inner config state inner

unfoldable pub coord_takes : ConfigValue → CoordState → Message → CoordOut
coord_takes config state message = coord_takes_said config state message (inner_of message)

-- a message that is out of place changes nothing
unfoldable pub coord_message_step : ConfigValue → CoordState → Message → CoordOut
coord_message_step config state message =
    if is_in_place_at_coordinator config message then coord_takes config state message else stays state

-- NUDGE: it asks again for what it waits for, the replicas' states or the asked places
unfoldable pub nudge_step : ConfigValue → CoordState → CoordOut
nudge_step config state =
    if is_frozen state
    then record { state = state; sends = tell_all config (Message.EpochAsk state.target) }
    else coord_steps_in state (nudge_row config state.inner)

unfoldable pub coord_step : ConfigValue → CoordState → CoordInput → CoordOut
coord_step config state (CoordInput.Message message) = coord_message_step config state message
coord_step config state CoordInput.Nudge = nudge_step config state
