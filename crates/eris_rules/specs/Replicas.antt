-- THE STEP OF A REPLICA. Its state within its epoch steps by what is said in that epoch. Only here is it seen
-- that there are several epochs.
use Rattle.std.specs.Prelude.{Bool, not, ◌==◌, ◌&&◌, ◌||◌, nat_lt, nat_le, Option, Some, None, List, [], ◌∷◌, if◌then◌else◌}
use Rattle.eris_base.specs.declared.ids.Epoch.{Epoch}
use Rattle.eris_base.specs.declared.ids.Node.TheVariants.{Coordinator}
use Rattle.eris_base.specs.declared.ids.ShardId.{ShardId}
use Rattle.eris_txn.specs.declared.packet.Packet.{Packet}
use Rattle.eris_msg.specs.declared.message.Message.{Message}
use Rattle.eris_rules.specs.declared.replica_input.ReplicaInput.{ReplicaInput}
use Rattle.eris_rules.specs.EpochMessages.{EpochMessage, Stamped, Instructs, Notifies, Exchanges, Responds}
use Rattle.eris_rules.specs.EpochReplicas.{EpochInput, Get, Probe, Suspect, Sync, epoch_step}
use Rattle.eris_rules.specs.InPlace.{is_in_place_at_replica}
use Rattle.eris_rules.specs.Outer.{Inner, inner_of, outer_sends}
use Rattle.eris_rules.specs.ReplicaStates.{Identity, Member, EpochOut, ReplicaState, ReplicaOut, begun, is_stopped}

abbrev pub still : ReplicaState → ReplicaOut
still state = record { state = state; sends = [] }

-- the replica as a member of its shard in its epoch
abbrev pub member : Identity → ReplicaState → Member
member me state = record { config = me.config; shard = me.shard; replica = me.replica; prior = state.prior }

-- a step within its epoch, as a step of the whole
unfoldable pub steps_in : ReplicaState → EpochOut → ReplicaOut
steps_in state out = record { state = record state { inner = out.state }; sends = outer_sends state.epoch out.sends }

unfoldable pub steps : Identity → ReplicaState → EpochInput → ReplicaOut
steps me state input = steps_in state (epoch_step (member me state) state.inner input)

-- it tells the coordinator of an epoch that it isn't in
unfoldable pub asks_start : Identity → ReplicaState → Epoch → ReplicaOut
asks_start me state epoch =
    record { state = state; sends = record { to = Coordinator; message = Message.NewEpoch me.shard me.replica epoch } ∷ [] }

-- TXN of an epoch above all that it promised: a new sequencer has begun, of which it tells the coordinator
unfoldable pub later_txn : Identity → ReplicaState → Epoch → ReplicaOut
later_txn me state epoch = if nat_lt state.promised.0 epoch.0 then asks_start me state epoch else still state

-- nothing else that is said in another epoch concerns it
abbrev pub takes_other : Identity → ReplicaState → Epoch → EpochMessage → ReplicaOut
takes_other me state epoch (Stamped packet) = later_txn me state epoch
takes_other me state epoch (Instructs instruction) = still state
takes_other me state epoch (Notifies notice) = still state
takes_other me state epoch (Exchanges exchange) = still state
takes_other me state epoch (Responds response) = still state

-- the epoch is its own, and it takes part in it
abbrev pub takes_part_in : ReplicaState → Epoch → Bool
takes_part_in state epoch = epoch.0 == state.epoch.0 && not (is_stopped state)

unfoldable pub takes_inner : Identity → ReplicaState → Inner → ReplicaOut
takes_inner me state inner =
    if takes_part_in state inner.epoch
    then steps me state (Get inner.message)
    else takes_other me state inner.epoch inner.message

-- the epoch is above all that it promised; or it has promised it and hasn't begun it, and is asked again
unfoldable pub may_promise : ReplicaState → Epoch → Bool
may_promise state epoch =
    nat_lt state.promised.0 epoch.0 || (epoch.0 == state.promised.0 && nat_lt state.epoch.0 epoch.0)

-- It stops, and gives what it knows: from now on it says nothing more in its epoch, so what f+1 replicas of
-- each shard give is all that anybody can have counted there.
unfoldable pub promises : Identity → ReplicaState → Epoch → ReplicaOut
promises me state epoch =
    record {
      state = record state { promised = epoch };
      sends = record { to = Coordinator; message = Message.EpochState me.replica epoch state.inner.part } ∷ [];
    }

-- EPOCH ASK
unfoldable pub epoch_ask_row : Identity → ReplicaState → Epoch → ReplicaOut
epoch_ask_row me state epoch = if may_promise state epoch then promises me state epoch else still state

-- the epoch is for its shard, above its own, and not below what it promised
unfoldable pub may_begin : Identity → ReplicaState → Epoch → ShardId → Bool
may_begin me state epoch shard =
    shard.0 == me.shard.0 && (nat_lt state.epoch.0 epoch.0 && nat_le state.promised.0 epoch.0)

-- START EPOCH: it begins the epoch, with the shard's packets of the epochs before
unfoldable pub start_epoch_row : Identity → ReplicaState → Epoch → ShardId → List Packet → ReplicaOut
start_epoch_row me state epoch shard packets =
    if may_begin me state epoch shard then still (begun epoch me.shard packets) else still state

-- what is said of epochs
abbrev pub takes_outer : Identity → ReplicaState → Message → ReplicaOut
takes_outer me state (Message.EpochAsk epoch) = epoch_ask_row me state epoch
takes_outer me state (Message.StartEpoch epoch shard packets) = start_epoch_row me state epoch shard packets
takes_outer me state message = still state

abbrev pub takes_said : Identity → ReplicaState → Message → Option Inner → ReplicaOut
takes_said me state message None = takes_outer me state message
takes_said me state message (Some inner) = takes_inner me state inner

unfoldable pub takes : Identity → ReplicaState → Message → ReplicaOut
takes me state message = takes_said me state message (inner_of message)

-- a message that is out of place changes nothing
unfoldable pub message_step : Identity → ReplicaState → Message → ReplicaOut
message_step me state message = if is_in_place_at_replica me.config message then takes me state message else still state

-- PROBE of a stopped replica: it tells the coordinator again of the epoch that it waits for
unfoldable pub probe_step : Identity → ReplicaState → ReplicaOut
probe_step me state = if is_stopped state then asks_start me state state.promised else steps me state Probe

-- a stopped replica has no other timer
unfoldable pub timer_step : Identity → ReplicaState → EpochInput → ReplicaOut
timer_step me state input = if is_stopped state then still state else steps me state input

unfoldable pub replica_step : Identity → ReplicaState → ReplicaInput → ReplicaOut
replica_step me state (ReplicaInput.Message message) = message_step me state message
replica_step me state ReplicaInput.Probe = probe_step me state
replica_step me state ReplicaInput.Suspect = timer_step me state Suspect
replica_step me state ReplicaInput.Sync = timer_step me state Sync
