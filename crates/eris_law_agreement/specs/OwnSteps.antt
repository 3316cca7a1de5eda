-- A node's own steps: what each event of a run brings to it. A node's state after a run is the fold of its steps
-- over these, whatever the other nodes did in between.
use Rattle.std.specs.Prelude.{ℕ, zero, suc, Bool, ◌==◌, ◌&&◌, Option, Some, None, List, [], ◌∷◌, slice_get, if◌then◌else◌}
use Rattle.eris_base.specs.declared.ids.Node.{Node}
use Rattle.eris_base.specs.declared.ids.Node.TheVariants.{Sequencer, Coordinator, Replica, Client}
use Rattle.eris_base.specs.declared.ids.ReplicaId.{ReplicaId}
use Rattle.eris_base.specs.declared.ids.ShardId.{ShardId}
use Rattle.eris_base.specs.ConfigLimits.{ConfigValue}
use Rattle.eris_msg.specs.declared.message.Message.{Message}
use Rattle.eris_msg.specs.declared.outgoing.Outgoing.{Outgoing}
use Rattle.eris_event.specs.declared.event.Event.{Event}
use Rattle.eris_rules.specs.declared.replica_input.ReplicaInput.{ReplicaInput}
use Rattle.eris_rules.specs.ReplicaStates.{ReplicaState}
use Rattle.eris_rules.specs.Replicas.{replica_step}
use Rattle.eris_rules.specs.Worlds.{WorldState, has_crashed}
use Rattle.eris_law_agreement.specs.WorldMoments.{world_at}

-- the message that an event delivers, if it delivers one: the one of its number, or the lowest that waits
abbrev pub lowest : WorldState → List ℕ → Option Outgoing
lowest world [] = None
lowest world (number ∷ numbers) = slice_get world.sent number

abbrev pub delivered_by : WorldState → Event → Option Outgoing
delivered_by world (Event.Deliver packet epoch) = slice_get world.sent packet
delivered_by world Event.Flow = lowest world world.waiting
delivered_by world event = None

abbrev pub is_it : ShardId → ReplicaId → ShardId → ReplicaId → Bool
is_it shard replica a b = a.0 == shard.0 && b.0 == replica.0

-- what comes to the replica, where this is brought to that one
abbrev pub brought : ShardId → ReplicaId → ShardId → ReplicaId → ReplicaInput → Option ReplicaInput
brought shard replica a b input = if is_it shard replica a b then Some input else None

abbrev pub replica_hears : ShardId → ReplicaId → Node → Message → Option ReplicaInput
replica_hears shard replica Sequencer message = None
replica_hears shard replica Coordinator message = None
replica_hears shard replica (Replica a b) message = brought shard replica a b (ReplicaInput.Message message)
replica_hears shard replica (Client client) message = None

abbrev pub hears : ShardId → ReplicaId → Option Outgoing → Option ReplicaInput
hears shard replica None = None
hears shard replica (Some one) = replica_hears shard replica one.to one.message

-- what an event brings to a replica that hasn't crashed
abbrev pub brings : WorldState → Event → ShardId → ReplicaId → Option ReplicaInput
brings world (Event.Probe a b) shard replica = brought shard replica a b ReplicaInput.Probe
brings world (Event.Suspect a b) shard replica = brought shard replica a b ReplicaInput.Suspect
brings world (Event.Sync a b) shard replica = brought shard replica a b ReplicaInput.Sync
brings world event shard replica = hears shard replica (delivered_by world event)

-- THE INPUT that an event is to a replica, if it is one
unfoldable pub input_of : WorldState → Event → ShardId → ReplicaId → Option ReplicaInput
input_of world event shard replica = if has_crashed world shard replica then None else brings world event shard replica

-- the replica's state after an input, or after none
abbrev pub after_input : ConfigValue → ShardId → ReplicaId → Option ReplicaInput → ReplicaState → ReplicaState
after_input config shard replica None state = state
after_input config shard replica (Some input) state = (replica_step (record { config = config; shard = shard; replica = replica }) state input).state

-- the input that the event at this moment is, if there is an event
abbrev pub input_now : WorldState → Option Event → ShardId → ReplicaId → Option ReplicaInput
input_now world None shard replica = None
input_now world (Some event) shard replica = input_of world event shard replica

-- THE FOLD of a replica's own steps over its own inputs, up to a moment
unfoldable pub own_steps : ConfigValue → List Event → ShardId → ReplicaId → ℕ → ReplicaState → ReplicaState
own_steps config events shard replica zero state = state
own_steps config events shard replica (suc number) state =
    after_input config shard replica (input_now (world_at config events number) (slice_get events number) shard replica) (own_steps config events shard replica number state)
