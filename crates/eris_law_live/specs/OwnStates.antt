-- What a node of a live run is: its own state alone, what a step of it leaves of that, and what the step sends.
use Rattle.std.specs.Prelude.{Option, Some, None, List, [], option_map}
use Rattle.eris_base.specs.declared.ids.ClientId.{ClientId}
use Rattle.eris_base.specs.declared.ids.Epoch.{Epoch}
use Rattle.eris_base.specs.declared.ids.Node.{Node}
use Rattle.eris_base.specs.declared.ids.Node.TheVariants.{Sequencer, Coordinator, Replica, Client}
use Rattle.eris_base.specs.declared.ids.ReplicaId.{ReplicaId}
use Rattle.eris_base.specs.declared.ids.ShardId.{ShardId}
use Rattle.eris_base.specs.declared.ids.TxnId.{TxnId}
use Rattle.eris_msg.specs.declared.outgoing.Outgoing.{Outgoing}
use Rattle.eris_sequencer.specs.declared.stamping.Stamping.{Stamping}
use Rattle.eris_sequencer.specs.Asks.{ask}
use Rattle.eris_sequencer.specs.Sequencers.{first_stampings, newest_of, replace}
use Rattle.eris_rules.specs.declared.transaction.Transaction.{Transaction}
use Rattle.eris_rules.specs.ClientStates.{ClientIdentity, ClientState, first_client, transaction_at}
use Rattle.eris_rules.specs.Coordinators.{coord_step}
use Rattle.eris_rules.specs.CoordStates.{CoordState, first_coordinator}
use Rattle.eris_rules.specs.ReplicaStates.{Identity, ReplicaState, first_state}
use Rattle.eris_rules.specs.Replicas.{replica_step}
use Rattle.eris_rules.specs.Worlds.{WorldState, client_at, replica_at}
use Rattle.eris_law_agreement.specs.NodeSteps.{NodeStep, OfReplica, OfCoordinator, OfSequencer, Replaces, OfClient}
use Rattle.eris_law_live.specs.LiveNodes.{live_config}

-- THE STATE OF ONE NODE
pub data OwnState : Type 0 where
  SequencersAre : (stampings : List Stamping) → OwnState
  CoordinatorIs : (state : CoordState) → OwnState
  ReplicaIs : (state : ReplicaState) → OwnState
  ClientIs : (state : ClientState) → OwnState

-- a node's state in a world, if the world has the node
unfoldable pub own_state : WorldState → Node → Option OwnState
own_state world Sequencer = Some (SequencersAre world.stampings)
own_state world Coordinator = Some (CoordinatorIs world.coordinator)
own_state world (Replica shard replica) = option_map ReplicaIs (replica_at world.replicas shard replica)
own_state world (Client client) = option_map ClientIs (client_at world.clients client)

-- how a node begins
unfoldable pub first_own : Node → OwnState
first_own Sequencer = SequencersAre (first_stampings live_config)
first_own Coordinator = CoordinatorIs first_coordinator
first_own (Replica shard replica) = ReplicaIs (first_state shard)
first_own (Client client) = ClientIs first_client

abbrev pub replica_me : ShardId → ReplicaId → Identity
replica_me shard replica = record { config = live_config; shard = shard; replica = replica }

abbrev pub client_me : ClientId → ClientIdentity
client_me client = record { config = live_config; client = client }

-- WHAT THE NODE'S STEP LEAVES of it
unfoldable pub own_after : NodeStep → OwnState → OwnState
own_after (OfReplica shard replica input) (ReplicaIs state) = ReplicaIs (replica_step (replica_me shard replica) state input).state
own_after (OfCoordinator input) (CoordinatorIs state) = CoordinatorIs (coord_step live_config state input).state
own_after (OfSequencer epoch message) (SequencersAre stampings) = SequencersAre (ask live_config stampings epoch message).stampings
own_after Replaces (SequencersAre stampings) = SequencersAre (replace live_config stampings)
own_after (OfClient client act) (ClientIs state) = ClientIs (act (client_me client) state).state
own_after step state = state

-- WHAT THE NODE'S STEP SENDS
unfoldable pub own_sends : NodeStep → OwnState → List Outgoing
own_sends (OfReplica shard replica input) (ReplicaIs state) = (replica_step (replica_me shard replica) state input).sends
own_sends (OfCoordinator input) (CoordinatorIs state) = (coord_step live_config state input).sends
own_sends (OfSequencer epoch message) (SequencersAre stampings) = (ask live_config stampings epoch message).sends
own_sends (OfClient client act) (ClientIs state) = (act (client_me client) state).sends
own_sends step state = []

-- the newest epoch, as the sequencers know it; no other node asks for it
abbrev pub own_newest : OwnState → Epoch
own_newest (SequencersAre stampings) = newest_of stampings
own_newest (CoordinatorIs state) = record { 0 = 0 }
own_newest (ReplicaIs state) = record { 0 = 0 }
own_newest (ClientIs state) = record { 0 = 0 }

-- a client's transaction of this id, if it has one
abbrev pub own_transaction : OwnState → TxnId → Option Transaction
own_transaction (SequencersAre stampings) id = None
own_transaction (CoordinatorIs state) id = None
own_transaction (ReplicaIs state) id = None
own_transaction (ClientIs state) id = transaction_at state id
