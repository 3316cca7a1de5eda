-- AN EVENT IS ONE STEP OF ONE NODE, or none: which node steps, by what, and what it sends. So a node's state after a run
-- is the fold of its own steps, whatever the others did in between; and what was sent is what the steps sent, one after
-- the other.
use Rattle.std.specs.Prelude.{ℕ, zero, suc, ◌==◌, Option, Some, None, List, [], slice_get, unwrap_or, if◌then◌else◌}
use Rattle.eris_base.specs.declared.ids.ClientId.{ClientId}
use Rattle.eris_base.specs.declared.ids.Epoch.{Epoch}
use Rattle.eris_base.specs.declared.ids.Node.{Node}
use Rattle.eris_base.specs.declared.ids.Node.TheVariants.{Sequencer, Coordinator, Replica, Client}
use Rattle.eris_base.specs.declared.ids.ReplicaId.{ReplicaId}
use Rattle.eris_base.specs.declared.ids.ShardId.{ShardId}
use Rattle.eris_base.specs.declared.ids.TxnId.{TxnId}
use Rattle.eris_base.specs.ConfigLimits.{ConfigValue}
use Rattle.eris_txn.specs.declared.history.HistoryEvent.{HistoryEvent}
use Rattle.eris_txn.specs.declared.txn.Txn.{Txn}
use Rattle.eris_txn.specs.PlanValues.{PlanValue}
use Rattle.eris_msg.specs.declared.message.Message.{Message}
use Rattle.eris_msg.specs.declared.outgoing.Outgoing.{Outgoing}
use Rattle.eris_event.specs.declared.event.Event.{Event}
use Rattle.eris_sequencer.specs.declared.stamping.Stamping.{Stamping}
use Rattle.eris_sequencer.specs.Asks.{ask}
use Rattle.eris_sequencer.specs.Sequencers.{newest_of, replace}
use Rattle.eris_rules.specs.declared.coord_input.CoordInput.{CoordInput}
use Rattle.eris_rules.specs.declared.replica_input.ReplicaInput.{ReplicaInput}
use Rattle.eris_rules.specs.Clients.{submit, retry, abort, client_step}
use Rattle.eris_rules.specs.ClientStates.{ClientIdentity, ClientOut, ClientState}
use Rattle.eris_rules.specs.Coordinators.{coord_step}
use Rattle.eris_rules.specs.CoordStates.{CoordState}
use Rattle.eris_rules.specs.Happenings.{plan_of_transaction, submitted_at}
use Rattle.eris_rules.specs.ReplicaStates.{ReplicaState}
use Rattle.eris_rules.specs.Replicas.{replica_step}
use Rattle.eris_rules.specs.Worlds.{WorldState, client_at, has_crashed, replica_at}
use Rattle.eris_law_agreement.specs.OwnSteps.{delivered_by}
use Rattle.eris_law_agreement.specs.WorldMoments.{world_at}

-- what a client does of itself or by a message
abbrev pub ClientAct : Type 0
ClientAct = ClientIdentity → ClientState → ClientOut

-- ONE STEP of one node, or none
pub data NodeStep : Type 0 where
  NoStep : NodeStep
  OfReplica : (shard : ShardId) (replica : ReplicaId) (input : ReplicaInput) → NodeStep
  OfCoordinator : (input : CoordInput) → NodeStep
  -- a message comes to the sequencer of the epoch
  OfSequencer : (epoch : Epoch) (message : Message) → NodeStep
  -- one more epoch has a sequencer
  Replaces : NodeStep
  OfClient : (client : ClientId) (act : ClientAct) → NodeStep

-- ---- which step an event is
abbrev pub heard_by : Epoch → Node → Message → NodeStep
heard_by epoch Sequencer message = OfSequencer epoch message
heard_by epoch Coordinator message = OfCoordinator (CoordInput.Message message)
heard_by epoch (Replica shard replica) message = OfReplica shard replica (ReplicaInput.Message message)
heard_by epoch (Client client) message = OfClient client (λ me state. client_step me state message)

abbrev pub delivery_of : Epoch → Option Outgoing → NodeStep
delivery_of epoch None = NoStep
delivery_of epoch (Some one) = heard_by epoch one.to one.message

abbrev pub abort_of : ClientId → TxnId → Option PlanValue → NodeStep
abort_of asker id None = NoStep
abort_of asker id (Some plan) = OfClient asker (λ me state. abort me state id plan.keys)

-- THE STEP that an event is
unfoldable pub step_of : WorldState → Event → NodeStep
step_of world (Event.Submit client ops) = OfClient client (λ me state. submit me state (Txn.Whole ops))
step_of world (Event.General client plan) = OfClient client (λ me state. submit me state (Txn.General plan))
step_of world (Event.Retry client number) = OfClient client (λ me state. retry me state number)
step_of world (Event.Abort asker id) = abort_of asker id (plan_of_transaction (submitted_at world id))
step_of world (Event.Deliver packet epoch) = delivery_of (unwrap_or epoch (newest_of world.stampings)) (delivered_by world (Event.Deliver packet epoch))
step_of world Event.Flow = delivery_of (newest_of world.stampings) (delivered_by world Event.Flow)
step_of world Event.Lose = NoStep
step_of world (Event.Probe shard replica) = OfReplica shard replica ReplicaInput.Probe
step_of world (Event.Suspect shard replica) = OfReplica shard replica ReplicaInput.Suspect
step_of world (Event.Sync shard replica) = OfReplica shard replica ReplicaInput.Sync
step_of world (Event.Crash shard replica) = NoStep
step_of world Event.Nudge = OfCoordinator CoordInput.Nudge
step_of world Event.Replace = Replaces
step_of world (Event.Noise node bytes) = NoStep

abbrev pub step_now : WorldState → Option Event → NodeStep
step_now world None = NoStep
step_now world (Some event) = step_of world event

-- the step behind a moment of a run
abbrev pub step_at : ConfigValue → List Event → ℕ → NodeStep
step_at config events number = step_now (world_at config events number) (slice_get events number)

-- ---- what a step leaves of each node
abbrev pub coordinator_after : ConfigValue → CoordState → NodeStep → CoordState
coordinator_after config state (OfCoordinator input) = (coord_step config state input).state
coordinator_after config state step = state

abbrev pub stampings_after : ConfigValue → List Stamping → NodeStep → List Stamping
stampings_after config stampings (OfSequencer epoch message) = (ask config stampings epoch message).stampings
stampings_after config stampings Replaces = replace config stampings
stampings_after config stampings step = stampings

abbrev pub acted : ConfigValue → ClientId → ClientState → ClientId → ClientAct → ClientState
acted config client state other act = if other.0 == client.0 then (act (record { config = config; client = client }) state).state else state

abbrev pub client_after : ConfigValue → ClientId → NodeStep → ClientState → ClientState
client_after config client (OfClient other act) state = acted config client state other act
client_after config client step state = state

-- ---- what a step sends, and what happens at a client
abbrev pub replica_sends : ConfigValue → ShardId → ReplicaId → ReplicaInput → Option ReplicaState → List Outgoing
replica_sends config shard replica input None = []
replica_sends config shard replica input (Some state) = (replica_step (record { config = config; shard = shard; replica = replica }) state input).sends

abbrev pub client_sends : ConfigValue → ClientId → ClientAct → Option ClientState → List Outgoing
client_sends config client act None = []
client_sends config client act (Some state) = (act (record { config = config; client = client }) state).sends

unfoldable pub sends_of_step : ConfigValue → WorldState → NodeStep → List Outgoing
sends_of_step config world NoStep = []
sends_of_step config world (OfReplica shard replica input) =
    if has_crashed world shard replica then [] else replica_sends config shard replica input (replica_at world.replicas shard replica)
sends_of_step config world (OfCoordinator input) = (coord_step config world.coordinator input).sends
sends_of_step config world (OfSequencer epoch message) = (ask config world.stampings epoch message).sends
sends_of_step config world Replaces = []
sends_of_step config world (OfClient client act) = client_sends config client act (client_at world.clients client)

abbrev pub client_event : ConfigValue → ClientId → ClientAct → Option ClientState → Option HistoryEvent
client_event config client act None = None
client_event config client act (Some state) = (act (record { config = config; client = client }) state).event

unfoldable pub event_of_step : ConfigValue → WorldState → NodeStep → Option HistoryEvent
event_of_step config world (OfClient client act) = client_event config client act (client_at world.clients client)
event_of_step config world step = None

-- ---- THE FOLDS of a node's own steps, up to a moment
unfoldable pub coordinator_steps : ConfigValue → List Event → ℕ → CoordState → CoordState
coordinator_steps config events zero state = state
coordinator_steps config events (suc number) state = coordinator_after config (coordinator_steps config events number state) (step_at config events number)

unfoldable pub stampings_steps : ConfigValue → List Event → ℕ → List Stamping → List Stamping
stampings_steps config events zero stampings = stampings
stampings_steps config events (suc number) stampings = stampings_after config (stampings_steps config events number stampings) (step_at config events number)

unfoldable pub client_steps : ConfigValue → List Event → ClientId → ℕ → ClientState → ClientState
client_steps config events client zero state = state
client_steps config events client (suc number) state = client_after config client (step_at config events number) (client_steps config events client number state)
