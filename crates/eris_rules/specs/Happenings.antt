-- What each event does to a world. An event is one step of one node, or something that the network does; where it
-- names what isn't there, nothing is done (and such an event is refused).
use Rattle.std.specs.Prelude.{ℕ, ◌++◌, Option, Some, None, List, ◌∷◌, [], slice_get, slice_set, unwrap_or, if◌then◌else◌}
use Rattle.eris_base.specs.declared.ids.ClientId.{ClientId}
use Rattle.eris_base.specs.declared.ids.Epoch.{Epoch}
use Rattle.eris_base.specs.declared.ids.Node.{Node}
use Rattle.eris_base.specs.declared.ids.Node.TheVariants.{Sequencer, Coordinator, Replica, Client}
use Rattle.eris_base.specs.declared.ids.ReplicaId.{ReplicaId}
use Rattle.eris_base.specs.declared.ids.ShardId.{ShardId}
use Rattle.eris_base.specs.declared.ids.TxnId.{TxnId}
use Rattle.eris_base.specs.ConfigLimits.{ConfigValue}
use Rattle.eris_txn.specs.declared.txn.Txn.{Txn}
use Rattle.eris_txn.specs.PlanValues.{PlanValue}
use Rattle.eris_msg.specs.declared.message.Message.{Message}
use Rattle.eris_msg.specs.declared.outgoing.Outgoing.{Outgoing}
use Rattle.eris_sequencer.specs.Asks.{Asked, ask}
use Rattle.eris_sequencer.specs.Sequencers.{newest_of, replace}
use Rattle.eris_event.specs.declared.event.Event.{Event}
use Rattle.eris_rules.specs.declared.coord_input.CoordInput.{CoordInput}
use Rattle.eris_rules.specs.declared.replica_input.ReplicaInput.{ReplicaInput}
use Rattle.eris_rules.specs.declared.transaction.Transaction.{Transaction}
use Rattle.eris_rules.specs.Clients.{submit, retry, abort, client_step}
use Rattle.eris_rules.specs.ClientStates.{ClientIdentity, ClientState, ClientOut, transaction_at, plan_of}
use Rattle.eris_rules.specs.Coordinators.{coord_step}
use Rattle.eris_rules.specs.CoordStates.{CoordOut}
use Rattle.eris_rules.specs.ReplicaStates.{ReplicaState, ReplicaOut}
use Rattle.eris_rules.specs.Replicas.{replica_step}
use Rattle.eris_rules.specs.Worlds.{WorldState, replica_at, with_replica, client_at, has_crashed, with_sends, no_longer_waiting, with_event}

-- the world after a step of a replica
unfoldable pub after_replica : WorldState → ShardId → ReplicaId → ReplicaOut → WorldState
after_replica world shard replica out =
    with_sends (record world { replicas = with_replica world.replicas shard replica out.state }) out.sends

abbrev pub replica_steps : ConfigValue → WorldState → ShardId → ReplicaId → ReplicaInput → Option ReplicaState → WorldState
replica_steps config world shard replica input None = world
replica_steps config world shard replica input (Some state) =
    after_replica world shard replica (replica_step (record { config = config; shard = shard; replica = replica }) state input)

-- a replica that has crashed steps no more
unfoldable pub replica_takes : ConfigValue → WorldState → ShardId → ReplicaId → ReplicaInput → WorldState
replica_takes config world shard replica input =
    if has_crashed world shard replica then world
    else replica_steps config world shard replica input (replica_at world.replicas shard replica)

unfoldable pub after_coordinator : WorldState → CoordOut → WorldState
after_coordinator world out = with_sends (record world { coordinator = out.state }) out.sends

unfoldable pub coordinator_takes : ConfigValue → WorldState → CoordInput → WorldState
coordinator_takes config world input = after_coordinator world (coord_step config world.coordinator input)

unfoldable pub after_sequencer : WorldState → Asked → WorldState
after_sequencer world asked = with_sends (record world { stampings = asked.stampings }) asked.sends

-- the sequencer of an epoch takes a message; one that was replaced goes on stamping
unfoldable pub sequencer_takes : ConfigValue → WorldState → Epoch → Message → WorldState
sequencer_takes config world epoch message = after_sequencer world (ask config world.stampings epoch message)

unfoldable pub after_client : WorldState → ClientId → ClientOut → WorldState
after_client world client out =
    with_sends
    (record world {
      clients = slice_set world.clients client.0 out.state;
      history = with_event world.history out.event;
    })
    out.sends

-- a client acts, of itself or by a message
abbrev pub client_acts_by : ConfigValue → WorldState → ClientId → (ClientIdentity → ClientState → ClientOut) → Option ClientState → WorldState
client_acts_by config world client act None = world
client_acts_by config world client act (Some state) =
    after_client world client (act (record { config = config; client = client }) state)

unfoldable pub client_acts : ConfigValue → WorldState → ClientId → (ClientIdentity → ClientState → ClientOut) → WorldState
client_acts config world client act = client_acts_by config world client act (client_at world.clients client)

-- a message comes to its node; an Ask to the sequencer of the epoch that is named, or else to the newest
abbrev pub comes_to : ConfigValue → WorldState → Option Epoch → Node → Message → WorldState
comes_to config world epoch Sequencer message =
    sequencer_takes config world (unwrap_or epoch (newest_of world.stampings)) message
comes_to config world epoch Coordinator message = coordinator_takes config world (CoordInput.Message message)
comes_to config world epoch (Replica shard replica) message =
    replica_takes config world shard replica (ReplicaInput.Message message)
comes_to config world epoch (Client client) message =
    client_acts config world client (λ me state. client_step me state message)

abbrev pub arrives : ConfigValue → WorldState → Option Epoch → Option Outgoing → WorldState
arrives config world epoch None = world
arrives config world epoch (Some one) = comes_to config world epoch one.to one.message

-- DELIVER: the message of this number comes to its node, for the first time or again
unfoldable pub delivers : ConfigValue → WorldState → ℕ → Option Epoch → WorldState
delivers config world number epoch = arrives config (no_longer_waiting world number) epoch (slice_get world.sent number)

-- FLOW: the lowest waiting message is delivered; at a replica that has crashed it counts as delivered
abbrev pub flows : ConfigValue → WorldState → List ℕ → WorldState
flows config world [] = world
flows config world (number ∷ numbers) = delivers config world number None

-- LOSE: the lowest waiting message waits no more
abbrev pub loses : WorldState → List ℕ → WorldState
loses world [] = world
loses world (number ∷ numbers) = no_longer_waiting world number

-- the plan of a client's transaction, if it is a general one
abbrev pub plan_of_transaction : Option Transaction → Option PlanValue
plan_of_transaction None = None
plan_of_transaction (Some transaction) = plan_of transaction.course

-- a client's transaction, if it has one of this id
abbrev pub transaction_of : Option ClientState → TxnId → Option Transaction
transaction_of None id = None
transaction_of (Some state) id = transaction_at state id

-- the transaction of an id, at the client that submitted it
unfoldable pub submitted_at : WorldState → TxnId → Option Transaction
submitted_at world id = transaction_of (client_at world.clients id.client) id

-- ABORT: the asker asks for it with the keys of the plan
abbrev pub aborts_plan : ConfigValue → WorldState → ClientId → TxnId → Option PlanValue → WorldState
aborts_plan config world asker id None = world
aborts_plan config world asker id (Some plan) = client_acts config world asker (λ me state. abort me state id plan.keys)

-- WHAT AN EVENT DOES. Bytes that nobody sent do nothing: they aren't a message, so every node leaves them.
unfoldable pub happens : ConfigValue → WorldState → Event → WorldState
happens config world (Event.Submit client ops) = client_acts config world client (λ me state. submit me state (Txn.Whole ops))
happens config world (Event.General client plan) = client_acts config world client (λ me state. submit me state (Txn.General plan))
happens config world (Event.Retry client number) = client_acts config world client (λ me state. retry me state number)
happens config world (Event.Abort asker id) = aborts_plan config world asker id (plan_of_transaction (submitted_at world id))
happens config world (Event.Deliver packet epoch) = delivers config world packet epoch
happens config world Event.Flow = flows config world world.waiting
happens config world Event.Lose = loses world world.waiting
happens config world (Event.Probe shard replica) = replica_takes config world shard replica ReplicaInput.Probe
happens config world (Event.Suspect shard replica) = replica_takes config world shard replica ReplicaInput.Suspect
happens config world (Event.Sync shard replica) = replica_takes config world shard replica ReplicaInput.Sync
happens config world (Event.Crash shard replica) = record world { crashed = world.crashed ++ (shard, replica) ∷ [] }
happens config world Event.Nudge = coordinator_takes config world CoordInput.Nudge
happens config world Event.Replace = record world { stampings = replace config world.stampings }
happens config world (Event.Noise node bytes) = world
