-- What an event does at the clients: one of them acts by the input that the event is to it, and its event and what it
-- sends are added; or none of them acts, and no Ask is sent. An event is taken apart here once for the clients.
use Rattle.std.proofs.Common.{◌≡◌, ℕ, List, [], ◌∷◌, ◌++◌, Option, Some, None, refl}
use Rattle.std.specs.Prelude.{slice_get, slice_set}
use Rattle.std.proofs.lemmas.Bool.{cond_both}
use Rattle.eris_base.specs.declared.ids.ClientId.{ClientId}
use Rattle.eris_base.specs.declared.ids.Epoch.{Epoch}
use Rattle.eris_base.specs.declared.ids.Node.{Node}
use Rattle.eris_base.specs.declared.ids.Node.TheVariants.{Sequencer, Coordinator, Replica, Client}
use Rattle.eris_base.specs.declared.ids.ReplicaId.{ReplicaId}
use Rattle.eris_base.specs.declared.ids.ShardId.{ShardId}
use Rattle.eris_base.specs.declared.ids.TxnId.{TxnId}
use Rattle.eris_base.specs.ConfigLimits.{ConfigValue}
use Rattle.eris_txn.specs.declared.history.HistoryEvent.{HistoryEvent}
use Rattle.eris_txn.specs.declared.packet.Packet.{Packet}
use Rattle.eris_txn.specs.declared.txn.Txn.{Txn}
use Rattle.eris_txn.specs.PlanValues.{PlanValue}
use Rattle.eris_msg.specs.declared.message.Message.{Message}
use Rattle.eris_msg.specs.declared.outgoing.Outgoing.{Outgoing}
use Rattle.eris_event.specs.declared.event.Event.{Event}
use Rattle.eris_sequencer.specs.Asks.{sends_stamped, asked_by, ask}
use Rattle.eris_rules.specs.declared.coord_input.CoordInput.{CoordInput}
use Rattle.eris_rules.specs.declared.replica_input.ReplicaInput.{ReplicaInput}
use Rattle.eris_rules.specs.ClientStates.{ClientState, ClientOut}
use Rattle.eris_rules.specs.Happenings.{after_replica, replica_steps, replica_takes, after_coordinator, coordinator_takes, after_sequencer, sequencer_takes, after_client, client_acts_by, client_acts, comes_to, arrives, delivers, flows, loses, plan_of_transaction, submitted_at, aborts_plan, happens}
use Rattle.eris_rules.specs.ReplicaStates.{ReplicaState}
use Rattle.eris_rules.specs.Worlds.{WorldState, replica_at, client_at, has_crashed, with_sends, no_longer_waiting, with_event}
use Rattle.eris_law_agreement.specs.OwnSteps.{lowest}
use Rattle.eris_law_client.specs.ClientRuns.{ClientInput, Submits, Retries, Aborts, Gets, client_does}
use Rattle.eris_law_course.specs.Inputs.{identity, nothing, given, heard, hears, called, input_of}
use Rattle.eris_law_course.proofs.ServerSends.{NoAsks, replica_no_asks, coord_no_asks, nudge_no_asks, packet_no_asks}

-- the clients' side of a world
pub record ClientSide : Type 0 where
  pub clients : List ClientState
  pub sent : List Outgoing
  pub history : List HistoryEvent

abbrev pub side_of : WorldState → ClientSide
side_of world = record { clients = world.clients; sent = world.sent; history = world.history }

-- after a client's step
abbrev pub acted : ClientSide → ClientId → ClientOut → ClientSide
acted now client out = record { clients = slice_set now.clients client.0 out.state; sent = now.sent ++ out.sends; history = with_event now.history out.event }

-- THE CASES of an event
pub data Acting (config : ConfigValue) (now : ClientSide) (to : ClientId → ClientInput) : ClientSide → Type 0 where
  ItActs : (client : ClientId) (state : ClientState) (input : ClientInput) → client_at now.clients client ≡ Some state → ((other : ClientId) → to other ≡ given client input other)
      → Acting config now to (acted now client (client_does (identity config client) state input))
  -- a client that isn't there
  NobodyActs : (client : ClientId) (input : ClientInput) → client_at now.clients client ≡ None → ((other : ClientId) → to other ≡ given client input other) → Acting config now to now
  OthersAct : (sends : List Outgoing) → NoAsks sends → ((other : ClientId) → to other ≡ nothing) → Acting config now to (record now { sent = now.sent ++ sends })
  Rests : ((other : ClientId) → to other ≡ nothing) → Acting config now to now

module _ (config : ConfigValue) where
  Goes : WorldState → (ClientId → ClientInput) → WorldState → Type 0
  Goes world to after = Acting config (side_of world) to (side_of after)

  none : ClientId → ClientInput
  none client = nothing

  -- ---- clients
  acts_by : (world : WorldState) (client : ClientId) (input : ClientInput) (found : Option ClientState) → client_at world.clients client ≡ found
      → Goes world (given client input) (client_acts_by config world client (λ me state. client_does me state input) found)
  unfolding Goes after_client with_sends
  acts_by world client input None h = NobodyActs client input h (λ other. refl)
  acts_by world client input (Some state) h = ItActs client state input h (λ other. refl)

  acts : (world : WorldState) (client : ClientId) (input : ClientInput) → Goes world (given client input) (client_acts config world client (λ me state. client_does me state input))
  unfolding client_acts
  acts world client input = acts_by world client input (client_at world.clients client) refl

  -- ---- servers
  quiet : (world : WorldState) → Goes world none world
  unfolding Goes none
  quiet world = Rests (λ other. refl)

  replica_by : (world : WorldState) (shard : ShardId) (replica : ReplicaId) (input : ReplicaInput) (found : Option ReplicaState) → Goes world none (replica_steps config world shard replica input found)
  unfolding Goes none after_replica with_sends
  replica_by world shard replica input None = Rests (λ other. refl)
  replica_by world shard replica input (Some state) = OthersAct _ (replica_no_asks _ state input) (λ other. refl)

  replica_does : (world : WorldState) (shard : ShardId) (replica : ReplicaId) (input : ReplicaInput) → Goes world none (replica_takes config world shard replica input)
  unfolding replica_takes
  replica_does world shard replica input = cond_both (has_crashed world shard replica) world _ (Goes world none) (λ h. quiet world) (λ h. replica_by world shard replica input (replica_at world.replicas shard replica))

  coordinator : (world : WorldState) (input : CoordInput) → Goes world none (coordinator_takes config world input)
  unfolding Goes none coordinator_takes after_coordinator with_sends
  coordinator world (CoordInput.Message message) = OthersAct _ (coord_no_asks config world.coordinator message) (λ other. refl)
  coordinator world CoordInput.Nudge = OthersAct _ (nudge_no_asks config world.coordinator) (λ other. refl)

  stamped_no_asks : (found : Option Packet) → NoAsks (sends_stamped config.f found)
  unfolding sends_stamped
  stamped_no_asks None = tt
  stamped_no_asks (Some packet) = packet_no_asks config.f packet

  sequencer : (world : WorldState) (epoch : Epoch) (message : Message) → Goes world none (sequencer_takes config world epoch message)
  unfolding Goes none sequencer_takes after_sequencer with_sends ask asked_by
  sequencer world epoch message = OthersAct _ (stamped_no_asks _) (λ other. refl)

  -- ---- what is delivered
  comes : (world : WorldState) (epoch : Option Epoch) (node : Node) (message : Message) → Goes world (heard node message) (comes_to config world epoch node message)
  unfolding none client_does
  comes world epoch Sequencer message = sequencer world _ message
  comes world epoch Coordinator message = coordinator world (CoordInput.Message message)
  comes world epoch (Replica s r) message = replica_does world s r (ReplicaInput.Message message)
  comes world epoch (Client client) message = acts world client (Gets message)

  arrived : (world : WorldState) (epoch : Option Epoch) (found : Option Outgoing) → Goes world (hears found) (arrives config world epoch found)
  unfolding none
  arrived world epoch None = quiet world
  arrived world epoch (Some one) = comes world epoch one.to one.message

  delivered : (world : WorldState) (number : ℕ) (epoch : Option Epoch) → Goes world (hears (slice_get world.sent number)) (delivers config world number epoch)
  unfolding Goes delivers no_longer_waiting
  delivered world number epoch = arrived (no_longer_waiting world number) epoch (slice_get world.sent number)

  flowed : (world : WorldState) (waiting : List ℕ) → Goes world (hears (lowest world waiting)) (flows config world waiting)
  unfolding none
  flowed world [] = quiet world
  flowed world (number ∷ numbers) = delivered world number None

  lost : (world : WorldState) (waiting : List ℕ) → Goes world none (loses world waiting)
  unfolding Goes none no_longer_waiting
  lost world [] = Rests (λ other. refl)
  lost world (number ∷ numbers) = Rests (λ other. refl)

  aborted : (world : WorldState) (asker : ClientId) (id : TxnId) (plan : Option PlanValue) → Goes world (called asker id plan) (aborts_plan config world asker id plan)
  unfolding none client_does
  aborted world asker id None = quiet world
  aborted world asker id (Some plan) = acts world asker (Aborts id plan.keys)

  -- EACH EVENT is one of the cases
  pub acting : (world : WorldState) (event : Event) → Acting config (side_of world) (input_of world event) (side_of (happens config world event))
  unfolding Goes none happens input_of client_does
  acting world (Event.Submit client ops) = acts world client (Submits (Txn.Whole ops))
  acting world (Event.General client plan) = acts world client (Submits (Txn.General plan))
  acting world (Event.Retry client number) = acts world client (Retries number)
  acting world (Event.Abort asker id) = aborted world asker id (plan_of_transaction (submitted_at world id))
  acting world (Event.Deliver packet epoch) = delivered world packet epoch
  acting world Event.Flow = flowed world world.waiting
  acting world Event.Lose = lost world world.waiting
  acting world (Event.Probe s r) = replica_does world s r ReplicaInput.Probe
  acting world (Event.Suspect s r) = replica_does world s r ReplicaInput.Suspect
  acting world (Event.Sync s r) = replica_does world s r ReplicaInput.Sync
  acting world (Event.Crash s r) = Rests (λ other. refl)
  acting world Event.Nudge = coordinator world CoordInput.Nudge
  acting world Event.Replace = Rests (λ other. refl)
  acting world (Event.Noise node bytes) = Rests (λ other. refl)
