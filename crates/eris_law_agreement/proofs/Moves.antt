-- What an event can do to the servers. An event is a step of one node, or nothing: the step of a whole world is
-- taken apart here once, and every law of runs is one match on these cases.
use Rattle.std.proofs.Common.{◌≡◌, ℕ, suc, ◌≤◌, List, [], ◌∷◌, ◌++◌, true, false, Option, Some, None, refl, arith}
use Rattle.std.specs.Prelude.{slice_get, slice_set, unwrap_or}
use Rattle.std.proofs.lemmas.Bool.{cond_both}
use Rattle.std.proofs.lemmas.Bool.Decides.{nat_tests}
use Rattle.eris_base.specs.declared.ids.ClientId.{ClientId}
use Rattle.eris_base.specs.declared.ids.Epoch.{Epoch}
use Rattle.eris_base.specs.declared.ids.Node.{Node}
use Rattle.eris_base.specs.declared.ids.Node.TheVariants.{Sequencer, Coordinator, Replica, Client}
use Rattle.eris_base.specs.declared.ids.ReplicaId.{ReplicaId}
use Rattle.eris_base.specs.declared.ids.ShardId.{ShardId}
use Rattle.eris_base.specs.declared.ids.TxnId.{TxnId}
use Rattle.eris_base.specs.ConfigLimits.{ConfigValue}
use Rattle.eris_txn.specs.declared.body.Body.{Body}
use Rattle.eris_txn.specs.declared.txn.Txn.{Txn}
use Rattle.eris_txn.specs.Bodies.{participants_of}
use Rattle.eris_txn.specs.PlanValues.{PlanValue}
use Rattle.eris_msg.specs.declared.message.Message.{Message}
use Rattle.eris_msg.specs.declared.outgoing.Outgoing.{Outgoing}
use Rattle.eris_event.specs.declared.event.Event.{Event}
use Rattle.eris_sequencer.specs.declared.stamping.Stamping.{Stamping}
use Rattle.eris_sequencer.specs.Asks.{sends_of, sends_stamped, stamp_message, asked_by, ask}
use Rattle.eris_sequencer.specs.Sequencers.{newest_of, replace, is_in_place, stamp_at, no_stamp, stamp_by, stamp, Stamped}
use Rattle.eris_sequencer.specs.Stamps.{is_full, next_packet, stamped_next}
use Rattle.eris_rules.specs.declared.coord_input.CoordInput.{CoordInput}
use Rattle.eris_rules.specs.declared.replica_input.ReplicaInput.{ReplicaInput}
use Rattle.eris_rules.specs.Clients.{submit, retry, abort, client_step}
use Rattle.eris_rules.specs.ClientStates.{ClientIdentity, ClientState, ClientOut}
use Rattle.eris_rules.specs.Coordinators.{coord_steps_in, tell_all, nudge_step, coord_step}
use Rattle.eris_rules.specs.CoordStates.{CoordOut, is_frozen}
use Rattle.eris_rules.specs.EpochCoords.{nudge_row}
use Rattle.eris_rules.specs.Happenings.{after_replica, replica_steps, replica_takes, after_coordinator, coordinator_takes, after_sequencer, sequencer_takes, after_client, client_acts_by, client_acts, comes_to, arrives, delivers, flows, loses, plan_of_transaction, submitted_at, aborts_plan, happens}
use Rattle.eris_rules.specs.ReplicaStates.{Identity, ReplicaState, ReplicaOut}
use Rattle.eris_rules.specs.Worlds.{WorldState, replica_at, with_replica, client_at, has_crashed, with_sends, no_longer_waiting}
use Rattle.eris_law_epoch.specs.Members.{In}
use Rattle.eris_law_epoch.proofs.Members.{In-get}
use Rattle.eris_law_agreement.specs.Servers.{Servers, servers_of}
use Rattle.eris_law_agreement.specs.WorldMoments.{perhaps, moment_from, world_at}
use Rattle.eris_law_agreement.proofs.ClientAsks.{AsksOnly, submit_asks, retry_asks, abort_asks, step_asks}
use Rattle.eris_law_agreement.proofs.CoordLeaves.{CoordLeaf, coord_leaf}
use Rattle.eris_law_agreement.proofs.ReplicaLeaves.{ReplicaLeaf, replica_leaf}

-- which replica it is
abbrev pub me_at : ConfigValue → ShardId → ReplicaId → Identity
me_at config shard replica = record { config = config; shard = shard; replica = replica }

-- a message that is delivered was sent; a timer needs nothing
abbrev pub Came : List Outgoing → ShardId → ReplicaId → ReplicaInput → Type 0
Came sent shard replica (ReplicaInput.Message message) = In (record { to = Replica shard replica; message = message }) sent
Came sent shard replica ReplicaInput.Probe = Unit {0}
Came sent shard replica ReplicaInput.Suspect = Unit {0}
Came sent shard replica ReplicaInput.Sync = Unit {0}

-- the servers after a step of a replica, of the coordinator, and of an epoch's sequencer
abbrev pub replica_moved : Servers → ShardId → ReplicaId → ReplicaOut → Servers
replica_moved now shard replica out = record now { replicas = with_replica now.replicas shard replica out.state; sent = now.sent ++ out.sends }

abbrev pub coordinator_moved : Servers → CoordOut → Servers
coordinator_moved now out = record now { coordinator = out.state; sent = now.sent ++ out.sends }

abbrev pub stamped : ConfigValue → Servers → Epoch → Stamping → ClientId → TxnId → Body → Servers
stamped config now epoch stamping asker id body =
    record now {
      stampings = slice_set now.stampings epoch.0 (stamped_next stamping id asker body);
      sent = now.sent ++ sends_of config.f (next_packet stamping.sequencer id asker body);
    }

-- what a coordinator on its way to a higher epoch says at its timer
abbrev pub asked_again : ConfigValue → Servers → CoordOut
asked_again config now = record { state = now.coordinator; sends = tell_all config (Message.EpochAsk now.coordinator.target) }

-- THE CASES of an event
pub data Move (config : ConfigValue) (now : Servers) : Servers → Type 0 where
  Rests : Move config now now
  ReplicaMoves : (shard : ShardId) (replica : ReplicaId) (state : ReplicaState) (input : ReplicaInput) (out : ReplicaOut)
      → replica_at now.replicas shard replica ≡ Some state → Came now.sent shard replica input → ReplicaLeaf (me_at config shard replica) state input out
      → Move config now (replica_moved now shard replica out)
  CoordinatorMoves : (message : Message) (out : CoordOut) → In (record { to = Coordinator; message = message }) now.sent → CoordLeaf config now.coordinator message out
      → Move config now (coordinator_moved now out)
  AsksAgain : Move config now (coordinator_moved now (asked_again config now))
  Nudges : now.coordinator.target.0 ≤ now.coordinator.current.0 → Move config now (coordinator_moved now (coord_steps_in now.coordinator (nudge_row config now.coordinator.inner)))
  Stamps : (epoch : Epoch) (stamping : Stamping) (asker : ClientId) (id : TxnId) (body : Body) → slice_get now.stampings epoch.0 ≡ Some stamping
      → is_in_place config asker id body ≡ true → is_full stamping.sequencer.counters (participants_of body) ≡ false
      → Move config now (stamped config now epoch stamping asker id body)
  Replaces : Move config now (record now { stampings = replace config now.stampings })
  Asks : (sends : List Outgoing) → AsksOnly sends → Move config now (record now { sent = now.sent ++ sends })

module _ (config : ConfigValue) where
  -- the move from one world to another
  To : WorldState → WorldState → Type 0
  To world after = Move config (servers_of world) (servers_of after)

  move_replica : (world : WorldState) (shard : ShardId) (replica : ReplicaId) (input : ReplicaInput) (found : Option ReplicaState) → replica_at world.replicas shard replica ≡ found
      → Came world.sent shard replica input → To world (replica_steps config world shard replica input found)
  unfolding To after_replica with_sends
  move_replica world shard replica input None h came = Rests
  move_replica world shard replica input (Some state) h came =
      ReplicaMoves shard replica state input _ h came (replica_leaf (me_at config shard replica) state input)

  move_rests : (world : WorldState) → To world world
  unfolding To
  move_rests world = Rests

  move_takes : (world : WorldState) (shard : ShardId) (replica : ReplicaId) (input : ReplicaInput) → Came world.sent shard replica input → To world (replica_takes config world shard replica input)
  unfolding replica_takes
  move_takes world shard replica input came = cond_both (has_crashed world shard replica) world _ (To world) (λ h. move_rests world) (λ h. move_replica world shard replica input (replica_at world.replicas shard replica) refl came)

  move_coordinator : (world : WorldState) (message : Message) → In (record { to = Coordinator; message = message }) world.sent → To world (coordinator_takes config world (CoordInput.Message message))
  unfolding To coordinator_takes after_coordinator with_sends coord_step
  move_coordinator world message i = CoordinatorMoves message _ i (coord_leaf config world.coordinator message)

  -- the sequencers after an ask, and what they send
  ToStamped : WorldState → Stamped → Type 0
  ToStamped world made = Move config (servers_of world) (record { stampings = made.stampings; coordinator = world.coordinator; replicas = world.replicas; sent = world.sent ++ sends_stamped config.f made.packet })

  no_stamped : (world : WorldState) → ToStamped world (no_stamp world.stampings)
  unfolding ToStamped no_stamp sends_stamped
  no_stamped world = Asks [] tt

  made_stamp : (world : WorldState) (epoch : Epoch) (stamping : Stamping) (asker : ClientId) (id : TxnId) (body : Body) → slice_get world.stampings epoch.0 ≡ Some stamping
      → is_in_place config asker id body ≡ true → is_full stamping.sequencer.counters (participants_of body) ≡ false → ToStamped world (stamp_at world.stampings epoch stamping asker id body)
  unfolding ToStamped stamp_at sends_stamped
  made_stamp world epoch stamping asker id body h ok free = Stamps epoch stamping asker id body h ok free

  stamped_by : (world : WorldState) (epoch : Epoch) (asker : ClientId) (id : TxnId) (body : Body) (found : Option Stamping) → slice_get world.stampings epoch.0 ≡ found → is_in_place config asker id body ≡ true
      → ToStamped world (stamp_by world.stampings epoch found asker id body)
  unfolding stamp_by
  stamped_by world epoch asker id body None h ok = no_stamped world
  stamped_by world epoch asker id body (Some stamping) h ok = cond_both (is_full stamping.sequencer.counters (participants_of body)) _ _ (ToStamped world) (λ full. no_stamped world) (λ free. made_stamp world epoch stamping asker id body h ok free)

  stamped_asked : (world : WorldState) (epoch : Epoch) (message : Message) → ToStamped world (stamp_message config world.stampings epoch message)
  unfolding stamp_message stamp
  stamped_asked world epoch (Message.Ask asker id body) = cond_both (is_in_place config asker id body) _ _ (ToStamped world)
      (λ ok. stamped_by world epoch asker id body (slice_get world.stampings epoch.0) refl ok) (λ out. no_stamped world)
  stamped_asked world epoch message = no_stamped world

  move_sequencer : (world : WorldState) (epoch : Epoch) (message : Message) → To world (sequencer_takes config world epoch message)
  unfolding To sequencer_takes after_sequencer with_sends ask asked_by ToStamped
  move_sequencer world epoch message = stamped_asked world epoch message

  move_client_by : (world : WorldState) (client : ClientId) (act : ClientIdentity → ClientState → ClientOut) → ((me : ClientIdentity) (state : ClientState) → AsksOnly (act me state).sends)
      → (found : Option ClientState) → To world (client_acts_by config world client act found)
  unfolding To after_client with_sends
  move_client_by world client act fine None = Rests
  move_client_by world client act fine (Some state) = Asks _ (fine (record { config = config; client = client }) state)

  move_client : (world : WorldState) (client : ClientId) (act : ClientIdentity → ClientState → ClientOut) → ((me : ClientIdentity) (state : ClientState) → AsksOnly (act me state).sends)
      → To world (client_acts config world client act)
  unfolding client_acts
  move_client world client act fine = move_client_by world client act fine (client_at world.clients client)

  move_comes : (world : WorldState) (epoch : Option Epoch) (node : Node) (message : Message) → In (record { to = node; message = message }) world.sent → To world (comes_to config world epoch node message)
  move_comes world epoch Sequencer message i = move_sequencer world (unwrap_or epoch (newest_of world.stampings)) message
  move_comes world epoch Coordinator message i = move_coordinator world message i
  move_comes world epoch (Replica shard replica) message i = move_takes world shard replica (ReplicaInput.Message message) i
  move_comes world epoch (Client client) message i = move_client world client (λ me state. client_step me state message) (λ me state. step_asks me state message)

  move_arrives : (world : WorldState) (epoch : Option Epoch) (number : ℕ) (found : Option Outgoing) → slice_get world.sent number ≡ found → To world (arrives config world epoch found)
  move_arrives world epoch number None h = move_rests world
  move_arrives world epoch number (Some one) h = move_comes world epoch one.to one.message (In-get one world.sent number h)

  move_delivers : (world : WorldState) (number : ℕ) (epoch : Option Epoch) → To world (delivers config world number epoch)
  unfolding delivers no_longer_waiting To
  move_delivers world number epoch = move_arrives (no_longer_waiting world number) epoch number (slice_get world.sent number) refl

  move_flows : (world : WorldState) (waiting : List ℕ) → To world (flows config world waiting)
  unfolding To
  move_flows world [] = Rests
  move_flows world (number ∷ numbers) = move_delivers world number None

  move_loses : (world : WorldState) (waiting : List ℕ) → To world (loses world waiting)
  unfolding To no_longer_waiting
  move_loses world [] = Rests
  move_loses world (number ∷ numbers) = Rests

  move_aborts : (world : WorldState) (asker : ClientId) (id : TxnId) (plan : Option PlanValue) → To world (aborts_plan config world asker id plan)
  unfolding To
  move_aborts world asker id None = Rests
  move_aborts world asker id (Some plan) = move_client world asker (λ me state. abort me state id plan.keys) (λ me state. abort_asks me state id plan.keys)

  move_nudge : (world : WorldState) → To world (coordinator_takes config world CoordInput.Nudge)
  unfolding To coordinator_takes after_coordinator with_sends coord_step nudge_step
  move_nudge world = cond_both (is_frozen world.coordinator) (asked_again config (servers_of world)) (coord_steps_in world.coordinator (nudge_row config world.coordinator.inner)) (λ out. Move config (servers_of world) (coordinator_moved (servers_of world) out))
      (λ h. AsksAgain) (λ h. Nudges (thawed h))
    where
      thawed : is_frozen world.coordinator ≡ false → world.coordinator.target.0 ≤ world.coordinator.current.0
      thawed h = grind (arith, nat_tests)

  -- EACH EVENT is one of the cases
  pub moves : (world : WorldState) (event : Event) → Move config (servers_of world) (servers_of (happens config world event))
  unfolding happens To
  moves world (Event.Submit client ops) = move_client world client (λ me state. submit me state (Txn.Whole ops)) (λ me state. submit_asks me state (Txn.Whole ops))
  moves world (Event.General client plan) = move_client world client (λ me state. submit me state (Txn.General plan)) (λ me state. submit_asks me state (Txn.General plan))
  moves world (Event.Retry client number) = move_client world client (λ me state. retry me state number) (λ me state. retry_asks me state number)
  moves world (Event.Abort asker id) = move_aborts world asker id (plan_of_transaction (submitted_at world id))
  moves world (Event.Deliver packet epoch) = move_delivers world packet epoch
  moves world Event.Flow = move_flows world world.waiting
  moves world Event.Lose = move_loses world world.waiting
  moves world (Event.Probe shard replica) = move_takes world shard replica ReplicaInput.Probe tt
  moves world (Event.Suspect shard replica) = move_takes world shard replica ReplicaInput.Suspect tt
  moves world (Event.Sync shard replica) = move_takes world shard replica ReplicaInput.Sync tt
  moves world (Event.Crash shard replica) = Rests
  moves world Event.Nudge = move_nudge world
  moves world Event.Replace = Replaces
  moves world (Event.Noise node bytes) = Rests

  perhaps_moves : (world : WorldState) (event : Option Event) → Move config (servers_of world) (servers_of (perhaps config world event))
  perhaps_moves world None = Rests
  perhaps_moves world (Some event) = moves world event

  -- from each moment to the next
  pub next_move : (events : List Event) (number : ℕ) → Move config (servers_of (world_at config events number)) (servers_of (world_at config events (suc number)))
  unfolding moment_from
  next_move events number = perhaps_moves (world_at config events number) (slice_get events number)
