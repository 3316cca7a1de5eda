-- Each event is one step of one node, or none. So the coordinator, the sequencers and each client are, after a run, the
-- folds of their own steps, whatever happened elsewhere in between; and what was sent, and what happened at the clients,
-- only grows at its end, by what that step gives.
use Rattle.std.proofs.Common.{◌≡◌, inl, inr, ℕ, zero, suc, ◌≤◌, List, [], ◌∷◌, ◌++◌, Bool, true, false, cond, ◌==◌, Option, Some, None, option_map, unwrap_or, refl, sym, ap, ◌∙◌, append_assoc, subst, arith}
use Rattle.std.specs.Prelude.{slice_get, slice_set}
use Rattle.std.proofs.lemmas.Bool.{cases_eq}
use Rattle.std.proofs.lemmas.Bool.Decides.{nat_tests}
use Rattle.eris_base.specs.declared.ids.ClientId.{ClientId}
use Rattle.eris_base.specs.declared.ids.Epoch.{Epoch}
use Rattle.eris_base.specs.declared.ids.Node.{Node}
use Rattle.eris_base.specs.declared.ids.Node.TheVariants.{Sequencer, Coordinator, Replica, Client}
use Rattle.eris_base.specs.declared.ids.ReplicaId.{ReplicaId}
use Rattle.eris_base.specs.declared.ids.ShardId.{ShardId}
use Rattle.eris_base.specs.declared.ids.TxnId.{TxnId}
use Rattle.eris_base.specs.ConfigLimits.{ConfigValue}
use Rattle.eris_base.proofs.Booleans.{number_self}
use Rattle.eris_base.proofs.IdLaws.{client_equal}
use Rattle.eris_txn.specs.declared.history.HistoryEvent.{HistoryEvent}
use Rattle.eris_txn.specs.PlanValues.{PlanValue}
use Rattle.eris_msg.specs.declared.message.Message.{Message}
use Rattle.eris_msg.specs.declared.outgoing.Outgoing.{Outgoing}
use Rattle.eris_event.specs.declared.event.Event.{Event}
use Rattle.eris_sequencer.specs.Sequencers.{newest_of}
use Rattle.eris_rules.specs.declared.coord_input.CoordInput.{CoordInput}
use Rattle.eris_rules.specs.declared.replica_input.ReplicaInput.{ReplicaInput}
use Rattle.eris_rules.specs.ClientStates.{ClientState}
use Rattle.eris_rules.specs.Happenings.{after_client, after_coordinator, after_replica, after_sequencer, aborts_plan, arrives, client_acts, client_acts_by, comes_to, coordinator_takes, delivers, flows, happens, loses, plan_of_transaction, replica_steps, replica_takes, sequencer_takes, submitted_at}
use Rattle.eris_rules.specs.ReplicaStates.{ReplicaState}
use Rattle.eris_rules.specs.Worlds.{WorldState, client_at, first_world, has_crashed, no_longer_waiting, replica_at, with_event, with_sends}
use Rattle.eris_law_epoch.proofs.Frame.{get-set, get-set_same}
use Rattle.eris_law_agreement.specs.Continuing.{Continues}
use Rattle.eris_law_agreement.specs.NodeSteps.{ClientAct, NoStep, NodeStep, OfClient, OfCoordinator, OfReplica, OfSequencer, Replaces, abort_of, acted, client_after, client_event, client_sends, client_steps, coordinator_after, coordinator_steps, delivery_of, event_of_step, heard_by, replica_sends, sends_of_step, stampings_after, stampings_steps, step_at, step_now, step_of}
use Rattle.eris_law_agreement.specs.OwnSteps.{lowest}
use Rattle.eris_law_agreement.specs.WorldMoments.{moment_from, perhaps, world_at}
use Rattle.eris_law_agreement.proofs.Growth.{over}

-- ---- lists that go on
append-nil : {X : Type 0} (xs : List X) → xs ≡ xs ++ []
append-nil [] = refl
append-nil (x ∷ xs) = ap (λ rest. x ∷ rest) (append-nil xs)

Continues-refl : {X : Type 0} (xs : List X) → Continues xs xs
Continues-refl xs = record { more = []; is = append-nil xs }

Continues-trans : {X : Type 0} (xs ys zs : List X) → Continues xs ys → Continues ys zs → Continues xs zs
Continues-trans xs ys zs f g = record { more = f.more ++ g.more; is = g.is ∙ ap (λ list. list ++ g.more) f.is ∙ append_assoc xs f.more g.more }

-- ---- one event
module _ (config : ConfigValue) where
  -- the step of one node: what it leaves of all but the replicas, and what it sends
  record Leaves (world after : WorldState) (step : NodeStep) : Type 0 where
    coordinator : after.coordinator ≡ coordinator_after config world.coordinator step
    stampings : after.stampings ≡ stampings_after config world.stampings step
    clients : (client : ClientId) → client_at after.clients client ≡ option_map (client_after config client step) (client_at world.clients client)
    sent : after.sent ≡ world.sent ++ sends_of_step config world step
    history : after.history ≡ with_event world.history (event_of_step config world step)

  -- where clients stay
  map_same : (found : Option ClientState) → found ≡ option_map (λ state. state) found
  map_same None = refl
  map_same (Some state) = refl

  nothing : (world : WorldState) → Leaves world world NoStep
  unfolding sends_of_step event_of_step
  nothing world = record { coordinator = refl; stampings = refl; clients = λ client. map_same (client_at world.clients client); sent = append-nil world.sent; history = refl }

  -- ---- a replica
  record LeavesBut (world after : WorldState) (sends : List Outgoing) : Type 0 where
    coordinator : after.coordinator ≡ world.coordinator
    stampings : after.stampings ≡ world.stampings
    clients : after.clients ≡ world.clients
    sent : after.sent ≡ world.sent ++ sends
    history : after.history ≡ world.history

  replica_leaves : (world : WorldState) (shard : ShardId) (replica : ReplicaId) (input : ReplicaInput) (found : Option ReplicaState)
      → LeavesBut world (replica_steps config world shard replica input found) (replica_sends config shard replica input found)
  unfolding after_replica with_sends
  replica_leaves world shard replica input None = record { coordinator = refl; stampings = refl; clients = refl; sent = append-nil world.sent; history = refl }
  replica_leaves world shard replica input (Some state) = record { coordinator = refl; stampings = refl; clients = refl; sent = refl; history = refl }

  takes_leaves : (world : WorldState) (shard : ShardId) (replica : ReplicaId) (input : ReplicaInput)
      → LeavesBut world (replica_takes config world shard replica input) (sends_of_step config world (OfReplica shard replica input))
  unfolding replica_takes sends_of_step
  takes_leaves world shard replica input = by_crash (has_crashed world shard replica)
    where
      by_crash : (b : Bool) → LeavesBut world (cond b world (replica_steps config world shard replica input (replica_at world.replicas shard replica)))
          (cond b [] (replica_sends config shard replica input (replica_at world.replicas shard replica)))
      by_crash true = record { coordinator = refl; stampings = refl; clients = refl; sent = append-nil world.sent; history = refl }
      by_crash false = replica_leaves world shard replica input (replica_at world.replicas shard replica)

  takes : (world : WorldState) (shard : ShardId) (replica : ReplicaId) (input : ReplicaInput) → Leaves world (replica_takes config world shard replica input) (OfReplica shard replica input)
  unfolding event_of_step
  takes world shard replica input =
      let but = takes_leaves world shard replica input in
      record {
        coordinator = but.coordinator;
        stampings = but.stampings;
        clients = λ client. ap (λ clients. client_at clients client) but.clients ∙ map_same (client_at world.clients client);
        sent = but.sent;
        history = but.history;
      }

  -- ---- the coordinator, and the sequencers
  coordinator_gets : (world : WorldState) (input : CoordInput) → Leaves world (coordinator_takes config world input) (OfCoordinator input)
  unfolding coordinator_takes after_coordinator with_sends sends_of_step event_of_step
  coordinator_gets world input = record { coordinator = refl; stampings = refl; clients = λ client. map_same (client_at world.clients client); sent = refl; history = refl }

  sequencer_gets : (world : WorldState) (epoch : Epoch) (message : Message) → Leaves world (sequencer_takes config world epoch message) (OfSequencer epoch message)
  unfolding sequencer_takes after_sequencer with_sends sends_of_step event_of_step
  sequencer_gets world epoch message = record { coordinator = refl; stampings = refl; clients = λ client. map_same (client_at world.clients client); sent = refl; history = refl }

  -- ---- a client
  number_apart : (a b : ℕ) → (a ≡ b → ⊥) → (b == a) ≡ false
  number_apart a b apart = grind (arith, nat_tests)

  acted-own : (client : ClientId) (act : ClientAct) (state : ClientState) → acted config client state client act ≡ (act (record { config = config; client = client }) state).state
  acted-own client act state = ap (λ b. cond b (act (record { config = config; client = client }) state).state state) (number_self client.0)

  acted-other : (client other : ClientId) (act : ClientAct) (found : Option ClientState) → (client.0 ≡ other.0 → ⊥) → found ≡ option_map (λ state. acted config client state other act) found
  acted-other client other act None apart = refl
  acted-other client other act (Some state) apart = ap (λ b. Some (cond b (act (record { config = config; client = client }) state).state state)) (sym (number_apart client.0 other.0 apart))

  client_put : (clients : List ClientState) (client other : ClientId) (act : ClientAct) (state : ClientState) → client_at clients other ≡ Some state
      → client_at (slice_set clients other.0 (act (record { config = config; client = other }) state).state) client ≡ option_map (λ was. acted config client was other act) (client_at clients client)
  unfolding client_at
  client_put clients client other act state found = elim (cases_eq client.0 other.0) [
    | inl e ↦ own (client_equal client other e)
    | inr apart ↦ elim (get-set clients other.0 client.0 state (act (record { config = config; client = other }) state).state found) [
      | inl here ↦ absurd (apart here.0)
      | inr same ↦ same ∙ acted-other client other act (slice_get clients client.0) apart
    ]
  ]
    where
      own : client ≡ other → slice_get (slice_set clients other.0 (act (record { config = config; client = other }) state).state) client.0 ≡ option_map (λ was. acted config client was other act) (slice_get clients client.0)
      own e = subst (λ (c : ClientId). slice_get (slice_set clients other.0 (act (record { config = config; client = other }) state).state) c.0 ≡ option_map (λ was. acted config c was other act) (slice_get clients c.0)) (sym e)
          (get-set_same clients other.0 state (act (record { config = config; client = other }) state).state found ∙ ap Some (sym (acted-own other act state)) ∙ ap (option_map (λ was. acted config other was other act)) (sym found))

  client_none : (clients : List ClientState) (client other : ClientId) (act : ClientAct) → client_at clients other ≡ None → client_at clients client ≡ option_map (λ was. acted config client was other act) (client_at clients client)
  client_none clients client other act found = elim (cases_eq client.0 other.0) [
    | inl e ↦ (let none : client_at clients client ≡ None = ap (client_at clients) (client_equal client other e) ∙ found in none ∙ sym (ap (option_map (λ was. acted config client was other act)) none))
    | inr apart ↦ acted-other client other act (client_at clients client) apart
  ]

  acts_by : (world : WorldState) (other : ClientId) (act : ClientAct) (found : Option ClientState) → client_at world.clients other ≡ found → Leaves world (client_acts_by config world other act found) (OfClient other act)
  unfolding after_client with_sends sends_of_step event_of_step
  acts_by world other act None h = record {
    coordinator = refl;
    stampings = refl;
    clients = λ client. client_none world.clients client other act h;
    sent = append-nil world.sent ∙ ap (λ found. world.sent ++ client_sends config other act found) (sym h);
    history = ap (λ found. with_event world.history (client_event config other act found)) (sym h);
  }
  acts_by world other act (Some state) h = record {
    coordinator = refl;
    stampings = refl;
    clients = λ client. client_put world.clients client other act state h;
    sent = ap (λ found. world.sent ++ client_sends config other act found) (sym h);
    history = ap (λ found. with_event world.history (client_event config other act found)) (sym h);
  }

  acts : (world : WorldState) (client : ClientId) (act : ClientAct) → Leaves world (client_acts config world client act) (OfClient client act)
  unfolding client_acts
  acts world client act = acts_by world client act (client_at world.clients client) refl

  -- ---- a message that comes
  comes : (world : WorldState) (epoch : Option Epoch) (node : Node) (message : Message) → Leaves world (comes_to config world epoch node message) (heard_by (unwrap_or epoch (newest_of world.stampings)) node message)
  comes world epoch Sequencer message = sequencer_gets world (unwrap_or epoch (newest_of world.stampings)) message
  comes world epoch Coordinator message = coordinator_gets world (CoordInput.Message message)
  comes world epoch (Replica shard replica) message = takes world shard replica (ReplicaInput.Message message)
  comes world epoch (Client client) message = acts world client _

  arrived : (world : WorldState) (epoch : Option Epoch) (found : Option Outgoing) → Leaves world (arrives config world epoch found) (delivery_of (unwrap_or epoch (newest_of world.stampings)) found)
  arrived world epoch None = nothing world
  arrived world epoch (Some one) = comes world epoch one.to one.message

  -- what waits is of no matter
  same_sends : (world : WorldState) (number : ℕ) (step : NodeStep) → sends_of_step config (no_longer_waiting world number) step ≡ sends_of_step config world step
  unfolding no_longer_waiting sends_of_step has_crashed
  same_sends world number NoStep = refl
  same_sends world number (OfReplica shard replica input) = refl
  same_sends world number (OfCoordinator input) = refl
  same_sends world number (OfSequencer epoch message) = refl
  same_sends world number Replaces = refl
  same_sends world number (OfClient client act) = refl

  same_event : (world : WorldState) (number : ℕ) (step : NodeStep) → event_of_step config (no_longer_waiting world number) step ≡ event_of_step config world step
  unfolding no_longer_waiting event_of_step
  same_event world number NoStep = refl
  same_event world number (OfReplica shard replica input) = refl
  same_event world number (OfCoordinator input) = refl
  same_event world number (OfSequencer epoch message) = refl
  same_event world number Replaces = refl
  same_event world number (OfClient client act) = refl

  waits_less : (world after : WorldState) (number : ℕ) (step : NodeStep) → Leaves (no_longer_waiting world number) after step → Leaves world after step
  unfolding no_longer_waiting
  waits_less world after number step leaves = record {
    coordinator = leaves.coordinator;
    stampings = leaves.stampings;
    clients = leaves.clients;
    sent = leaves.sent ∙ ap (λ sends. world.sent ++ sends) (same_sends world number step);
    history = leaves.history ∙ ap (with_event world.history) (same_event world number step);
  }

  delivered : (world : WorldState) (number : ℕ) (epoch : Option Epoch) → Leaves world (delivers config world number epoch) (delivery_of (unwrap_or epoch (newest_of world.stampings)) (slice_get world.sent number))
  unfolding delivers no_longer_waiting
  delivered world number epoch = waits_less world _ number _ (arrived (no_longer_waiting world number) epoch (slice_get world.sent number))

  flowed : (world : WorldState) (waiting : List ℕ) → Leaves world (flows config world waiting) (delivery_of (newest_of world.stampings) (lowest world waiting))
  flowed world [] = nothing world
  flowed world (number ∷ numbers) = delivered world number None

  lost : (world : WorldState) (waiting : List ℕ) → Leaves world (loses world waiting) NoStep
  unfolding no_longer_waiting
  lost world [] = nothing world
  lost world (number ∷ numbers) = waits_less world (no_longer_waiting world number) number NoStep (nothing (no_longer_waiting world number))

  aborted : (world : WorldState) (asker : ClientId) (id : TxnId) (plan : Option PlanValue) → Leaves world (aborts_plan config world asker id plan) (abort_of asker id plan)
  aborted world asker id None = nothing world
  aborted world asker id (Some plan) = acts world asker _

  replaced : (world : WorldState) → Leaves world (happens config world Event.Replace) Replaces
  unfolding happens sends_of_step event_of_step
  replaced world = record { coordinator = refl; stampings = refl; clients = λ client. map_same (client_at world.clients client); sent = append-nil world.sent; history = refl }

  crashes : (world : WorldState) (shard : ShardId) (replica : ReplicaId) → Leaves world (happens config world (Event.Crash shard replica)) NoStep
  unfolding happens sends_of_step event_of_step
  crashes world shard replica = record { coordinator = refl; stampings = refl; clients = λ client. map_same (client_at world.clients client); sent = append-nil world.sent; history = refl }

  -- ---- EACH EVENT is one step
  event_leaves : (world : WorldState) (event : Event) → Leaves world (happens config world event) (step_of world event)
  unfolding happens step_of
  event_leaves world (Event.Submit client ops) = acts world client _
  event_leaves world (Event.General client plan) = acts world client _
  event_leaves world (Event.Retry client number) = acts world client _
  event_leaves world (Event.Abort asker id) = aborted world asker id (plan_of_transaction (submitted_at world id))
  event_leaves world (Event.Deliver packet epoch) = delivered world packet epoch
  event_leaves world Event.Flow = flowed world world.waiting
  event_leaves world Event.Lose = lost world world.waiting
  event_leaves world (Event.Probe shard replica) = takes world shard replica ReplicaInput.Probe
  event_leaves world (Event.Suspect shard replica) = takes world shard replica ReplicaInput.Suspect
  event_leaves world (Event.Sync shard replica) = takes world shard replica ReplicaInput.Sync
  event_leaves world (Event.Crash shard replica) = crashes world shard replica
  event_leaves world Event.Nudge = coordinator_gets world CoordInput.Nudge
  event_leaves world Event.Replace = replaced world
  event_leaves world (Event.Noise node bytes) = nothing world

  pub coordinator_one : (world : WorldState) (event : Event) → (happens config world event).coordinator ≡ coordinator_after config world.coordinator (step_of world event)
  coordinator_one world event = (event_leaves world event).coordinator

  pub stampings_one : (world : WorldState) (event : Event) → (happens config world event).stampings ≡ stampings_after config world.stampings (step_of world event)
  stampings_one world event = (event_leaves world event).stampings

  pub client_one : (client : ClientId) (world : WorldState) (event : Event) → client_at (happens config world event).clients client ≡ option_map (client_after config client (step_of world event)) (client_at world.clients client)
  client_one client world event = (event_leaves world event).clients client

  pub sent_one : (world : WorldState) (event : Event) → (happens config world event).sent ≡ world.sent ++ sends_of_step config world (step_of world event)
  sent_one world event = (event_leaves world event).sent

  pub history_one : (world : WorldState) (event : Event) → (happens config world event).history ≡ with_event world.history (event_of_step config world (step_of world event))
  history_one world event = (event_leaves world event).history

  -- ---- over a run
  leaves_now : (world : WorldState) (event : Option Event) → Leaves world (perhaps config world event) (step_now world event)
  leaves_now world None = nothing world
  leaves_now world (Some event) = event_leaves world event

  next : (events : List Event) (number : ℕ) → Leaves (world_at config events number) (world_at config events (suc number)) (step_at config events number)
  unfolding moment_from
  next events number = leaves_now (world_at config events number) (slice_get events number)

  pub coordinator_local : (events : List Event) (number : ℕ) → (world_at config events number).coordinator ≡ coordinator_steps config events number (first_world config).coordinator
  unfolding moment_from coordinator_steps
  coordinator_local events zero = refl
  coordinator_local events (suc number) = (next events number).coordinator ∙ ap (λ state. coordinator_after config state (step_at config events number)) (coordinator_local events number)

  pub stampings_local : (events : List Event) (number : ℕ) → (world_at config events number).stampings ≡ stampings_steps config events number (first_world config).stampings
  unfolding moment_from stampings_steps
  stampings_local events zero = refl
  stampings_local events (suc number) = (next events number).stampings ∙ ap (λ stampings. stampings_after config stampings (step_at config events number)) (stampings_local events number)

  map_map : (f g : ClientState → ClientState) (found : Option ClientState) → option_map f (option_map g found) ≡ option_map (λ state. f (g state)) found
  map_map f g None = refl
  map_map f g (Some state) = refl

  pub client_local : (client : ClientId) (events : List Event) (number : ℕ) → client_at (world_at config events number).clients client ≡ option_map (client_steps config events client number) (client_at (first_world config).clients client)
  unfolding moment_from client_steps
  client_local client events zero = map_same (client_at (first_world config).clients client)
  client_local client events (suc number) =
      (next events number).clients client
      ∙ ap (option_map (client_after config client (step_at config events number))) (client_local client events number)
      ∙ map_map (client_after config client (step_at config events number)) (client_steps config events client number) (client_at (first_world config).clients client)

  -- ---- over two moments
  with_more : (history : List HistoryEvent) (event : Option HistoryEvent) → Continues history (with_event history event)
  with_more history None = Continues-refl history
  with_more history (Some event) = record { more = event ∷ []; is = refl }

  pub sent_continues : (events : List Event) (j k : ℕ) → j ≤ k → Continues (world_at config events j).sent (world_at config events k).sent
  sent_continues events j k le =
      over (λ a b. Continues (world_at config events a).sent (world_at config events b).sent) (λ a. Continues-refl _)
      (λ a b up rest. Continues-trans _ _ _ rest (record { more = sends_of_step config (world_at config events b) (step_at config events b); is = (next events b).sent })) j k le

  pub history_continues : (events : List Event) (j k : ℕ) → j ≤ k → Continues (world_at config events j).history (world_at config events k).history
  history_continues events j k le =
      over (λ a b. Continues (world_at config events a).history (world_at config events b).history) (λ a. Continues-refl _)
      (λ a b up rest. Continues-trans _ _ _ rest (subst (λ list. Continues (world_at config events b).history list) (sym (next events b).history) (with_more (world_at config events b).history (event_of_step config (world_at config events b) (step_at config events b))))) j k le
