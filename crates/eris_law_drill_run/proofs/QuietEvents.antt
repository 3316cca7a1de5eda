-- EVENTS THAT SUBMIT NOTHING AND CRASH NOBODY: all clients go on as they were, and nothing more is submitted.
use Rattle.std.proofs.Common.{◌≡◌, ℕ, Bool, true, false, cond, ◌==◌, Option, Some, None, option_map, List, [], ◌∷◌, refl, ap, ◌∙◌}
use Rattle.std.specs.Prelude.{⊤, slice_get}
use Rattle.std.proofs.lemmas.Bool.{cond_both}
use Rattle.eris_base.specs.declared.ids.ClientId.{ClientId}
use Rattle.eris_base.specs.declared.ids.Epoch.{Epoch}
use Rattle.eris_base.specs.declared.ids.Node.{Node}
use Rattle.eris_base.specs.declared.ids.Node.TheVariants.{Client, Coordinator, Replica, Sequencer}
use Rattle.eris_base.specs.declared.ids.ReplicaId.{ReplicaId}
use Rattle.eris_base.specs.declared.ids.ShardId.{ShardId}
use Rattle.eris_base.specs.declared.ids.TxnId.{TxnId}
use Rattle.eris_base.specs.ConfigLimits.{ConfigValue}
use Rattle.eris_msg.specs.declared.message.Message.{Message}
use Rattle.eris_msg.specs.declared.outgoing.Outgoing.{Outgoing}
use Rattle.eris_event.specs.declared.event.Event.{Event}
use Rattle.eris_sequencer.specs.Sequencers.{newest_of}
use Rattle.eris_rules.specs.declared.replica_input.ReplicaInput.{ReplicaInput}
use Rattle.eris_rules.specs.ClientStates.{ClientIdentity, ClientOut, ClientState}
use Rattle.eris_rules.specs.Happenings.{after_client, after_coordinator, after_replica, after_sequencer, arrives, client_acts, client_acts_by, comes_to, coordinator_takes, delivers, flows, happens, loses, replica_steps, replica_takes, sequencer_takes}
use Rattle.eris_rules.specs.ReplicaStates.{ReplicaState}
use Rattle.eris_rules.specs.Worlds.{WorldState, client_at, has_crashed, no_longer_waiting, replica_at, with_event, with_sends}
use Rattle.eris_law_agreement.specs.NodeSteps.{ClientAct, NodeStep, OfClient, client_after, client_event, delivery_of, event_of_step, heard_by, step_of}
use Rattle.eris_law_agreement.specs.OwnSteps.{delivered_by}
use Rattle.eris_law_agreement.proofs.NodeLocality.{client_one, history_one}
use Rattle.eris_law_drill_run.specs.Submissions.{submissions}
use Rattle.eris_law_drill_run.proofs.ClientSteps.{Keeps, Known, message_keeps, retry_keeps}

-- the event is none that submits, crashes, delivers by number, aborts or makes noise
abbrev pub IsQuietEvent : Event → Type 0
IsQuietEvent (Event.Retry client number) = ⊤
IsQuietEvent Event.Flow = ⊤
IsQuietEvent Event.Lose = ⊤
IsQuietEvent Event.Nudge = ⊤
IsQuietEvent (Event.Suspect shard replica) = ⊤
IsQuietEvent (Event.Sync shard replica) = ⊤
IsQuietEvent event = ⊥

-- ---- its step
abbrev IsQuietStep : NodeStep → Type 0
IsQuietStep (OfClient client act) = (me : ClientIdentity) (state : ClientState) → Keeps state (act me state)
IsQuietStep step = ⊤

heard_quiet : (epoch : Epoch) (node : Node) (message : Message) → IsQuietStep (heard_by epoch node message)
heard_quiet epoch Sequencer message = tt
heard_quiet epoch Coordinator message = tt
heard_quiet epoch (Replica shard replica) message = tt
heard_quiet epoch (Client client) message = λ me state. message_keeps me state message

delivery_quiet : (epoch : Epoch) (found : Option Outgoing) → IsQuietStep (delivery_of epoch found)
delivery_quiet epoch None = tt
delivery_quiet epoch (Some one) = heard_quiet epoch one.to one.message

step_quiet : (world : WorldState) (event : Event) → IsQuietEvent event → IsQuietStep (step_of world event)
unfolding step_of
step_quiet world (Event.Retry client number) quiet = λ me state. retry_keeps me state number
step_quiet world Event.Flow quiet = delivery_quiet (newest_of world.stampings) (delivered_by world Event.Flow)
step_quiet world Event.Lose quiet = tt
step_quiet world Event.Nudge quiet = tt
step_quiet world (Event.Suspect shard replica) quiet = tt
step_quiet world (Event.Sync shard replica) quiet = tt
step_quiet world event quiet = absurd quiet

-- a client that goes on
pub record GoesOn (clients : List ClientState) (client : ClientId) (state : ClientState) : Type 0 where
  pub after : ClientState
  pub there : client_at clients client ≡ Some after
  pub count : after.submitted ≡ state.submitted
  pub known : (id : TxnId) → Known state id → Known after id

module _ (config : ConfigValue) (world : WorldState) where
  module _ (client : ClientId) (state : ClientState) where
    acted_count : (other : ClientId) (act : ClientAct) → Keeps state (act (record { config = config; client = client }) state) → (test : Bool)
        → (cond test (act (record { config = config; client = client }) state).state state).submitted ≡ state.submitted
    acted_count other act keeps true = keeps.count
    acted_count other act keeps false = refl

    acted_known : (other : ClientId) (act : ClientAct) → Keeps state (act (record { config = config; client = client }) state) → (test : Bool) (id : TxnId) → Known state id
        → Known (cond test (act (record { config = config; client = client }) state).state state) id
    acted_known other act keeps true id known = keeps.known id known
    acted_known other act keeps false id known = known

    step_count : (step : NodeStep) → IsQuietStep step → (client_after config client step state).submitted ≡ state.submitted
    step_count (OfClient other act) quiet = acted_count other act (quiet _ state) (other.0 == client.0)
    step_count step quiet = refl

    step_known : (step : NodeStep) → IsQuietStep step → (id : TxnId) → Known state id → Known (client_after config client step state) id
    step_known (OfClient other act) quiet id known = acted_known other act (quiet _ state) (other.0 == client.0) id known
    step_known step quiet id known = known

    pub client_goes_on : (event : Event) → IsQuietEvent event → client_at world.clients client ≡ Some state → GoesOn (happens config world event).clients client state
    client_goes_on event quiet there = record {
      after = client_after config client (step_of world event) state;
      there = client_one config client world event ∙ ap (option_map (client_after config client (step_of world event))) there;
      count = step_count (step_of world event) (step_quiet world event quiet);
      known = step_known (step_of world event) (step_quiet world event quiet);
    }

  acted_silent : (client : ClientId) (act : ClientAct) → ((me : ClientIdentity) (state : ClientState) → Keeps state (act me state)) → (found : Option ClientState)
      → submissions (with_event world.history (client_event config client act found)) ≡ submissions world.history
  acted_silent client act quiet None = refl
  acted_silent client act quiet (Some state) = (quiet (record { config = config; client = client }) state).silent world.history

  step_silent : (step : NodeStep) → IsQuietStep step → submissions (with_event world.history (event_of_step config world step)) ≡ submissions world.history
  unfolding event_of_step
  step_silent (OfClient client act) quiet = acted_silent client act quiet (client_at world.clients client)
  step_silent step quiet = refl

  pub nothing_submitted : (event : Event) → IsQuietEvent event → submissions (happens config world event).history ≡ submissions world.history
  nothing_submitted event quiet = ap submissions (history_one config world event) ∙ step_silent (step_of world event) (step_quiet world event quiet)

  -- ---- who has crashed
  client_crashes : (client : ClientId) (act : ClientIdentity → ClientState → ClientOut) (found : Option ClientState) → (client_acts_by config world client act found).crashed ≡ world.crashed
  unfolding after_client with_sends
  client_crashes client act None = refl
  client_crashes client act (Some state) = refl

  pub acts_crash : (client : ClientId) (act : ClientIdentity → ClientState → ClientOut) → (client_acts config world client act).crashed ≡ world.crashed
  unfolding client_acts
  acts_crash client act = client_crashes client act (client_at world.clients client)

  replica_crashes : (shard : ShardId) (replica : ReplicaId) (input : ReplicaInput) (found : Option ReplicaState) → (replica_steps config world shard replica input found).crashed ≡ world.crashed
  unfolding after_replica with_sends
  replica_crashes shard replica input None = refl
  replica_crashes shard replica input (Some state) = refl

  takes_crash : (shard : ShardId) (replica : ReplicaId) (input : ReplicaInput) → (replica_takes config world shard replica input).crashed ≡ world.crashed
  unfolding replica_takes
  takes_crash shard replica input =
      cond_both (has_crashed world shard replica) world (replica_steps config world shard replica input (replica_at world.replicas shard replica))
      (λ (next : WorldState). next.crashed ≡ world.crashed) (λ down. refl) (λ up. replica_crashes shard replica input (replica_at world.replicas shard replica))

  comes_crash : (epoch : Option Epoch) (node : Node) (message : Message) → (comes_to config world epoch node message).crashed ≡ world.crashed
  unfolding sequencer_takes after_sequencer coordinator_takes after_coordinator with_sends
  comes_crash epoch Sequencer message = refl
  comes_crash epoch Coordinator message = refl
  comes_crash epoch (Replica shard replica) message = takes_crash shard replica (ReplicaInput.Message message)
  comes_crash epoch (Client client) message = acts_crash client _

  arrives_crash : (epoch : Option Epoch) (found : Option Outgoing) → (arrives config world epoch found).crashed ≡ world.crashed
  arrives_crash epoch None = refl
  arrives_crash epoch (Some one) = comes_crash epoch one.to one.message

flows_crash : (config : ConfigValue) (world : WorldState) (waiting : List ℕ) → (flows config world waiting).crashed ≡ world.crashed
unfolding delivers no_longer_waiting
flows_crash config world [] = refl
flows_crash config world (number ∷ numbers) = arrives_crash config (no_longer_waiting world number) None (slice_get world.sent number)

loses_crash : (world : WorldState) (waiting : List ℕ) → (loses world waiting).crashed ≡ world.crashed
unfolding no_longer_waiting
loses_crash world [] = refl
loses_crash world (number ∷ numbers) = refl

pub nobody_crashes : (config : ConfigValue) (world : WorldState) (event : Event) → IsQuietEvent event → (happens config world event).crashed ≡ world.crashed
unfolding happens coordinator_takes after_coordinator with_sends
nobody_crashes config world (Event.Retry client number) quiet = acts_crash config world client _
nobody_crashes config world Event.Flow quiet = flows_crash config world world.waiting
nobody_crashes config world Event.Lose quiet = loses_crash world world.waiting
nobody_crashes config world Event.Nudge quiet = refl
nobody_crashes config world (Event.Suspect shard replica) quiet = takes_crash config world shard replica ReplicaInput.Suspect
nobody_crashes config world (Event.Sync shard replica) quiet = takes_crash config world shard replica ReplicaInput.Sync
nobody_crashes config world event quiet = absurd quiet
