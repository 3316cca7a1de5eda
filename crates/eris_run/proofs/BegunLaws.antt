-- How many submissions and sequencers an event adds: one where something is submitted or a sequencer begins, none by a flow or a
-- loss. So the few lines of a script never come near the end of a count.
use Rattle.std.proofs.Common.{◌≡◌, ℕ, zero, suc, ◌+◌, ◌≤◌, Bool, true, false, cond, Option, Some, None, List, [], ◌∷◌, length, refl, ap, ◌∙◌, arith, inl, inr}
use Rattle.std.specs.Prelude.{slice_get, slice_set}
use Rattle.std.proofs.lemmas.List.{length-set, length-append}
use Rattle.eris_base.specs.declared.ids.ClientId.{ClientId}
use Rattle.eris_base.specs.declared.ids.Epoch.{Epoch}
use Rattle.eris_base.specs.declared.ids.Node.{Node}
use Rattle.eris_base.specs.declared.ids.Node.TheVariants.{Sequencer, Coordinator, Replica, Client}
use Rattle.eris_base.specs.declared.ids.ReplicaId.{ReplicaId}
use Rattle.eris_base.specs.declared.ids.ShardId.{ShardId}
use Rattle.eris_base.specs.declared.ids.TxnId.{TxnId}
use Rattle.eris_base.specs.ConfigLimits.{ConfigValue}
use Rattle.eris_txn.specs.PlanValues.{PlanValue}
use Rattle.eris_msg.specs.declared.message.Message.{Message}
use Rattle.eris_msg.specs.declared.outgoing.Outgoing.{Outgoing}
use Rattle.eris_sequencer.specs.declared.stamping.Stamping.{Stamping}
use Rattle.eris_sequencer.specs.Asks.{Asked, ask}
use Rattle.eris_sequencer.specs.Sequencers.{new_stamping, replace}
use Rattle.eris_sequencer.proofs.AskLaws.{ask-cases}
use Rattle.eris_event.specs.declared.event.Event.{Event}
use Rattle.eris_event.specs.declared.event.Event.TheVariants as event
use Rattle.eris_rules.specs.declared.coord_input.CoordInput.{CoordInput}
use Rattle.eris_rules.specs.declared.replica_input.ReplicaInput.{ReplicaInput}
use Rattle.eris_rules.specs.ClientStates.{ClientIdentity, ClientState, ClientOut}
use Rattle.eris_rules.specs.Clients.{abort, client_step}
use Rattle.eris_rules.specs.Happenings.{aborts_plan, after_client, after_coordinator, after_replica, after_sequencer, arrives, client_acts, client_acts_by, comes_to, coordinator_takes, delivers, flows, happens, loses, plan_of_transaction, replica_steps, replica_takes, sequencer_takes, submitted_at}
use Rattle.eris_rules.specs.ReplicaStates.{ReplicaState}
use Rattle.eris_rules.specs.Worlds.{WorldState, client_at, has_crashed, no_longer_waiting, replica_at, with_sends}
use Rattle.eris_run.specs.LineRuns.{begun, cost, submissions}
use Rattle.eris_run.proofs.ClientCounts.{abort_counts, retry_counts, step_counts, submit_counts}

-- an event adds at most so many
abbrev Adds : ℕ → WorldState → WorldState → Type 0
Adds most before after = begun after ≤ begun before + most

-- ---- a replica and the coordinator add none
replica_step_adds : (config : ConfigValue) (world : WorldState) (shard : ShardId) (replica : ReplicaId) (input : ReplicaInput) (found : Option ReplicaState) → Adds 0 world (replica_steps config world shard replica input found)
unfolding after_replica with_sends
replica_step_adds config world shard replica input None = omega arith
replica_step_adds config world shard replica input (Some state) = omega arith

replica_adds : (config : ConfigValue) (world : WorldState) (shard : ShardId) (replica : ReplicaId) (input : ReplicaInput) → Adds 0 world (replica_takes config world shard replica input)
unfolding replica_takes
replica_adds config world shard replica input = of_test (has_crashed world shard replica)
  where
    of_test : (test : Bool) → Adds 0 world (cond test world (replica_steps config world shard replica input (replica_at world.replicas shard replica)))
    of_test true = omega arith
    of_test false = replica_step_adds config world shard replica input (replica_at world.replicas shard replica)

coordinator_adds : (config : ConfigValue) (world : WorldState) (input : CoordInput) → Adds 0 world (coordinator_takes config world input)
unfolding coordinator_takes after_coordinator with_sends
coordinator_adds config world input = omega arith

-- ---- a sequencer that stamps is one as before
as_many : (config : ConfigValue) (stampings : List Stamping) (epoch : Epoch) (message : Message) → length (ask config stampings epoch message).stampings ≡ length stampings
as_many config stampings epoch message = elim (ask-cases config stampings epoch message) [
  | inl same ↦ ap (λ (asked : Asked). length asked.stampings) same
  | inr stamped ↦ ap (λ (some : List Stamping). length some) stamped.changes ∙ length-set stampings epoch.0 _
]

sequencer_adds : (config : ConfigValue) (world : WorldState) (epoch : Epoch) (message : Message) → Adds 0 world (sequencer_takes config world epoch message)
unfolding sequencer_takes after_sequencer with_sends
sequencer_adds config world epoch message = let same = as_many config world.stampings epoch message in omega arith

-- ---- a client counts what it submits
sum_set : (clients : List ClientState) (number most : ℕ) (before after : ClientState) → slice_get clients number ≡ Some before → after.submitted ≤ before.submitted + most
    → submissions (slice_set clients number after) ≤ submissions clients + most
sum_set [] number most before after found few = absurd cc
sum_set (client ∷ clients) zero most before after found few = let same : client ≡ before = cc in let first : client.submitted ≡ before.submitted = ap (λ (c : ClientState). c.submitted) same in omega arith
sum_set (client ∷ clients) (suc number) most before after found few = let rest = sum_set clients number most before after found few in omega arith

client_adds : (config : ConfigValue) (world : WorldState) (client : ClientId) (act : ClientIdentity → ClientState → ClientOut) (most : ℕ)
    → ((me : ClientIdentity) (state : ClientState) → (act me state).state.submitted ≤ state.submitted + most) → Adds most world (client_acts config world client act)
unfolding client_acts client_at after_client with_sends
client_adds config world client act most few = of_found (slice_get world.clients client.0) refl
  where
    of_found : (found : Option ClientState) → slice_get world.clients client.0 ≡ found → Adds most world (client_acts_by config world client act found)
    of_found None is = omega arith
    of_found (Some state) is =
        let rest = sum_set world.clients client.0 most state (act (record { config = config; client = client }) state).state is (few (record { config = config; client = client }) state) in omega arith

-- ---- a message that comes adds none
comes_adds : (config : ConfigValue) (world : WorldState) (epoch : Option Epoch) (node : Node) (message : Message) → Adds 0 world (comes_to config world epoch node message)
comes_adds config world epoch Sequencer message = sequencer_adds config world _ message
comes_adds config world epoch Coordinator message = coordinator_adds config world (CoordInput.Message message)
comes_adds config world epoch (Replica shard replica) message = replica_adds config world shard replica (ReplicaInput.Message message)
comes_adds config world epoch (Client client) message = client_adds config world client (λ me state. client_step me state message) 0 (λ me state. step_counts me state message)

arrives_adds : (config : ConfigValue) (world : WorldState) (epoch : Option Epoch) (found : Option Outgoing) → Adds 0 world (arrives config world epoch found)
arrives_adds config world epoch None = omega arith
arrives_adds config world epoch (Some one) = comes_adds config world epoch one.to one.message

waits_no_more : (world : WorldState) (number : ℕ) → begun (no_longer_waiting world number) ≡ begun world
unfolding no_longer_waiting
waits_no_more world number = refl

delivers_adds : (config : ConfigValue) (world : WorldState) (number : ℕ) (epoch : Option Epoch) → Adds 0 world (delivers config world number epoch)
unfolding delivers
delivers_adds config world number epoch =
    let same = waits_no_more world number in
    let rest = arrives_adds config (no_longer_waiting world number) epoch (slice_get world.sent number) in omega arith

flows_adds : (config : ConfigValue) (world : WorldState) (numbers : List ℕ) → Adds 0 world (flows config world numbers)
flows_adds config world [] = omega arith
flows_adds config world (number ∷ numbers) = delivers_adds config world number None

loses_adds : (world : WorldState) (numbers : List ℕ) → Adds 0 world (loses world numbers)
loses_adds world [] = omega arith
loses_adds world (number ∷ numbers) = let same = waits_no_more world number in omega arith

aborts_add : (config : ConfigValue) (world : WorldState) (asker : ClientId) (id : TxnId) (found : Option PlanValue) → Adds 1 world (aborts_plan config world asker id found)
aborts_add config world asker id None = omega arith
aborts_add config world asker id (Some plan) = client_adds config world asker (λ me state. abort me state id plan.keys) 1 (λ me state. let same = abort_counts me state id plan.keys in omega arith)

replace_adds : (config : ConfigValue) (stampings : List Stamping) → length (replace config stampings) ≡ length stampings + 1
unfolding replace
replace_adds config stampings = length-append stampings (new_stamping config (record { 0 = length stampings }) ∷ [])

one_more : (before after : ℕ) → after ≤ before + 0 → after ≤ before + 1
one_more before after few = omega arith

-- WHAT AN EVENT ADDS
pub event_adds : (config : ConfigValue) (world : WorldState) (one : Event) → begun (happens config world one) ≤ begun world + cost one
unfolding happens
event_adds config world (event.Submit client ops) = client_adds config world client _ 1 (λ me state. submit_counts me state _)
event_adds config world (event.General client plan) = client_adds config world client _ 1 (λ me state. submit_counts me state _)
event_adds config world (event.Retry client number) = client_adds config world client _ 1 (λ me state. let same = retry_counts me state number in omega arith)
event_adds config world (event.Abort asker id) = aborts_add config world asker id (plan_of_transaction (submitted_at world id))
event_adds config world (event.Deliver packet epoch) = one_more _ _ (delivers_adds config world packet epoch)
event_adds config world event.Flow = flows_adds config world world.waiting
event_adds config world event.Lose = loses_adds world world.waiting
event_adds config world (event.Probe shard replica) = one_more _ _ (replica_adds config world shard replica ReplicaInput.Probe)
event_adds config world (event.Suspect shard replica) = one_more _ _ (replica_adds config world shard replica ReplicaInput.Suspect)
event_adds config world (event.Sync shard replica) = one_more _ _ (replica_adds config world shard replica ReplicaInput.Sync)
event_adds config world (event.Crash shard replica) = omega arith
event_adds config world event.Nudge = one_more _ _ (coordinator_adds config world CoordInput.Nudge)
event_adds config world event.Replace = let more = replace_adds config world.stampings in omega arith
event_adds config world (event.Noise node bytes) = omega arith

-- at most one
pub small_cost : (one : Event) → cost one ≤ 1
small_cost event.Flow = omega arith
small_cost event.Lose = omega arith
small_cost other = omega arith
