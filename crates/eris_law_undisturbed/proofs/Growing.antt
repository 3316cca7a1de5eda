-- A HISTORY ONLY GROWS, whatever the events: what stands in it stays.
use Rattle.std.proofs.Common.{◌≡◌, ℕ, Option, Some, None, List, [], ◌∷◌, refl, subst}
use Rattle.std.proofs.lemmas.Bool.{cond_both}
use Rattle.std.specs.Prelude.{slice_get}
use Rattle.eris_base.specs.declared.ids.ClientId.{ClientId}
use Rattle.eris_base.specs.declared.ids.Epoch.{Epoch}
use Rattle.eris_base.specs.declared.ids.Node.{Node}
use Rattle.eris_base.specs.declared.ids.Node.TheVariants.{Client, Coordinator, Replica, Sequencer}
use Rattle.eris_base.specs.declared.ids.ReplicaId.{ReplicaId}
use Rattle.eris_base.specs.declared.ids.ShardId.{ShardId}
use Rattle.eris_base.specs.declared.ids.TxnId.{TxnId}
use Rattle.eris_base.specs.ConfigLimits.{ConfigValue}
use Rattle.eris_txn.specs.PlanValues.{PlanValue}
use Rattle.eris_msg.specs.declared.message.Message.{Message}
use Rattle.eris_msg.specs.declared.outgoing.Outgoing.{Outgoing}
use Rattle.eris_event.specs.declared.event.Event.{Event}
use Rattle.eris_rules.specs.declared.replica_input.ReplicaInput.{ReplicaInput}
use Rattle.eris_rules.specs.ClientStates.{ClientIdentity, ClientOut, ClientState}
use Rattle.eris_rules.specs.Happenings.{aborts_plan, after_client, after_coordinator, after_replica, after_sequencer, arrives, client_acts, client_acts_by, comes_to, coordinator_takes, delivers, flows, happens, loses, plan_of_transaction, replica_steps, replica_takes, sequencer_takes, submitted_at}
use Rattle.eris_rules.specs.ReplicaStates.{ReplicaState}
use Rattle.eris_rules.specs.Runs.{run_from, world_after}
use Rattle.eris_rules.specs.Worlds.{WorldState, client_at, has_crashed, no_longer_waiting, replica_at, with_sends}
use Rattle.eris_rules.proofs.RunLaws.{none_run}
use Rattle.eris_law_agreement.proofs.Moments.{taken}
use Rattle.eris_law_epoch.specs.Members.{In}
use Rattle.eris_law_calm.proofs.Moving.{Keeps}
use Rattle.eris_law_calm_step.proofs.Counting.{keeps_with}

-- a later world's history has what this one's has
abbrev pub Grows : WorldState → WorldState → Type 0
Grows world next = Keeps world.history next.history

client_grows : (config : ConfigValue) (world : WorldState) (client : ClientId) (act : ClientIdentity → ClientState → ClientOut) (found : Option ClientState) → Grows world (client_acts_by config world client act found)
unfolding after_client with_sends
client_grows config world client act None event i = i
client_grows config world client act (Some state) event i = keeps_with world.history (act (record { config = config; client = client }) state).event event i

acts_grow : (config : ConfigValue) (world : WorldState) (client : ClientId) (act : ClientIdentity → ClientState → ClientOut) → Grows world (client_acts config world client act)
unfolding client_acts
acts_grow config world client act = client_grows config world client act (client_at world.clients client)

replica_grows : (config : ConfigValue) (world : WorldState) (shard : ShardId) (replica : ReplicaId) (input : ReplicaInput) (found : Option ReplicaState) → Grows world (replica_steps config world shard replica input found)
unfolding after_replica with_sends
replica_grows config world shard replica input None event i = i
replica_grows config world shard replica input (Some state) event i = i

takes_grow : (config : ConfigValue) (world : WorldState) (shard : ShardId) (replica : ReplicaId) (input : ReplicaInput) → Grows world (replica_takes config world shard replica input)
unfolding replica_takes
takes_grow config world shard replica input =
    cond_both (has_crashed world shard replica) world (replica_steps config world shard replica input (replica_at world.replicas shard replica)) (λ next. Grows world next) (λ h event i. i)
    (λ h. replica_grows config world shard replica input (replica_at world.replicas shard replica))

comes_grow : (config : ConfigValue) (world : WorldState) (epoch : Option Epoch) (node : Node) (message : Message) → Grows world (comes_to config world epoch node message)
unfolding sequencer_takes after_sequencer coordinator_takes after_coordinator with_sends
comes_grow config world epoch Sequencer message event i = i
comes_grow config world epoch Coordinator message event i = i
comes_grow config world epoch (Replica shard replica) message event i = takes_grow config world shard replica (ReplicaInput.Message message) event i
comes_grow config world epoch (Client client) message event i = acts_grow config world client _ event i

arrives_grow : (config : ConfigValue) (world : WorldState) (epoch : Option Epoch) (found : Option Outgoing) → Grows world (arrives config world epoch found)
arrives_grow config world epoch None event i = i
arrives_grow config world epoch (Some one) event i = comes_grow config world epoch one.to one.message event i

delivers_grow : (config : ConfigValue) (world : WorldState) (number : ℕ) (epoch : Option Epoch) → Grows world (delivers config world number epoch)
unfolding delivers no_longer_waiting
delivers_grow config world number epoch event i = arrives_grow config (no_longer_waiting world number) epoch (slice_get world.sent number) event i

flows_grow : (config : ConfigValue) (world : WorldState) (waiting : List ℕ) → Grows world (flows config world waiting)
flows_grow config world [] event i = i
flows_grow config world (number ∷ numbers) event i = delivers_grow config world number None event i

loses_grow : (world : WorldState) (waiting : List ℕ) → Grows world (loses world waiting)
unfolding no_longer_waiting
loses_grow world [] event i = i
loses_grow world (number ∷ numbers) event i = i

aborts_grow : (config : ConfigValue) (world : WorldState) (asker : ClientId) (id : TxnId) (plan : Option PlanValue) → Grows world (aborts_plan config world asker id plan)
aborts_grow config world asker id None event i = i
aborts_grow config world asker id (Some plan) event i = acts_grow config world asker _ event i

-- an event
happens_grow : (config : ConfigValue) (world : WorldState) (event : Event) → Grows world (happens config world event)
unfolding happens coordinator_takes after_coordinator with_sends
happens_grow config world (Event.Submit client ops) = acts_grow config world client _
happens_grow config world (Event.General client plan) = acts_grow config world client _
happens_grow config world (Event.Retry client number) = acts_grow config world client _
happens_grow config world (Event.Abort asker id) = aborts_grow config world asker id (plan_of_transaction (submitted_at world id))
happens_grow config world (Event.Deliver packet epoch) = delivers_grow config world packet epoch
happens_grow config world Event.Flow = flows_grow config world world.waiting
happens_grow config world Event.Lose = loses_grow world world.waiting
happens_grow config world (Event.Probe shard replica) = takes_grow config world shard replica ReplicaInput.Probe
happens_grow config world (Event.Suspect shard replica) = takes_grow config world shard replica ReplicaInput.Suspect
happens_grow config world (Event.Sync shard replica) = takes_grow config world shard replica ReplicaInput.Sync
happens_grow config world (Event.Crash shard replica) = λ event i. i
happens_grow config world Event.Nudge = λ event i. i
happens_grow config world Event.Replace = λ event i. i
happens_grow config world (Event.Noise node bytes) = λ event i. i

-- AND A RUN
pub run_grows : (config : ConfigValue) (world : WorldState) (events : List Event) (last : WorldState) → run_from config (Some world) events ≡ Some last → Grows world last
unfolding run_from
run_grows config world [] last h = let same : world ≡ last = cc in λ event i. subst (λ (w : WorldState). In event w.history) same i
run_grows config world (event ∷ events) last h = by_next (world_after config world event) refl h (λ next k. run_grows config next events last k)
  where
    by_next : (next : Option WorldState) → world_after config world event ≡ next → run_from config next events ≡ Some last → ((next : WorldState) → run_from config (Some next) events ≡ Some last → Grows next last) → Grows world last
    by_next None e k rest = absurd (none_run config events last k)
    by_next (Some next) e k rest = λ one i. rest next k one (subst (λ (w : WorldState). In one w.history) (taken config world next event e) (happens_grow config world event one i))
