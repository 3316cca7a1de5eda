-- LOCALITY: after a run a replica's state is the fold of its own steps over what its own events brought to it,
-- whatever happened elsewhere in between.
use Rattle.std.proofs.Common.{◌≡◌, inl, inr, ℕ, zero, suc, List, [], ◌∷◌, Bool, true, false, cond, ◌==◌, Option, Some, None, option_map, refl, sym, ap, ◌∙◌, subst}
use Rattle.std.specs.Prelude.{slice_get}
use Rattle.std.proofs.lemmas.Bool.{cases_Bool, and_parts, eqb-true, and_from}
use Rattle.eris_base.specs.declared.ids.ClientId.{ClientId}
use Rattle.eris_base.specs.declared.ids.Epoch.{Epoch}
use Rattle.eris_base.specs.declared.ids.Node.{Node}
use Rattle.eris_base.specs.declared.ids.Node.TheVariants.{Sequencer, Coordinator, Replica, Client}
use Rattle.eris_base.specs.declared.ids.ReplicaId.{ReplicaId}
use Rattle.eris_base.specs.declared.ids.ShardId.{ShardId}
use Rattle.eris_base.specs.declared.ids.TxnId.{TxnId}
use Rattle.eris_base.specs.ConfigLimits.{ConfigValue}
use Rattle.eris_base.proofs.Booleans.{number_self}
use Rattle.eris_base.proofs.IdLaws.{shard_equal}
use Rattle.eris_txn.specs.PlanValues.{PlanValue}
use Rattle.eris_msg.specs.declared.message.Message.{Message}
use Rattle.eris_msg.specs.declared.outgoing.Outgoing.{Outgoing}
use Rattle.eris_event.specs.declared.event.Event.{Event}
use Rattle.eris_rules.specs.declared.replica_input.ReplicaInput.{ReplicaInput}
use Rattle.eris_rules.specs.ClientStates.{ClientIdentity, ClientState, ClientOut}
use Rattle.eris_rules.specs.Happenings.{after_replica, replica_steps, replica_takes, after_coordinator, coordinator_takes, after_sequencer, sequencer_takes, after_client, client_acts_by, client_acts, comes_to, arrives, delivers, flows, loses, plan_of_transaction, submitted_at, aborts_plan, happens}
use Rattle.eris_rules.specs.ReplicaStates.{ReplicaState}
use Rattle.eris_rules.specs.Replicas.{replica_step}
use Rattle.eris_rules.specs.Worlds.{WorldState, first_world, replica_at, client_at, has_crashed, with_sends, no_longer_waiting}
use Rattle.eris_law_epoch.proofs.Frame.{replica_equal}
use Rattle.eris_law_agreement.specs.OwnSteps.{lowest, is_it, brought, replica_hears, hears, input_of, after_input, input_now, own_steps}
use Rattle.eris_law_agreement.specs.WorldMoments.{perhaps, moment_from, world_at}
use Rattle.eris_law_agreement.proofs.Cells.{cell, cell-same}

map_same : {X : Type 0} (x : Option X) → option_map (λ y. y) x ≡ x
map_same None = refl
map_same (Some x) = refl

module _ (config : ConfigValue) (shard : ShardId) (replica : ReplicaId) where
  -- the replica after the event is as its input says
  Local : WorldState → WorldState → Option ReplicaInput → Type 0
  Local world after input = replica_at after.replicas shard replica ≡ option_map (after_input config shard replica input) (replica_at world.replicas shard replica)

  untouched : (world after : WorldState) → after.replicas ≡ world.replicas → Local world after None
  unfolding Local
  untouched world after e = ap (λ rows. replica_at rows shard replica) e ∙ sym (map_same (replica_at world.replicas shard replica))

  -- a crashed replica's input is none, and so it stays
  own_step : (world : WorldState) (input : ReplicaInput) (found : Option ReplicaState) → replica_at world.replicas shard replica ≡ found
      → replica_at (replica_steps config world shard replica input found).replicas shard replica ≡ option_map (after_input config shard replica (Some input)) found
  unfolding after_replica with_sends
  own_step world input None h = h
  own_step world input (Some state) h = cell-same world.replicas shard replica state _ h

  other_step : (world : WorldState) (a : ShardId) (b : ReplicaId) (input : ReplicaInput) (found : Option ReplicaState) → replica_at world.replicas a b ≡ found → (shard ≡ a → replica ≡ b → ⊥)
      → replica_at (replica_steps config world a b input found).replicas shard replica ≡ replica_at world.replicas shard replica
  unfolding after_replica with_sends
  other_step world a b input None h apart = refl
  other_step world a b input (Some state) h apart = elim (cell world.replicas a b state (replica_step (record { config = config; shard = a; replica = b }) state input).state h shard replica) [ inl e ↦ absurd (apart e.0 e.1) | inr e ↦ e ]

  takes_own : (world : WorldState) (input : ReplicaInput) → Local world (replica_takes config world shard replica input) (cond (has_crashed world shard replica) None (Some input))
  unfolding Local replica_takes
  takes_own world input = by_crash (has_crashed world shard replica)
    where
      by_crash : (b : Bool) → replica_at (cond b world (replica_steps config world shard replica input (replica_at world.replicas shard replica))).replicas shard replica
          ≡ option_map (after_input config shard replica (cond b None (Some input))) (replica_at world.replicas shard replica)
      by_crash true = sym (map_same (replica_at world.replicas shard replica))
      by_crash false = own_step world input (replica_at world.replicas shard replica) refl

  takes_other : (world : WorldState) (a : ShardId) (b : ReplicaId) (input : ReplicaInput) → (shard ≡ a → replica ≡ b → ⊥) → Local world (replica_takes config world a b input) (cond (has_crashed world shard replica) None None)
  unfolding Local replica_takes
  takes_other world a b input apart = by_crash (has_crashed world a b) ∙ sym (none (has_crashed world shard replica))
    where
      by_crash : (c : Bool) → replica_at (cond c world (replica_steps config world a b input (replica_at world.replicas a b))).replicas shard replica ≡ replica_at world.replicas shard replica
      by_crash true = refl
      by_crash false = other_step world a b input (replica_at world.replicas a b) refl apart

      none : (c : Bool) → option_map (after_input config shard replica (cond c None None)) (replica_at world.replicas shard replica) ≡ replica_at world.replicas shard replica
      none true = map_same (replica_at world.replicas shard replica)
      none false = map_same (replica_at world.replicas shard replica)

  not_it : (a : ShardId) (b : ReplicaId) → is_it shard replica a b ≡ false → shard ≡ a → replica ≡ b → ⊥
  not_it a b apart s r =
      let one : (a.0 == shard.0) ≡ true = ap (λ (x : ShardId). a.0 == x.0) s ∙ number_self a.0 in
      let two : (b.0 == replica.0) ≡ true = ap (λ (x : ReplicaId). b.0 == x.0) r ∙ number_self b.0 in
      let both : is_it shard replica a b ≡ true = and_from _ _ one two in
      absurd (cc)

  takes : (world : WorldState) (a : ShardId) (b : ReplicaId) (input : ReplicaInput) → Local world (replica_takes config world a b input) (cond (has_crashed world shard replica) None (brought shard replica a b input))
  takes world a b input = elim (cases_Bool (is_it shard replica a b)) [ inl same ↦ here same | inr apart ↦ there apart ]
    where
      here : is_it shard replica a b ≡ true → Local world (replica_takes config world a b input) (cond (has_crashed world shard replica) None (brought shard replica a b input))
      here same =
          let s : a ≡ shard = shard_equal a shard (eqb-true a.0 shard.0 (and_parts (a.0 == shard.0) (b.0 == replica.0) same).0) in
          let r : b ≡ replica = replica_equal b replica (eqb-true b.0 replica.0 (and_parts (a.0 == shard.0) (b.0 == replica.0) same).1) in
          subst (λ t. Local world (replica_takes config world a b input) (cond (has_crashed world shard replica) None (cond t (Some input) None))) (sym same)
          (subst (λ x. Local world (replica_takes config world x b input) (cond (has_crashed world shard replica) None (Some input))) (sym s)
          (subst (λ y. Local world (replica_takes config world shard y input) (cond (has_crashed world shard replica) None (Some input))) (sym r) (takes_own world input)))

      there : is_it shard replica a b ≡ false → Local world (replica_takes config world a b input) (cond (has_crashed world shard replica) None (brought shard replica a b input))
      there apart =
          subst (λ t. Local world (replica_takes config world a b input) (cond (has_crashed world shard replica) None (cond t (Some input) None))) (sym apart)
          (takes_other world a b input (λ s r. not_it a b apart s r))

  -- ---- each event
  quiet : (world after : WorldState) → after.replicas ≡ world.replicas → Local world after (cond (has_crashed world shard replica) None None)
  quiet world after e = by_crash (has_crashed world shard replica)
    where
      by_crash : (c : Bool) → Local world after (cond c None None)
      by_crash true = untouched world after e
      by_crash false = untouched world after e

  acts_by : (world : WorldState) (client : ClientId) (act : ClientIdentity → ClientState → ClientOut) (found : Option ClientState) → Local world (client_acts_by config world client act found) (cond (has_crashed world shard replica) None None)
  unfolding after_client with_sends
  acts_by world client act None = quiet world world refl
  acts_by world client act (Some state) = quiet world _ refl

  acts : (world : WorldState) (client : ClientId) (act : ClientIdentity → ClientState → ClientOut) → Local world (client_acts config world client act) (cond (has_crashed world shard replica) None None)
  unfolding client_acts
  acts world client act = acts_by world client act (client_at world.clients client)

  comes : (world : WorldState) (epoch : Option Epoch) (node : Node) (message : Message)
      → Local world (comes_to config world epoch node message) (cond (has_crashed world shard replica) None (replica_hears shard replica node message))
  unfolding sequencer_takes after_sequencer with_sends coordinator_takes after_coordinator
  comes world epoch Sequencer message = quiet world _ refl
  comes world epoch Coordinator message = quiet world _ refl
  comes world epoch (Replica a b) message = takes world a b (ReplicaInput.Message message)
  comes world epoch (Client client) message = acts world client _

  arrived : (world : WorldState) (epoch : Option Epoch) (found : Option Outgoing) → Local world (arrives config world epoch found) (cond (has_crashed world shard replica) None (hears shard replica found))
  arrived world epoch None = quiet world world refl
  arrived world epoch (Some one) = comes world epoch one.to one.message

  delivered : (world : WorldState) (number : ℕ) (epoch : Option Epoch) → Local world (delivers config world number epoch) (cond (has_crashed world shard replica) None (hears shard replica (slice_get world.sent number)))
  unfolding delivers no_longer_waiting Local has_crashed
  delivered world number epoch = arrived (no_longer_waiting world number) epoch (slice_get world.sent number)

  flowed : (world : WorldState) (waiting : List ℕ) → Local world (flows config world waiting) (cond (has_crashed world shard replica) None (hears shard replica (lowest world waiting)))
  flowed world [] = quiet world world refl
  flowed world (number ∷ numbers) = delivered world number None

  lost : (world : WorldState) (waiting : List ℕ) → Local world (loses world waiting) (cond (has_crashed world shard replica) None None)
  unfolding no_longer_waiting
  lost world [] = quiet world world refl
  lost world (number ∷ numbers) = quiet world _ refl

  aborted : (world : WorldState) (asker : ClientId) (id : TxnId) (plan : Option PlanValue) → Local world (aborts_plan config world asker id plan) (cond (has_crashed world shard replica) None None)
  aborted world asker id None = quiet world world refl
  aborted world asker id (Some plan) = acts world asker _

  -- ONE EVENT changes a replica as its input says, and no other way
  pub one_event : (world : WorldState) (event : Event) → replica_at (happens config world event).replicas shard replica ≡ option_map (after_input config shard replica (input_of world event shard replica)) (replica_at world.replicas shard replica)
  unfolding happens input_of Local coordinator_takes after_coordinator with_sends
  one_event world (Event.Submit client ops) = acts world client _
  one_event world (Event.General client plan) = acts world client _
  one_event world (Event.Retry client number) = acts world client _
  one_event world (Event.Abort asker id) = aborted world asker id (plan_of_transaction (submitted_at world id))
  one_event world (Event.Deliver packet epoch) = delivered world packet epoch
  one_event world Event.Flow = flowed world world.waiting
  one_event world Event.Lose = lost world world.waiting
  one_event world (Event.Probe a b) = takes world a b ReplicaInput.Probe
  one_event world (Event.Suspect a b) = takes world a b ReplicaInput.Suspect
  one_event world (Event.Sync a b) = takes world a b ReplicaInput.Sync
  one_event world (Event.Crash a b) = quiet world (happens config world (Event.Crash a b)) refl
  one_event world Event.Nudge = quiet world (happens config world Event.Nudge) refl
  one_event world Event.Replace = quiet world (happens config world Event.Replace) refl
  one_event world (Event.Noise node bytes) = quiet world world refl

  map_map : (f g : ReplicaState → ReplicaState) (x : Option ReplicaState) → option_map f (option_map g x) ≡ option_map (λ y. f (g y)) x
  map_map f g None = refl
  map_map f g (Some x) = refl

  now : (world : WorldState) (event : Option Event) → replica_at (perhaps config world event).replicas shard replica ≡ option_map (after_input config shard replica (input_now world event shard replica)) (replica_at world.replicas shard replica)
  now world None = sym (map_same (replica_at world.replicas shard replica))
  now world (Some event) = one_event world event

  -- AFTER A RUN it is the fold of its own steps
  pub local : (events : List Event) (number : ℕ) → replica_at (world_at config events number).replicas shard replica ≡ option_map (own_steps config events shard replica number) (replica_at (first_world config).replicas shard replica)
  unfolding moment_from own_steps
  local events zero = sym (map_same (replica_at (first_world config).replicas shard replica))
  local events (suc number) =
      now (world_at config events number) (slice_get events number)
      ∙ ap (option_map (after_input config shard replica (input_now (world_at config events number) (slice_get events number) shard replica))) (local events number)
      ∙ map_map _ _ (replica_at (first_world config).replicas shard replica)
