-- Each stamped packet was asked for: an event adds to the stamping list at most the packet of an Ask that was sent.
use Rattle.std.proofs.Common.{◌≡◌, ◌⊎◌, inl, inr, ℕ, zero, suc, ◌+◌, Bool, true, false, cond, List, [], ◌∷◌, ◌++◌, Option, Some, None, refl, sym, subst, is_some}
use Rattle.std.specs.Option.{option_map}
use Rattle.std.specs.Prelude.{slice_get, slice_set, unwrap_or, find, ◌==◌, ◌||◌}
use Rattle.std.proofs.lemmas.Bool.{cond_both}
use Rattle.eris_base.specs.declared.ids.ClientId.{ClientId}
use Rattle.eris_base.specs.declared.ids.Epoch.{Epoch}
use Rattle.eris_base.specs.declared.ids.Node.{Node}
use Rattle.eris_base.specs.declared.ids.Node.TheVariants.{Sequencer, Coordinator, Replica, Client}
use Rattle.eris_base.specs.declared.ids.ReplicaId.{ReplicaId}
use Rattle.eris_base.specs.declared.ids.ShardId.{ShardId}
use Rattle.eris_base.specs.declared.ids.TxnId.{TxnId}
use Rattle.eris_base.specs.ConfigLimits.{ConfigValue}
use Rattle.eris_base.specs.Places.{number_in}
use Rattle.eris_txn.specs.declared.body.Body.{Body}
use Rattle.eris_txn.specs.declared.packet.Packet.{Packet}
use Rattle.eris_txn.specs.Bodies.{has_shard, participants_of}
use Rattle.eris_txn.specs.PlanValues.{PlanValue}
use Rattle.eris_locks.specs.Shards.{names_shard}
use Rattle.eris_msg.specs.declared.message.Message.{Message}
use Rattle.eris_msg.specs.declared.outgoing.Outgoing.{Outgoing}
use Rattle.eris_event.specs.declared.event.Event.{Event}
use Rattle.eris_sequencer.specs.declared.stamping.Stamping.{Stamping}
use Rattle.eris_sequencer.specs.SequencerValues.{SequencerValue}
use Rattle.eris_sequencer.specs.Asks.{stamp_message, asked_by, ask}
use Rattle.eris_sequencer.specs.Sequencers.{newest_of, new_stamping, replace, is_in_place, stamp_at, no_stamp, stamp_by, stamp, Stamped}
use Rattle.eris_sequencer.specs.Stamps.{is_full, next_packet, next_places, next_stamp, stamped_next, counter_of}
use Rattle.eris_rules.specs.declared.coord_input.CoordInput.{CoordInput}
use Rattle.eris_rules.specs.declared.replica_input.ReplicaInput.{ReplicaInput}
use Rattle.eris_rules.specs.ClientStates.{ClientIdentity, ClientState, ClientOut}
use Rattle.eris_rules.specs.Happenings.{after_replica, replica_steps, replica_takes, after_coordinator, coordinator_takes, after_sequencer, sequencer_takes, after_client, client_acts_by, client_acts, comes_to, arrives, delivers, flows, loses, plan_of_transaction, submitted_at, aborts_plan, happens}
use Rattle.eris_rules.specs.ReplicaStates.{ReplicaState}
use Rattle.eris_rules.specs.WorldOrders.{stamping_list}
use Rattle.eris_rules.specs.Worlds.{WorldState, replica_at, client_at, has_crashed, with_sends, no_longer_waiting}
use Rattle.eris_law_epoch.specs.Members.{In}
use Rattle.eris_law_epoch.proofs.Members.{In-append, In-get, In-left, In-right}

-- ---- the stamping list
put-In : (stampings : List Stamping) (n : ℕ) (made : Stamping) (packet : Packet) → In packet (stamping_list (slice_set stampings n made)) → In packet (stamping_list stampings) ⊎ In packet made.stamped
unfolding stamping_list
put-In [] n made packet i = inl i
put-In (one ∷ stampings) zero made packet i = elim (In-append packet made.stamped (stamping_list stampings) i) [
  | inl new ↦ inr new
  | inr old ↦ inl (In-right packet one.stamped (stamping_list stampings) old)
]
put-In (one ∷ stampings) (suc n) made packet i = elim (In-append packet one.stamped (stamping_list (slice_set stampings n made)) i) [
  | inl first ↦ inl (In-left packet one.stamped (stamping_list stampings) first)
  | inr later ↦ elim (put-In stampings n made packet later) [
    | inl old ↦ inl (In-right packet one.stamped (stamping_list stampings) old)
    | inr new ↦ inr new
  ]
]

stamping-In : (stampings : List Stamping) (n : ℕ) (stamping : Stamping) (packet : Packet) → slice_get stampings n ≡ Some stamping → In packet stamping.stamped → In packet (stamping_list stampings)
unfolding stamping_list
stamping-In [] n stamping packet h i = absurd (cc)
stamping-In (one ∷ stampings) zero stamping packet h i =
    let e : one ≡ stamping = cc in
    In-left packet one.stamped (stamping_list stampings) (subst (λ (s : Stamping). In packet s.stamped) (sym e) i)
stamping-In (one ∷ stampings) (suc n) stamping packet h i = In-right packet one.stamped (stamping_list stampings) (stamping-In stampings n stamping packet h i)

more-In : (stampings : List Stamping) (more : Stamping) (packet : Packet) → more.stamped ≡ [] → In packet (stamping_list (stampings ++ more ∷ [])) → In packet (stamping_list stampings)
unfolding stamping_list
more-In [] more packet none i = elim (In-append packet more.stamped [] i) [ inl new ↦ subst (In packet) none new | inr never ↦ never ]
more-In (one ∷ stampings) more packet none i = elim (In-append packet one.stamped (stamping_list (stampings ++ more ∷ [])) i) [
  | inl first ↦ In-left packet one.stamped (stamping_list stampings) first
  | inr later ↦ In-right packet one.stamped (stamping_list stampings) (more-In stampings more packet none later)
]

-- ---- a packet that is stamped now
pub record IsStampedNow (sent : List Outgoing) (packet : Packet) : Type 0 where
  pub asker : ClientId
  pub id : TxnId
  pub body : Body
  pub asked : In (record { to = Sequencer; message = Message.Ask asker id body }) sent
  pub sequencer : SequencerValue
  pub is : packet ≡ next_packet sequencer id asker body

-- what an event adds to a stamping list
abbrev pub Adds : List Outgoing → List Stamping → List Stamping → Type 0
Adds sent before after = (packet : Packet) → In packet (stamping_list after) → In packet (stamping_list before) ⊎ IsStampedNow sent packet

module _ (config : ConfigValue) where
  Goes : WorldState → WorldState → Type 0
  Goes world after = (packet : Packet) → In packet (stamping_list after.stampings) → In packet (stamping_list world.stampings) ⊎ IsStampedNow world.sent packet

  same : (world after : WorldState) → after.stampings ≡ world.stampings → Goes world after
  unfolding Goes
  same world after e = λ packet i. inl (subst (λ (l : List Stamping). In packet (stamping_list l)) e i)

  -- ---- the sequencers
  ToStamped : WorldState → Stamped → Type 0
  ToStamped world made = (packet : Packet) → In packet (stamping_list made.stampings) → In packet (stamping_list world.stampings) ⊎ IsStampedNow world.sent packet

  no_stamped : (world : WorldState) → ToStamped world (no_stamp world.stampings)
  unfolding ToStamped no_stamp
  no_stamped world = λ packet i. inl i

  made_stamp : (world : WorldState) (epoch : Epoch) (stamping : Stamping) (asker : ClientId) (id : TxnId) (body : Body) → slice_get world.stampings epoch.0 ≡ Some stamping
      → In (record { to = Sequencer; message = Message.Ask asker id body }) world.sent → ToStamped world (stamp_at world.stampings epoch stamping asker id body)
  unfolding ToStamped stamp_at stamped_next
  made_stamp world epoch stamping asker id body h asked = λ packet i. elim (put-In world.stampings epoch.0 (stamped_next stamping id asker body) packet i) [
    | inl old ↦ inl old
    | inr new ↦ elim (In-append packet stamping.stamped (next_packet stamping.sequencer id asker body ∷ []) new) [
      | inl old ↦ inl (stamping-In world.stampings epoch.0 stamping packet h old)
      | inr own ↦ elim own [
        | inl is ↦ inr (record { asker = asker; id = id; body = body; asked = asked; sequencer = stamping.sequencer; is = is })
        | inr never ↦ absurd never
      ]
    ]
  ]

  stamped_by : (world : WorldState) (epoch : Epoch) (asker : ClientId) (id : TxnId) (body : Body) (found : Option Stamping) → slice_get world.stampings epoch.0 ≡ found
      → In (record { to = Sequencer; message = Message.Ask asker id body }) world.sent → ToStamped world (stamp_by world.stampings epoch found asker id body)
  unfolding stamp_by
  stamped_by world epoch asker id body None h asked = no_stamped world
  stamped_by world epoch asker id body (Some stamping) h asked =
      cond_both (is_full stamping.sequencer.counters (participants_of body)) _ _ (ToStamped world) (λ full. no_stamped world) (λ free. made_stamp world epoch stamping asker id body h asked)

  stamped_asked : (world : WorldState) (epoch : Epoch) (message : Message) → In (record { to = Sequencer; message = message }) world.sent → ToStamped world (stamp_message config world.stampings epoch message)
  unfolding stamp_message stamp
  stamped_asked world epoch (Message.Ask asker id body) asked = cond_both (is_in_place config asker id body) _ _ (ToStamped world)
      (λ ok. stamped_by world epoch asker id body (slice_get world.stampings epoch.0) refl asked) (λ out. no_stamped world)
  stamped_asked world epoch message asked = no_stamped world

  sequencer : (world : WorldState) (epoch : Epoch) (message : Message) → In (record { to = Sequencer; message = message }) world.sent → Goes world (sequencer_takes config world epoch message)
  unfolding Goes sequencer_takes after_sequencer with_sends ask asked_by ToStamped
  sequencer world epoch message asked = stamped_asked world epoch message asked

  -- ---- all others
  acts_by : (world : WorldState) (client : ClientId) (act : ClientIdentity → ClientState → ClientOut) (found : Option ClientState) → Goes world (client_acts_by config world client act found)
  unfolding after_client with_sends
  acts_by world client act None = same world world refl
  acts_by world client act (Some state) = same world _ refl

  acts : (world : WorldState) (client : ClientId) (act : ClientIdentity → ClientState → ClientOut) → Goes world (client_acts config world client act)
  unfolding client_acts
  acts world client act = acts_by world client act (client_at world.clients client)

  replica_by : (world : WorldState) (shard : ShardId) (replica : ReplicaId) (input : ReplicaInput) (found : Option ReplicaState) → Goes world (replica_steps config world shard replica input found)
  unfolding after_replica with_sends
  replica_by world shard replica input None = same world world refl
  replica_by world shard replica input (Some state) = same world _ refl

  replica_does : (world : WorldState) (shard : ShardId) (replica : ReplicaId) (input : ReplicaInput) → Goes world (replica_takes config world shard replica input)
  unfolding replica_takes
  replica_does world shard replica input = cond_both (has_crashed world shard replica) world _ (Goes world) (λ h. same world world refl) (λ h. replica_by world shard replica input (replica_at world.replicas shard replica))

  coordinator : (world : WorldState) (input : CoordInput) → Goes world (coordinator_takes config world input)
  unfolding coordinator_takes after_coordinator with_sends
  coordinator world input = same world _ refl

  comes : (world : WorldState) (epoch : Option Epoch) (node : Node) (message : Message) → In (record { to = node; message = message }) world.sent → Goes world (comes_to config world epoch node message)
  comes world epoch Sequencer message i = sequencer world (unwrap_or epoch (newest_of world.stampings)) message i
  comes world epoch Coordinator message i = coordinator world (CoordInput.Message message)
  comes world epoch (Replica s r) message i = replica_does world s r (ReplicaInput.Message message)
  comes world epoch (Client client) message i = acts world client _

  arrived : (world : WorldState) (epoch : Option Epoch) (number : ℕ) (found : Option Outgoing) → slice_get world.sent number ≡ found → Goes world (arrives config world epoch found)
  arrived world epoch number None h = same world world refl
  arrived world epoch number (Some one) h = comes world epoch one.to one.message (In-get one world.sent number h)

  delivered : (world : WorldState) (number : ℕ) (epoch : Option Epoch) → Goes world (delivers config world number epoch)
  unfolding Goes delivers no_longer_waiting
  delivered world number epoch = arrived (no_longer_waiting world number) epoch number (slice_get world.sent number) refl

  flowed : (world : WorldState) (waiting : List ℕ) → Goes world (flows config world waiting)
  flowed world [] = same world world refl
  flowed world (number ∷ numbers) = delivered world number None

  lost : (world : WorldState) (waiting : List ℕ) → Goes world (loses world waiting)
  unfolding no_longer_waiting
  lost world [] = same world world refl
  lost world (number ∷ numbers) = same world _ refl

  aborted : (world : WorldState) (asker : ClientId) (id : TxnId) (plan : Option PlanValue) → Goes world (aborts_plan config world asker id plan)
  aborted world asker id None = same world world refl
  aborted world asker id (Some plan) = acts world asker _

  replaced : (world : WorldState) → Goes world (record world { stampings = replace config world.stampings })
  unfolding Goes replace new_stamping
  replaced world = λ packet i. inl (more-In world.stampings _ packet refl i)

  -- EACH EVENT
  goes : (world : WorldState) (event : Event) → Goes world (happens config world event)
  unfolding happens
  goes world (Event.Submit client ops) = acts world client _
  goes world (Event.General client plan) = acts world client _
  goes world (Event.Retry client number) = acts world client _
  goes world (Event.Abort asker id) = aborted world asker id (plan_of_transaction (submitted_at world id))
  goes world (Event.Deliver packet epoch) = delivered world packet epoch
  goes world Event.Flow = flowed world world.waiting
  goes world Event.Lose = lost world world.waiting
  goes world (Event.Probe s r) = replica_does world s r ReplicaInput.Probe
  goes world (Event.Suspect s r) = replica_does world s r ReplicaInput.Suspect
  goes world (Event.Sync s r) = replica_does world s r ReplicaInput.Sync
  goes world (Event.Crash s r) = same world (happens config world (Event.Crash s r)) refl
  goes world Event.Nudge = coordinator world CoordInput.Nudge
  goes world Event.Replace = replaced world
  goes world (Event.Noise node bytes) = same world world refl

  pub adds : (world : WorldState) (event : Event) → Adds world.sent world.stampings (happens config world event).stampings
  unfolding Goes
  adds world event = goes world event

-- ---- the shards that a stamp names
number-next : (counters : List ℕ) (shards : List ShardId) (shard : ShardId) → is_some (number_in (next_places counters shards) shard) ≡ has_shard shards shard
unfolding next_places
number-next counters [] shard = refl
number-next counters (one ∷ shards) shard = by_test (one.0 == shard.0) (number-next counters shards shard)
  where
    by_test : (b : Bool) → is_some (number_in (next_places counters shards) shard) ≡ has_shard shards shard
        → is_some (option_map (λ (place : ShardId × ℕ). place.1) (cond b (Some (one, counter_of counters one + 1)) (find (λ (place : ShardId × ℕ). place.0.0 == shard.0) (next_places counters shards)))) ≡ (b || has_shard shards shard)
    by_test true rest = refl
    by_test false rest = rest

pub next-names : (sequencer : SequencerValue) (id : TxnId) (asker : ClientId) (body : Body) (shard : ShardId) → names_shard shard (next_packet sequencer id asker body) ≡ has_shard (participants_of body) shard
unfolding next_packet next_stamp
next-names sequencer id asker body shard = number-next sequencer.counters (participants_of body) shard
