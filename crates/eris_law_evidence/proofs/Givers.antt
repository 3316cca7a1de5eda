-- Who gave an answer: each message to a client that was sent in a run was sent by a replica, in a step within the epoch
-- that it was in. It is told of the whole run, since a late answer names no epoch.
use Rattle.std.proofs.Common.{◌≡◌, ◌⊎◌, inl, inr, ℕ, zero, suc, ◌<◌, List, [], ◌∷◌, ◌++◌, Option, Some, None, refl, sym, ap, ◌∙◌, arith}
use Rattle.std.specs.List.{range_with_len}
use Rattle.eris_base.specs.declared.ids.Epoch.{Epoch}
use Rattle.eris_base.specs.declared.ids.Node.{Node}
use Rattle.eris_base.specs.declared.ids.ReplicaId.{ReplicaId}
use Rattle.eris_base.specs.declared.ids.ShardId.{ShardId}
use Rattle.eris_base.specs.ConfigLimits.{ConfigValue}
use Rattle.eris_base.specs.Each.{Each}
use Rattle.eris_base.proofs.Each.{Each-weaker, Each-any}
use Rattle.eris_msg.specs.declared.message.Message.{Message}
use Rattle.eris_msg.specs.declared.outgoing.Outgoing.{Outgoing}
use Rattle.eris_event.specs.declared.event.Event.{Event}
use Rattle.eris_rules.specs.declared.replica_input.ReplicaInput.{ReplicaInput}
use Rattle.eris_rules.specs.Addressees.{shard_replicas, all_replicas}
use Rattle.eris_rules.specs.Coordinators.{after_closing, coord_steps_in, start_of, starts, raises_target, starts_shard, starts_all, closes}
use Rattle.eris_rules.specs.CoordStates.{CoordState, CoordOut}
use Rattle.eris_rules.specs.EpochCoords.{epoch_coord_step, nudge_row}
use Rattle.eris_rules.specs.EpochMessages.{EpochMessage, EpochSend, Stamped, Instructs, Notifies, Exchanges, Responds, Request, Found, Dropped, Find, Has, TempDropped, ViewChange, StartView, SyncAsk, Ack, Settled, Response, Vouch, Reply, Late}
use Rattle.eris_rules.specs.EpochReplicas.{EpochInput, epoch_step}
use Rattle.eris_rules.specs.Outer.{outer, outer_sends, tell_each}
use Rattle.eris_rules.specs.ReplicaStates.{ReplicaState, ReplicaOut}
use Rattle.eris_rules.specs.Replicas.{member, steps, steps_in, asks_start, promises}
use Rattle.eris_rules.specs.Worlds.{first_world, replica_at}
use Rattle.eris_law_epoch.specs.Causes.{CoordSays}
use Rattle.eris_law_epoch.specs.Members.{In}
use Rattle.eris_law_epoch.proofs.Coords.{right_coord, right_nudge}
use Rattle.eris_law_epoch.proofs.Members.{OfMessage, Each-at, Each-flat_map, In-append}
use Rattle.eris_law_agreement.specs.Alone.{state_of}
use Rattle.eris_law_agreement.specs.EpochRuns.{servers_at}
use Rattle.eris_law_agreement.specs.Servers.{Servers}
use Rattle.eris_law_agreement.specs.WorldMoments.{moment_from}
use Rattle.eris_law_agreement.proofs.Cells.{state-same}
use Rattle.eris_law_agreement.proofs.ClientAsks.{IsAsk}
use Rattle.eris_law_agreement.proofs.CoordLeaves.{CoordLeaf, noting}
use Rattle.eris_law_agreement.proofs.EpochGrowth.{each_told, each_packet_send}
use Rattle.eris_law_agreement.proofs.Moves.{Move, Rests, ReplicaMoves, CoordinatorMoves, AsksAgain, Stamps, Replaces, Asks, replica_moved, coordinator_moved, me_at, next_move}
use Rattle.eris_law_agreement.proofs.ReplicaLeaves.{ReplicaLeaf}

-- what a message says to a client, if it says something
abbrev pub response_in : Message → Option Response
response_in (Message.Vouch view shard replica stamp id phase) = Some (Vouch view shard replica stamp id phase)
response_in (Message.Reply view shard replica stamp id phase answer) = Some (Reply view shard replica stamp id phase answer)
response_in (Message.Late shard replica id phase answer) = Some (Late shard replica id phase answer)
response_in message = None

-- none of these says something to a client
abbrev AnswersNothing : List Outgoing → Type 0
AnswersNothing sends = Each (λ one. response_in one.message ≡ None) sends

no_answer : (to : Node) (message : Message) (response : Response) (sends : List Outgoing) → AnswersNothing sends → In (record { to = to; message = message }) sends → response_in message ≡ Some response → ⊥
no_answer to message response sends none i h =
    let nothing : response_in message ≡ None = Each-at (λ (one : Outgoing). response_in one.message ≡ None) sends (record { to = to; message = message }) none i in
    absurd (cc)

asks_answer_nothing : (message : Message) → IsAsk message → response_in message ≡ None
asks_answer_nothing (Message.Ask asker id body) h = refl
asks_answer_nothing message h = absurd h

-- a response in what is sent for a message of one epoch is that message
response_back : (epoch : Epoch) (message : EpochMessage) (response : Response) → response_in (outer epoch message) ≡ Some response → message ≡ Responds response
response_back epoch (Stamped packet) response h = absurd (cc)
response_back epoch (Instructs (Request place)) response h = absurd (cc)
response_back epoch (Instructs (Found packet)) response h = absurd (cc)
response_back epoch (Instructs (Dropped place)) response h = absurd (cc)
response_back epoch (Notifies (Find replica place)) response h = absurd (cc)
response_back epoch (Notifies (Has packet)) response h = absurd (cc)
response_back epoch (Notifies (TempDropped place shard replica view)) response h = absurd (cc)
response_back epoch (Exchanges (ViewChange replica view part)) response h = absurd (cc)
response_back epoch (Exchanges (StartView view part)) response h = absurd (cc)
response_back epoch (Exchanges (SyncAsk view)) response h = absurd (cc)
response_back epoch (Exchanges (Ack replica view length)) response h = absurd (cc)
response_back epoch (Exchanges (Settled view number places)) response h = absurd (cc)
response_back epoch (Responds (Vouch view shard replica stamp id phase)) response h = let e : Vouch view shard replica stamp id phase ≡ response = cc in ap Responds e
response_back epoch (Responds (Reply view shard replica stamp id phase answer)) response h = let e : Reply view shard replica stamp id phase answer ≡ response = cc in ap Responds e
response_back epoch (Responds (Late shard replica id phase answer)) response h = let e : Late shard replica id phase answer ≡ response = cc in ap Responds e

in_epoch : (epoch : Epoch) (to : Node) (message : Message) (response : Response) (sends : List EpochSend) → response_in message ≡ Some response
    → In (record { to = to; message = message }) (outer_sends epoch sends) → In (record { to = to; message = Responds response }) sends
in_epoch epoch to message response [] h i = absurd i
in_epoch epoch to message response (one ∷ sends) h (inl e) =
    let node : to ≡ one.to = ap (λ (x : Outgoing). x.to) e in
    let is : message ≡ outer epoch one.message = ap (λ (x : Outgoing). x.message) e in
    let back = response_back epoch one.message response (ap response_in (sym is) ∙ h) in
    inl (λ i. record { to = node i; message = sym back i })
in_epoch epoch to message response (one ∷ sends) h (inr i) = inr (in_epoch epoch to message response sends h i)

-- THE GIVER of a response: a replica that sent it in a step within its epoch
pub record Gives (config : ConfigValue) (now after : Servers) (to : Node) (response : Response) : Type 0 where
  pub shard : ShardId
  pub replica : ReplicaId
  pub state : ReplicaState
  pub input : EpochInput
  pub sent : In (record { to = to; message = Responds response }) (epoch_step (member (me_at config shard replica) state) state.inner input).sends
  pub made : state_of after.replicas shard replica ≡ record state { inner = (epoch_step (member (me_at config shard replica) state) state.inner input).state }

module _ (config : ConfigValue) (now : Servers) (to : Node) (message : Message) (response : Response) (is : response_in message ≡ Some response) where
  abbrev one : Outgoing
  one = record { to = to; message = message }

  Given : Servers → Type 0
  Given after = In one now.sent ⊎ Gives config now after to response

  by_old : (after : Servers) (sends : List Outgoing) → (In one sends → ⊥) → In one (now.sent ++ sends) → Given after
  unfolding Given
  by_old after sends none i = elim (In-append one now.sent sends i) [ inl old ↦ inl old | inr new ↦ absurd (none new) ]

  by_silent : (after : Servers) (sends : List Outgoing) → AnswersNothing sends → In one (now.sent ++ sends) → Given after
  by_silent after sends none i = by_old after sends (λ new. no_answer to message response sends none new is) i

  -- ---- a replica
  within : (shard : ShardId) (replica : ReplicaId) (state : ReplicaState) (input : EpochInput) → replica_at now.replicas shard replica ≡ Some state
      → In one (steps (me_at config shard replica) state input).sends → Gives config now (replica_moved now shard replica (steps (me_at config shard replica) state input)) to response
  unfolding steps steps_in
  within shard replica state input found i = record {
    shard = shard;
    replica = replica;
    state = state;
    input = input;
    sent = in_epoch state.epoch to message response _ is i;
    made = state-same now.replicas shard replica state _ found;
  }

  by_replica : (shard : ShardId) (replica : ReplicaId) (state : ReplicaState) (input : ReplicaInput) (out : ReplicaOut) → replica_at now.replicas shard replica ≡ Some state
      → ReplicaLeaf (me_at config shard replica) state input out → In one (now.sent ++ out.sends) → Given (replica_moved now shard replica out)
  unfolding asks_start promises Given
  by_replica shard replica state input _ found (ReplicaLeaf.Nothing i) j = by_silent _ [] tt j
  by_replica shard replica state input _ found (ReplicaLeaf.Within i inner live means) j = elim (In-append one now.sent _ j) [
    | inl old ↦ inl old
    | inr new ↦ inr (within shard replica state inner found new)
  ]
  by_replica shard replica state input _ found (ReplicaLeaf.AsksStart i epoch) j = by_silent _ _ (refl, tt) j
  by_replica shard replica state _ _ found (ReplicaLeaf.Promises epoch up above) j = by_silent _ _ (refl, tt) j
  by_replica shard replica state _ _ found (ReplicaLeaf.Begins epoch s packets same above up) j = by_silent _ [] tt j

  -- ---- the coordinator
  within_coord : (epoch : Epoch) (out : Rattle.eris_rules.specs.CoordStates.EpochCoordOut) → Each (OfMessage (CoordSays out.state)) out.sends → In one (outer_sends epoch out.sends) → ⊥
  within_coord epoch out says i = Each-at (OfMessage (CoordSays out.state)) out.sends (record { to = to; message = Responds response }) says (in_epoch epoch to message response out.sends is i)

  by_coord : (heard : Message) (out : CoordOut) → CoordLeaf config now.coordinator heard out → In one (now.sent ++ out.sends) → Given (coordinator_moved now out)
  unfolding coord_steps_in starts raises_target closes starts_all starts_shard
  by_coord heard _ (CoordLeaf.Nothing m) j = by_silent _ [] tt j
  by_coord heard _ (CoordLeaf.Within m inner ok said thawed) j =
      by_old _ _ (within_coord now.coordinator.current (epoch_coord_step config now.coordinator.inner inner) (right_coord config now.coordinator.inner inner).says) j
  by_coord heard _ (CoordLeaf.Starts m shard replica) j = by_silent _ _ (refl, tt) j
  by_coord _ _ (CoordLeaf.Raises shard replica epoch up) j = by_silent _ _ (each_told (λ (x : Outgoing). response_in x.message ≡ None) (all_replicas config) (Message.EpochAsk epoch) (λ node. refl)) j
  by_coord _ _ (CoordLeaf.Notes replica part up ok) j = by_silent _ [] tt j
  by_coord _ _ (CoordLeaf.Closes replica part up ok ready) j =
      let closed : CoordState = after_closing config (noting now.coordinator replica part) in
      by_silent _ _
      (Each-flat_map (λ (x : Outgoing). response_in x.message ≡ None) _ (range_with_len 0 config.shards)
      (Each-any (λ number. AnswersNothing (tell_each (shard_replicas config (record { 0 = number })) (start_of closed (record { 0 = number }))))
      (λ number. each_told (λ (x : Outgoing). response_in x.message ≡ None) (shard_replicas config (record { 0 = number })) (start_of closed (record { 0 = number })) (λ node. refl)) _)) j

  -- ---- each event
  pub by_move : (after : Servers) → Move config now after → In one after.sent → In one now.sent ⊎ Gives config now after to response
  unfolding coord_steps_in Given
  by_move _ Rests i = inl i
  by_move _ (ReplicaMoves shard replica state input out found came leaf) i = by_replica shard replica state input out found leaf i
  by_move _ (CoordinatorMoves heard out came leaf) i = by_coord heard out leaf i
  by_move _ AsksAgain i = by_silent _ _ (each_told (λ (x : Outgoing). response_in x.message ≡ None) (all_replicas config) (Message.EpochAsk now.coordinator.target) (λ node. refl)) i
  by_move _ (Move.Nudges thawed) i = by_old _ _ (within_coord now.coordinator.current (nudge_row config now.coordinator.inner) (right_nudge config now.coordinator.inner).says) i
  by_move _ (Stamps epoch stamping asker id body found fits free) i = by_silent _ _ (each_packet_send (λ (x : Outgoing). response_in x.message ≡ None) config.f _ (λ node. refl)) i
  by_move _ Replaces i = inl i
  by_move _ (Asks sends only) i = by_silent _ sends (Each-weaker (λ (x : Outgoing). IsAsk x.message) (λ (x : Outgoing). response_in x.message ≡ None) (λ x h. asks_answer_nothing x.message h) sends only) i

none_first : (config : ConfigValue) (events : List Event) (x : Outgoing) → In x (servers_at config events 0).sent → ⊥
unfolding moment_from first_world
none_first config events x i = i

-- EACH RESPONSE that was sent by a moment has a giver, before that moment
pub given : (config : ConfigValue) (events : List Event) (to : Node) (message : Message) (response : Response) → response_in message ≡ Some response → (k : ℕ)
    → In (record { to = to; message = message }) (servers_at config events k).sent → (j : ℕ) × (j < k) × Gives config (servers_at config events j) (servers_at config events (suc j)) to response
given config events to message response is zero i = absurd (none_first config events _ i)
given config events to message response is (suc k) i =
    elim (by_move config (servers_at config events k) to message response is (servers_at config events (suc k)) (next_move config events k) i) [
      | inl old ↦ (let g = given config events to message response is k old in (g.0, omega (arith, g.1), g.2))
      | inr new ↦ (k, omega arith, new)
    ]
