-- What every event leaves of the epochs: epochs, promises, the current epoch and the target never fall; what was
-- sent stays, and stamping lists only grow. And what a message that speaks of epochs tells of its sender: the
-- state in it is the sender's after the step, and the start in it is the coordinator's.
use Rattle.std.proofs.Common.{◌≡◌, ◌⊎◌, inl, inr, ℕ, zero, suc, ◌+◌, ◌*◌, ◌≤◌, List, [], ◌∷◌, ◌++◌, length, Some, refl, sym, ap, ◌∙◌, subst, arith}
use Rattle.std.specs.List.{range_with_len}
use Rattle.std.specs.Prelude.{slice_get, slice_set}
use Rattle.eris_base.specs.declared.ids.ClientId.{ClientId}
use Rattle.eris_base.specs.declared.ids.Epoch.{Epoch}
use Rattle.eris_base.specs.declared.ids.Node.{Node}
use Rattle.eris_base.specs.declared.ids.ReplicaId.{ReplicaId}
use Rattle.eris_base.specs.declared.ids.ShardId.{ShardId}
use Rattle.eris_base.specs.declared.ids.TxnId.{TxnId}
use Rattle.eris_base.specs.ConfigLimits.{ConfigValue}
use Rattle.eris_base.specs.Each.{Each}
use Rattle.eris_base.proofs.Each.{Each-weaker, Each-any}
use Rattle.eris_txn.specs.declared.body.Body.{Body}
use Rattle.eris_txn.specs.declared.packet.Packet.{Packet}
use Rattle.eris_txn.specs.Bodies.{participants_of}
use Rattle.eris_epoch.specs.Closing.{shard_log}
use Rattle.eris_msg.specs.declared.message.Message.{Message}
use Rattle.eris_msg.specs.declared.outgoing.Outgoing.{Outgoing}
use Rattle.eris_sequencer.specs.declared.stamping.Stamping.{Stamping}
use Rattle.eris_sequencer.specs.Asks.{sends_to, sends_of}
use Rattle.eris_sequencer.specs.Sequencers.{new_stamping, replace}
use Rattle.eris_sequencer.specs.Stamps.{stamped_next, next_packet}
use Rattle.eris_rules.specs.declared.replica_input.ReplicaInput.{ReplicaInput}
use Rattle.eris_rules.specs.Addressees.{shard_replicas, all_replicas}
use Rattle.eris_rules.specs.Coordinators.{coord_steps_in, start_of, starts, raises_target, after_closing, starts_shard, starts_all, closes}
use Rattle.eris_rules.specs.CoordStates.{CoordState, CoordOut, begun_epoch}
use Rattle.eris_rules.specs.EpochMessages.{EpochMessage, EpochSend, Stamped, Instructs, Notifies, Exchanges, Responds, Request, Found, Dropped, Find, Has, TempDropped, ViewChange, StartView, SyncAsk, Ack, Settled, Vouch, Reply, Late}
use Rattle.eris_rules.specs.EpochCoords.{epoch_coord_step, nudge_row}
use Rattle.eris_rules.specs.Outer.{outer, outer_sends, tell_each}
use Rattle.eris_rules.specs.ReplicaStates.{ReplicaState, ReplicaOut, begun}
use Rattle.eris_rules.specs.Replicas.{steps_in, steps, asks_start, promises}
use Rattle.eris_rules.specs.Worlds.{replica_at, with_replica}
use Rattle.eris_law_epoch.specs.Members.{In}
use Rattle.eris_law_epoch.proofs.Members.{Each-at, Each-map, Each-flat_map, In-append, In-left}
use Rattle.eris_law_epoch.proofs.Frame.{get-set, get-set_same}
use Rattle.eris_law_agreement.specs.Alone.{stamping_or, stamping_of, state_of}
use Rattle.eris_law_agreement.specs.Servers.{Servers}
use Rattle.eris_law_agreement.proofs.Cells.{state_of-some, state-same, state-other, everywhere}
use Rattle.eris_law_agreement.proofs.ClientAsks.{IsAsk}
use Rattle.eris_law_agreement.proofs.CoordLeaves.{CoordLeaf, noting}
use Rattle.eris_law_agreement.proofs.ReplicaLeaves.{ReplicaLeaf}
use Rattle.eris_law_agreement.proofs.Moves.{Move, Rests, ReplicaMoves, CoordinatorMoves, AsksAgain, Nudges, Stamps, Replaces, Asks, replica_moved, coordinator_moved, stamped, asked_again, me_at}

-- what a message tells of its sender after the step that sent it
abbrev pub Tells : Servers → Message → Type 0
Tells after (Message.EpochState replica epoch part) =
    (shard : ShardId) × ((state_of after.replicas shard replica).promised ≡ epoch) × ((state_of after.replicas shard replica).inner.part ≡ part)
Tells after (Message.StartEpoch epoch shard packets) = (epoch ≡ after.coordinator.current) × (packets ≡ shard_log after.coordinator.closed shard)
Tells after message = Unit {0}

abbrev pub TellsSent : Servers → Outgoing → Type 0
TellsSent after one = Tells after one.message

-- one event, and what it leaves
pub record IsAfter (config : ConfigValue) (now after : Servers) : Type 0 where
  pub epoch : (shard : ShardId) (replica : ReplicaId) → (state_of now.replicas shard replica).epoch.0 ≤ (state_of after.replicas shard replica).epoch.0
  pub promised : (shard : ShardId) (replica : ReplicaId) → (state_of now.replicas shard replica).promised.0 ≤ (state_of after.replicas shard replica).promised.0
  pub current : now.coordinator.current.0 ≤ after.coordinator.current.0
  pub target : now.coordinator.target.0 ≤ after.coordinator.target.0
  pub new : (one : Outgoing) → In one after.sent → In one now.sent ⊎ TellsSent after one
  pub kept : (one : Outgoing) → In one now.sent → In one after.sent
  pub stamped : (epoch : Epoch) (packet : Packet) → In packet (stamping_of config now.stampings epoch).stamped → In packet (stamping_of config after.stampings epoch).stamped

-- what is sent for a message of one epoch tells nothing of epochs
pub tells_outer : (after : Servers) (epoch : Epoch) (message : EpochMessage) → Tells after (outer epoch message)
tells_outer after epoch (Stamped packet) = tt
tells_outer after epoch (Instructs (Request place)) = tt
tells_outer after epoch (Instructs (Found packet)) = tt
tells_outer after epoch (Instructs (Dropped place)) = tt
tells_outer after epoch (Notifies (Find replica place)) = tt
tells_outer after epoch (Notifies (Has packet)) = tt
tells_outer after epoch (Notifies (TempDropped place shard replica view)) = tt
tells_outer after epoch (Exchanges (ViewChange replica view part)) = tt
tells_outer after epoch (Exchanges (StartView view part)) = tt
tells_outer after epoch (Exchanges (SyncAsk view)) = tt
tells_outer after epoch (Exchanges (Ack replica view length)) = tt
tells_outer after epoch (Exchanges (Settled view number places)) = tt
tells_outer after epoch (Responds (Vouch view shard replica stamp id phase)) = tt
tells_outer after epoch (Responds (Reply view shard replica stamp id phase answer)) = tt
tells_outer after epoch (Responds (Late shard replica id phase answer)) = tt

inner_tells : (after : Servers) (epoch : Epoch) (sends : List EpochSend) → Each (TellsSent after) (outer_sends epoch sends)
inner_tells after epoch sends = Each-map (TellsSent after) _ sends (Each-any (λ one. Tells after (outer epoch one.message)) (λ one. tells_outer after epoch one.message) sends)

-- the same message to each of some nodes
pub each_told : (P : Outgoing → Type 0) (nodes : List Node) (message : Message) → ((node : Node) → P (record { to = node; message = message })) → Each P (tell_each nodes message)
each_told P nodes message h = Each-map P _ nodes (Each-any (λ node. P (record { to = node; message = message })) h nodes)

asks_tell : (after : Servers) (message : Message) → IsAsk message → Tells after message
asks_tell after (Message.Ask asker id body) h = tt
asks_tell after (Message.Txn packet) h = tt
asks_tell after (Message.Vouch view shard replica stamp id phase) h = tt
asks_tell after (Message.Reply view shard replica stamp id phase answer) h = tt
asks_tell after (Message.Late shard replica id phase answer) h = tt
asks_tell after (Message.Find replica place) h = tt
asks_tell after (Message.Request place) h = tt
asks_tell after (Message.Has packet) h = tt
asks_tell after (Message.TempDropped place shard replica view) h = tt
asks_tell after (Message.Found packet) h = tt
asks_tell after (Message.Dropped place) h = tt
asks_tell after (Message.ViewChange replica view part) h = tt
asks_tell after (Message.StartView view part) h = tt
asks_tell after (Message.SyncAsk epoch view) h = tt
asks_tell after (Message.Ack replica epoch view length) h = tt
asks_tell after (Message.Settled epoch view number places) h = tt
asks_tell after (Message.NewEpoch shard replica epoch) h = tt
asks_tell after (Message.EpochAsk epoch) h = tt
asks_tell after (Message.EpochState replica epoch part) h = absurd h
asks_tell after (Message.StartEpoch epoch shard packets) h = absurd h

-- a packet's sends are Txn
pub each_packet_send : (P : Outgoing → Type 0) (f : ℕ) (packet : Packet) → ((node : Node) → P (record { to = node; message = Message.Txn packet })) → Each P (sends_of f packet)
unfolding sends_of sends_to
each_packet_send P f packet h =
    Each-flat_map P (sends_to f packet) (participants_of packet.body)
    (Each-any (λ shard. Each P (sends_to f packet shard)) (λ shard. Each-map P _ (range_with_len 0 (2 * f + 1)) (Each-any (λ replica. P (record { to = Node.Replica shard (record { 0 = replica }); message = Message.Txn packet })) (λ replica. h _) _)) _)

-- the starts of all shards
all_starts_tell : (after : Servers) (config : ConfigValue) (state : CoordState) → state.current ≡ after.coordinator.current → state.closed ≡ after.coordinator.closed → Each (TellsSent after) (starts_all config state)
unfolding starts_all starts_shard
all_starts_tell after config state p q =
    Each-flat_map (TellsSent after) _ (range_with_len 0 config.shards)
    (Each-any (λ number. Each (TellsSent after) (tell_each (shard_replicas config (record { 0 = number })) (start_of state (record { 0 = number }))))
    (λ number. each_told (TellsSent after) (shard_replicas config (record { 0 = number })) (start_of state (record { 0 = number })) (λ node. (p, ap (λ closed. shard_log closed (record { 0 = number })) q))) _)

-- ---- where the replicas and the sequencers stay
stay_replicas : (config : ConfigValue) (now after : Servers) (sends : List Outgoing) → after.replicas ≡ now.replicas → after.stampings ≡ now.stampings
    → now.coordinator.current.0 ≤ after.coordinator.current.0 → now.coordinator.target.0 ≤ after.coordinator.target.0
    → after.sent ≡ now.sent ++ sends → Each (TellsSent after) sends → IsAfter config now after
stay_replicas config now after sends p s le lt q h = record {
  epoch = λ a b. let z : (state_of after.replicas a b).epoch ≡ (state_of now.replicas a b).epoch = ap (λ rows. (state_of rows a b).epoch) p in omega (arith, ap (λ (e : Epoch). e.0) z);
  promised = λ a b. let z : (state_of after.replicas a b).promised ≡ (state_of now.replicas a b).promised = ap (λ rows. (state_of rows a b).promised) p in omega (arith, ap (λ (e : Epoch). e.0) z);
  current = le;
  target = lt;
  new = λ one i. elim (In-append one now.sent sends (subst (λ list. In one list) q i)) [ inl old ↦ inl old | inr made ↦ inr (Each-at _ sends one h made) ];
  kept = λ one i. subst (λ list. In one list) (sym q) (In-left one now.sent sends i);
  stamped = λ epoch packet i. subst (λ list. In packet (stamping_of config list epoch).stamped) (sym s) i;
}

-- ---- a replica's step
module _ (config : ConfigValue) (now : Servers) (shard : ShardId) (replica : ReplicaId) (state : ReplicaState) (found : replica_at now.replicas shard replica ≡ Some state) where
  one_replica : (out : ReplicaOut) → state.epoch.0 ≤ out.state.epoch.0 → state.promised.0 ≤ out.state.promised.0 → Each (TellsSent (replica_moved now shard replica out)) out.sends
      → IsAfter config now (replica_moved now shard replica out)
  one_replica out up kept told =
      let was : state_of now.replicas shard replica ≡ state = state_of-some now.replicas shard replica state found in
      let made : state_of (with_replica now.replicas shard replica out.state) shard replica ≡ out.state = state-same now.replicas shard replica state out.state found in
      record {
        epoch = everywhere (λ a b. (state_of now.replicas a b).epoch.0 ≤ (state_of (with_replica now.replicas shard replica out.state) a b).epoch.0) shard replica
            (subst (λ (x : ReplicaState). x.epoch.0 ≤ (state_of (with_replica now.replicas shard replica out.state) shard replica).epoch.0) (sym was)
            (subst (λ (x : ReplicaState). state.epoch.0 ≤ x.epoch.0) (sym made) up))
            (λ a b apart. subst (λ (x : ReplicaState). (state_of now.replicas a b).epoch.0 ≤ x.epoch.0) (sym (state-other now.replicas shard replica state out.state found a b apart)) (omega arith));
        promised = everywhere (λ a b. (state_of now.replicas a b).promised.0 ≤ (state_of (with_replica now.replicas shard replica out.state) a b).promised.0) shard replica
            (subst (λ (x : ReplicaState). x.promised.0 ≤ (state_of (with_replica now.replicas shard replica out.state) shard replica).promised.0) (sym was)
            (subst (λ (x : ReplicaState). state.promised.0 ≤ x.promised.0) (sym made) kept))
            (λ a b apart. subst (λ (x : ReplicaState). (state_of now.replicas a b).promised.0 ≤ x.promised.0) (sym (state-other now.replicas shard replica state out.state found a b apart)) (omega arith));
        current = omega arith;
        target = omega arith;
        new = λ one i. elim (In-append one now.sent out.sends i) [ inl old ↦ inl old | inr new ↦ inr (Each-at _ out.sends one told new) ];
        kept = λ one i. In-left one now.sent out.sends i;
        stamped = λ epoch packet i. i;
      }

  promise_tells : (epoch : Epoch) → Each (TellsSent (replica_moved now shard replica (promises (me_at config shard replica) state epoch))) (promises (me_at config shard replica) state epoch).sends
  unfolding promises
  promise_tells epoch =
      let made = state-same now.replicas shard replica state (record state { promised = epoch }) found in
      ((shard, ap (λ (x : ReplicaState). x.promised) made, ap (λ (x : ReplicaState). x.inner.part) made), tt)

  pub replica_after : (input : ReplicaInput) (out : ReplicaOut) → ReplicaLeaf (me_at config shard replica) state input out → IsAfter config now (replica_moved now shard replica out)
  unfolding steps steps_in asks_start promises begun
  replica_after input _ (ReplicaLeaf.Nothing i) = one_replica _ (omega arith) (omega arith) tt
  replica_after input _ (ReplicaLeaf.Within i inner live means) = one_replica _ (omega arith) (omega arith) (inner_tells (replica_moved now shard replica (steps (me_at config shard replica) state inner)) state.epoch _)
  replica_after input _ (ReplicaLeaf.AsksStart i epoch) = one_replica _ (omega arith) (omega arith) (tt, tt)
  replica_after _ _ (ReplicaLeaf.Promises epoch up above) = one_replica _ (omega arith) up (promise_tells epoch)
  replica_after _ _ (ReplicaLeaf.Begins epoch s packets same above up) = one_replica _ (omega (arith, above)) up tt

-- ---- the coordinator's step
module _ (config : ConfigValue) (now : Servers) where
  pub coordinator_after : (message : Message) (out : CoordOut) → CoordLeaf config now.coordinator message out → IsAfter config now (coordinator_moved now out)
  unfolding coord_steps_in starts raises_target closes after_closing begun_epoch
  coordinator_after message _ (CoordLeaf.Nothing m) = stay_replicas config now _ [] refl refl (omega arith) (omega arith) refl tt
  coordinator_after message _ (CoordLeaf.Within m inner ok is thawed) =
      let after : Servers = coordinator_moved now (coord_steps_in now.coordinator (epoch_coord_step config now.coordinator.inner inner)) in
      stay_replicas config now after _ refl refl (omega arith) (omega arith) refl (inner_tells after now.coordinator.current _)
  coordinator_after message _ (CoordLeaf.Starts m shard replica) = stay_replicas config now _ _ refl refl (omega arith) (omega arith) refl ((refl, refl), tt)
  coordinator_after _ _ (CoordLeaf.Raises shard replica epoch up) = stay_replicas config now _ _ refl refl (omega arith) (omega (arith, up)) refl (each_told _ (all_replicas config) (Message.EpochAsk epoch) (λ node. tt))
  coordinator_after _ _ (CoordLeaf.Notes replica part up ok) = stay_replicas config now _ [] refl refl (omega arith) (omega arith) refl tt
  coordinator_after _ _ (CoordLeaf.Closes replica part up ok ready) =
      stay_replicas config now (coordinator_moved now (closes config (noting now.coordinator replica part))) _ refl refl (omega (arith, up)) (omega arith) refl
      (all_starts_tell (coordinator_moved now (closes config (noting now.coordinator replica part))) config (after_closing config (noting now.coordinator replica part)) refl refl)

  nudges_after : IsAfter config now (coordinator_moved now (coord_steps_in now.coordinator (nudge_row config now.coordinator.inner)))
  unfolding coord_steps_in
  nudges_after =
      let after : Servers = coordinator_moved now (coord_steps_in now.coordinator (nudge_row config now.coordinator.inner)) in
      stay_replicas config now after _ refl refl (omega arith) (omega arith) refl (inner_tells after now.coordinator.current _)

  -- ---- the sequencers
  pub stamping-made : (epoch : Epoch) (stamping made : Stamping) → slice_get now.stampings epoch.0 ≡ Some stamping → stamping_of config (slice_set now.stampings epoch.0 made) epoch ≡ made
  unfolding stamping_of
  stamping-made epoch stamping made h = ap (stamping_or (new_stamping config epoch)) (get-set_same now.stampings epoch.0 stamping made h)

  pub stamping-there : (epoch : Epoch) (stamping : Stamping) → slice_get now.stampings epoch.0 ≡ Some stamping → stamping_of config now.stampings epoch ≡ stamping
  unfolding stamping_of
  stamping-there epoch stamping h = ap (stamping_or (new_stamping config epoch)) h

  pub stamping-other : (epoch : Epoch) (stamping made : Stamping) → slice_get now.stampings epoch.0 ≡ Some stamping → (other : Epoch) → (other.0 ≡ epoch.0 → ⊥)
      → stamping_of config (slice_set now.stampings epoch.0 made) other ≡ stamping_of config now.stampings other
  unfolding stamping_of
  stamping-other epoch stamping made h other apart = elim (get-set now.stampings epoch.0 other.0 stamping made h) [ inl e ↦ absurd (apart e.0) | inr e ↦ ap (stamping_or (new_stamping config other)) e ]

  more_stamped : (epoch : Epoch) (stamping : Stamping) (asker : ClientId) (id : TxnId) (body : Body) → slice_get now.stampings epoch.0 ≡ Some stamping → (other : Epoch) (packet : Packet)
      → In packet (stamping_of config now.stampings other).stamped → In packet (stamping_of config (slice_set now.stampings epoch.0 (stamped_next stamping id asker body)) other).stamped
  unfolding stamped_next stamping_of
  more_stamped epoch stamping asker id body h other packet i = elim (get-set now.stampings epoch.0 other.0 stamping (stamped_next stamping id asker body) h) [
    | inl e ↦
        let there : slice_get now.stampings other.0 ≡ Some stamping = ap (slice_get now.stampings) e.0 ∙ h in
        let old : In packet stamping.stamped = subst (λ found. In packet (stamping_or (new_stamping config other) found).stamped) there i in
        subst (λ found. In packet (stamping_or (new_stamping config other) found).stamped) (sym e.1) (In-left packet stamping.stamped _ old)
    | inr e ↦ subst (λ found. In packet (stamping_or (new_stamping config other) found).stamped) (sym e) i
  ]

  stamped_after : (epoch : Epoch) (stamping : Stamping) (asker : ClientId) (id : TxnId) (body : Body) → slice_get now.stampings epoch.0 ≡ Some stamping → IsAfter config now (stamped config now epoch stamping asker id body)
  stamped_after epoch stamping asker id body h =
      let packet : Packet = next_packet stamping.sequencer id asker body in
      record {
        epoch = λ a b. omega arith;
        promised = λ a b. omega arith;
        current = omega arith;
        target = omega arith;
        new = λ one i. elim (In-append one now.sent (sends_of config.f packet) i) [
          | inl old ↦ inl old
          | inr new ↦ inr (Each-at (TellsSent (stamped config now epoch stamping asker id body)) _ one (each_packet_send _ config.f packet (λ node. tt)) new)
        ];
        kept = λ one i. In-left one now.sent _ i;
        stamped = λ other packet i. more_stamped epoch stamping asker id body h other packet i;
      }

  get-more : (stampings : List Stamping) (from : ℕ) (number : ℕ) (none : ℕ → Stamping)
      → stamping_or (none (from + number)) (slice_get (stampings ++ none (from + length stampings) ∷ []) number) ≡ stamping_or (none (from + number)) (slice_get stampings number)
  get-more [] from zero none = refl
  get-more [] from (suc number) none = refl
  get-more (one ∷ stampings) from zero none = refl
  get-more (one ∷ stampings) from (suc number) none =
      let rest = get-more stampings (from + 1) number none in
      let shift : (k : ℕ) → from + suc k ≡ (from + 1) + k = (λ k. omega arith) in
      ap (λ k. stamping_or (none k) (slice_get (stampings ++ none (from + suc (length stampings)) ∷ []) number)) (shift number)
      ∙ ap (λ k. stamping_or (none ((from + 1) + number)) (slice_get (stampings ++ none k ∷ []) number)) (shift (length stampings))
      ∙ rest
      ∙ ap (λ k. stamping_or (none k) (slice_get stampings number)) (sym (shift number))

  -- one more sequencer, which has stamped nothing, changes nothing
  pub stamping-more : (epoch : Epoch) → stamping_of config (replace config now.stampings) epoch ≡ stamping_of config now.stampings epoch
  unfolding stamping_of replace
  stamping-more epoch =
      let at : (k : ℕ) → 0 + k ≡ k = (λ k. omega arith) in
      let made : ℕ → Stamping = (λ number. new_stamping config (record { 0 = number })) in
      ap (λ k. stamping_or (made k) (slice_get (now.stampings ++ made (length now.stampings) ∷ []) epoch.0)) (sym (at epoch.0))
      ∙ ap (λ k. stamping_or (made (0 + epoch.0)) (slice_get (now.stampings ++ made k ∷ []) epoch.0)) (sym (at (length now.stampings)))
      ∙ get-more now.stampings 0 epoch.0 made
      ∙ ap (λ k. stamping_or (made k) (slice_get now.stampings epoch.0)) (at epoch.0)

  replaced_after : IsAfter config now (record now { stampings = replace config now.stampings })
  replaced_after = record {
    epoch = λ a b. omega arith;
    promised = λ a b. omega arith;
    current = omega arith;
    target = omega arith;
    new = λ one i. inl i;
    kept = λ one i. i;
    stamped = λ epoch packet i. subst (λ (made : Stamping). In packet made.stamped) (sym (stamping-more epoch)) i;
  }

  -- EACH EVENT
  pub is_after : (after : Servers) → Move config now after → IsAfter config now after
  is_after _ Rests = record { epoch = λ a b. omega arith; promised = λ a b. omega arith; current = omega arith; target = omega arith; new = λ one i. inl i; kept = λ one i. i; stamped = λ epoch packet i. i }
  is_after _ (ReplicaMoves shard replica state input out found came leaf) = replica_after config now shard replica state found input out leaf
  is_after _ (CoordinatorMoves message out i leaf) = coordinator_after message out leaf
  is_after _ AsksAgain = stay_replicas config now _ _ refl refl (omega arith) (omega arith) refl (each_told (TellsSent (coordinator_moved now (asked_again config now))) (all_replicas config) (Message.EpochAsk now.coordinator.target) (λ node. tt))
  is_after _ (Nudges thawed) = nudges_after
  is_after _ (Stamps epoch stamping asker id body found fits free) = stamped_after epoch stamping asker id body found
  is_after _ Replaces = replaced_after
  is_after _ (Asks sends only) = stay_replicas config now _ sends refl refl (omega arith) (omega arith) refl (Each-weaker _ (TellsSent (record now { sent = now.sent ++ sends })) (λ one h. asks_tell (record now { sent = now.sent ++ sends }) one.message h) sends only)
