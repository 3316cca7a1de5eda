-- One event, seen in one epoch alone: it is an event of that epoch's machine, or it leaves the epoch as it is. The
-- rows of a step are never looked into, so this doesn't change when a row does.
use Rattle.std.proofs.Common.{◌≡◌, ◌⊎◌, inl, inr, ℕ, suc, ◌<◌, ◌≤◌, List, [], ◌∷◌, ◌++◌, length, true, false, Some, None, refl, sym, ap, ◌∙◌, subst, arith}
use Rattle.std.specs.List.{range_with_len}
use Rattle.std.specs.Prelude.{slice_get, slice_set}
use Rattle.std.proofs.lemmas.Bool.{cases_eq}
use Rattle.eris_base.specs.declared.ids.ClientId.{ClientId}
use Rattle.eris_base.specs.declared.ids.Epoch.{Epoch}
use Rattle.eris_base.specs.declared.ids.Node.{Node}
use Rattle.eris_base.specs.declared.ids.Node.TheVariants.{Coordinator, Replica}
use Rattle.eris_base.specs.declared.ids.ReplicaId.{ReplicaId}
use Rattle.eris_base.specs.declared.ids.ShardId.{ShardId}
use Rattle.eris_base.specs.declared.ids.TxnId.{TxnId}
use Rattle.eris_base.specs.ConfigLimits.{ConfigValue}
use Rattle.eris_base.specs.Each.{Each}
use Rattle.eris_base.proofs.Each.{Each-weaker, Each-any}
use Rattle.eris_base.proofs.IdLaws.{epoch_equal}
use Rattle.eris_txn.specs.declared.body.Body.{Body}
use Rattle.eris_txn.specs.declared.packet.Packet.{Packet}
use Rattle.eris_txn.specs.Bodies.{participants_of}
use Rattle.eris_msg.specs.declared.message.Message.{Message}
use Rattle.eris_msg.specs.declared.outgoing.Outgoing.{Outgoing}
use Rattle.eris_sequencer.specs.declared.stamping.Stamping.{Stamping}
use Rattle.eris_sequencer.specs.Asks.{sends_of}
use Rattle.eris_sequencer.specs.Sequencers.{replace, is_in_place}
use Rattle.eris_sequencer.specs.Stamps.{is_full, next_packet, next_stamp, stamped_next}
use Rattle.eris_rules.specs.declared.replica_input.ReplicaInput.{ReplicaInput}
use Rattle.eris_rules.specs.Addressees.{shard_replicas, all_replicas}
use Rattle.eris_rules.specs.Coordinators.{stays, coord_steps_in, start_of, starts, raises_target, after_closing, starts_shard, starts_all, closes}
use Rattle.eris_rules.specs.CoordStates.{CoordState, CoordOut, EpochCoordOut, begun_epoch}
use Rattle.eris_rules.specs.EpochCoords.{epoch_coord_step, nudge_row}
use Rattle.eris_rules.specs.EpochMessages.{EpochMessage, EpochSend, Stamped, send_each}
use Rattle.eris_rules.specs.EpochReplicas.{EpochInput, Get, epoch_step}
use Rattle.eris_rules.specs.Outer.{inner_of, outer_sends, tell_each}
use Rattle.eris_rules.specs.ReplicaStates.{EpochReplica, EpochOut, ReplicaState, ReplicaOut, begun, fresh}
use Rattle.eris_rules.specs.Replicas.{still, member, steps_in, steps, asks_start, promises}
use Rattle.eris_rules.specs.Worlds.{replica_at, with_replica}
use Rattle.eris_law_epoch.specs.EpochWorlds.{EpochSystem, EpochWorld, member_of, EpochEvent, Delivers, Probes, Suspects, Syncs, Nudges, Idles, packet_sends, after_stamping, asks_stamp, after_replica, replica_steps, replica_takes, after_coordinator, happens}
use Rattle.eris_law_epoch.specs.Members.{In}
use Rattle.eris_law_epoch.specs.Reading.{read}
use Rattle.eris_law_epoch.proofs.Frame.{read-some, written-same}
use Rattle.eris_law_epoch.proofs.Members.{Each-told, Each-flat_map, In-append, In-left, In-right}
use Rattle.eris_law_agreement.specs.Alone.{stamping_of, state_of, IsAlone, Follows}
use Rattle.eris_law_agreement.specs.Servers.{Servers}
use Rattle.eris_law_agreement.proofs.Cells.{cell, state_of-some, state-same, state-other, everywhere}
use Rattle.eris_law_agreement.proofs.ClientAsks.{IsAsk, AsksOnly}
use Rattle.eris_law_agreement.proofs.CoordLeaves.{CoordLeaf, noting}
use Rattle.eris_law_agreement.proofs.EpochGrowth.{each_told, stamping-made, stamping-there, stamping-other, stamping-more}
use Rattle.eris_law_agreement.proofs.Moves.{Move, Rests, ReplicaMoves, CoordinatorMoves, AsksAgain, Stamps, Replaces, Asks, replica_moved, coordinator_moved, stamped, asked_again, me_at, Came}
use Rattle.eris_law_agreement.proofs.ReplicaLeaves.{Means, Says, ReplicaLeaf}
use Rattle.eris_law_agreement.proofs.SaidIn.{SaidIn, unwrap, SaysNothing, nothing_said, stamped_sends}

-- what steps within epochs say from here is said in these epochs; and a stamp names its sequencer's epoch
pub record SayTheirEpochs (config : ConfigValue) (now : Servers) : Type 0 where
  pub replicas : (shard : ShardId) (replica : ReplicaId) (state : ReplicaState) (input : ReplicaInput) (inner : EpochInput) → replica_at now.replicas shard replica ≡ Some state → Came now.sent shard replica input
      → Means (me_at config shard replica) state.epoch input inner
      → Each (λ one. SaidIn state.epoch one.message) (epoch_step (member (me_at config shard replica) state) state.inner inner).sends
  pub coordinator : (message : Message) (inner : EpochMessage) → In (record { to = Coordinator; message = message }) now.sent
      → inner_of message ≡ Some (record { epoch = now.coordinator.current; message = inner })
      → Each (λ one. SaidIn now.coordinator.current one.message) (epoch_coord_step config now.coordinator.inner inner).sends
  pub nudged : Each (λ one. SaidIn now.coordinator.current one.message) (nudge_row config now.coordinator.inner).sends
  pub sequencers : (epoch : Epoch) (stamping : Stamping) → slice_get now.stampings epoch.0 ≡ Some stamping → stamping.sequencer.epoch ≡ epoch

pub In-index : {X : Type 0} (y : X) (xs : List X) → In y xs → (number : ℕ) × (slice_get xs number ≡ Some y)
In-index y [] i = absurd i
In-index y (x ∷ xs) (inl e) = (0, ap Some (sym e))
In-index y (x ∷ xs) (inr i) = let rest = In-index y xs i in (suc rest.0, rest.1)

ask_says_nothing : (message : Message) → IsAsk message → inner_of message ≡ None
ask_says_nothing (Message.Ask asker id body) h = refl
ask_says_nothing (Message.Txn packet) h = absurd h
ask_says_nothing (Message.Vouch view shard replica stamp id phase) h = absurd h
ask_says_nothing (Message.Reply view shard replica stamp id phase answer) h = absurd h
ask_says_nothing (Message.Late shard replica id phase answer) h = absurd h
ask_says_nothing (Message.Find replica place) h = absurd h
ask_says_nothing (Message.Request place) h = absurd h
ask_says_nothing (Message.Has packet) h = absurd h
ask_says_nothing (Message.TempDropped place shard replica view) h = absurd h
ask_says_nothing (Message.Found packet) h = absurd h
ask_says_nothing (Message.Dropped place) h = absurd h
ask_says_nothing (Message.ViewChange replica view part) h = absurd h
ask_says_nothing (Message.StartView view part) h = absurd h
ask_says_nothing (Message.SyncAsk epoch view) h = absurd h
ask_says_nothing (Message.Ack replica epoch view length) h = absurd h
ask_says_nothing (Message.Settled epoch view number places) h = absurd h
ask_says_nothing (Message.NewEpoch shard replica epoch) h = absurd h
ask_says_nothing (Message.EpochAsk epoch) h = absurd h
ask_says_nothing (Message.EpochState replica epoch part) h = absurd h
ask_says_nothing (Message.StartEpoch epoch shard packets) h = absurd h

starts_say_nothing : (config : ConfigValue) (state : CoordState) → SaysNothing (starts_all config state)
unfolding starts_all starts_shard
starts_say_nothing config state =
    Each-flat_map (λ (one : Outgoing). inner_of one.message ≡ None) _ (range_with_len 0 config.shards)
    (Each-any (λ number. SaysNothing (tell_each (shard_replicas config (record { 0 = number })) (start_of state (record { 0 = number }))))
    (λ number. each_told (λ (one : Outgoing). inner_of one.message ≡ None) (shard_replicas config (record { 0 = number })) (start_of state (record { 0 = number })) (λ node. refl)) _)

-- each message that goes out with a stamping is of the sequencer's epoch
packet_said : (at : Epoch) (stamping : Stamping) (asker : ClientId) (id : TxnId) (body : Body) → stamping.sequencer.epoch ≡ at → (config : ConfigValue)
    → Each (λ one. SaidIn at one.message) (packet_sends config (next_packet stamping.sequencer id asker body))
unfolding packet_sends next_packet next_stamp
packet_said at stamping asker id body own config =
    Each-flat_map (λ (one : EpochSend). SaidIn at one.message) _ (participants_of body)
    (Each-any (λ shard. Each (λ (one : EpochSend). SaidIn at one.message) (send_each (shard_replicas config shard) (Stamped (next_packet stamping.sequencer id asker body))))
    (λ shard. Each-told (SaidIn at) (shard_replicas config shard) (Stamped (next_packet stamping.sequencer id asker body)) own) (participants_of body))

module _ (config : ConfigValue) (epoch : Epoch) (prior : ShardId → List Packet) (now : Servers) (alone : EpochWorld)
    (is : IsAlone (record { config = config; epoch = epoch; prior = prior }) now alone) where
  abbrev system : EpochSystem
  system = record { config = config; epoch = epoch; prior = prior }

  no_more : (sends : List Outgoing) → ((node : Node) (message : Message) (inner : EpochMessage) → In (record { to = node; message = message }) sends → inner_of message ≡ Some (record { epoch = epoch; message = inner }) → ⊥)
      → (node : Node) (message : Message) (inner : EpochMessage) → In (record { to = node; message = message }) (now.sent ++ sends) → inner_of message ≡ Some (record { epoch = epoch; message = inner })
      → In (record { to = node; message = inner }) alone.sent
  no_more sends none node message inner i h = elim (In-append _ now.sent sends i) [ inl old ↦ is.sent node message inner old h | inr new ↦ absurd (none node message inner new h) ]

  found_put : (shard : ShardId) (replica : ReplicaId) (state made : ReplicaState) → replica_at now.replicas shard replica ≡ Some state → (a : ShardId) (b : ReplicaId) (x : ReplicaState)
      → replica_at (with_replica now.replicas shard replica made) a b ≡ Some x → (inner : EpochReplica) × (replica_at alone.replicas a b ≡ Some inner)
  found_put shard replica state made h a b x k = elim (cell now.replicas shard replica state made h a b) [
    | inl e ↦ subst (λ s. (inner : EpochReplica) × (replica_at alone.replicas s b ≡ Some inner)) (sym e.0) (subst (λ r. (inner : EpochReplica) × (replica_at alone.replicas shard r ≡ Some inner)) (sym e.1) (is.found shard replica state h))
    | inr e ↦ is.found a b x (sym e ∙ k)
  ]

  -- ---- a replica's step that is none within the epoch
  idle_replica : (shard : ShardId) (replica : ReplicaId) (state : ReplicaState) (out : ReplicaOut) → replica_at now.replicas shard replica ≡ Some state
      → (out.state.epoch ≡ epoch → read system alone.replicas shard replica ≡ out.state.inner) → (out.state.epoch.0 < epoch.0 → read system alone.replicas shard replica ≡ fresh epoch shard)
      → ((node : Node) (message : Message) (inner : EpochMessage) → In (record { to = node; message = message }) out.sends → inner_of message ≡ Some (record { epoch = epoch; message = inner }) → ⊥)
      → Follows system now (replica_moved now shard replica out) alone alone
  idle_replica shard replica state out h p q none = record {
    is_alone = record {
      there = everywhere (λ a b. (state_of (with_replica now.replicas shard replica out.state) a b).epoch ≡ epoch → read system alone.replicas a b ≡ (state_of (with_replica now.replicas shard replica out.state) a b).inner) shard replica
          (subst (λ (x : ReplicaState). x.epoch ≡ epoch → read system alone.replicas shard replica ≡ x.inner) (sym (state-same now.replicas shard replica state out.state h)) p)
          (λ a b apart. subst (λ (x : ReplicaState). x.epoch ≡ epoch → read system alone.replicas a b ≡ x.inner) (sym (state-other now.replicas shard replica state out.state h a b apart)) (is.there a b));
      not_yet = everywhere (λ a b. (state_of (with_replica now.replicas shard replica out.state) a b).epoch.0 < epoch.0 → read system alone.replicas a b ≡ fresh epoch a) shard replica
          (subst (λ (x : ReplicaState). x.epoch.0 < epoch.0 → read system alone.replicas shard replica ≡ fresh epoch shard) (sym (state-same now.replicas shard replica state out.state h)) q)
          (λ a b apart. subst (λ (x : ReplicaState). x.epoch.0 < epoch.0 → read system alone.replicas a b ≡ fresh epoch a) (sym (state-other now.replicas shard replica state out.state h a b apart)) (is.not_yet a b));
      found = found_put shard replica state out.state h;
      coordinator = is.coordinator;
      coordinator_not_yet = is.coordinator_not_yet;
      stamping = is.stamping;
      sent = no_more out.sends none;
    };
    frozen = λ a b k. refl;
    closed = λ k. refl;
  }

  -- another replica of the epoch reads as before
  small_other : (shard : ShardId) (replica : ReplicaId) (old made : EpochReplica) → replica_at alone.replicas shard replica ≡ Some old → (a : ShardId) (b : ReplicaId) → (a ≡ shard → b ≡ replica → ⊥)
      → read system (with_replica alone.replicas shard replica made) a b ≡ read system alone.replicas a b
  unfolding read
  small_other shard replica old made h a b apart = elim (cell alone.replicas shard replica old made h a b) [ inl e ↦ absurd (apart e.0 e.1) | inr e ↦ ap (Rattle.eris_law_epoch.specs.Reading.or_fresh (fresh epoch a)) e ]

  -- ---- a step within it
  both_replica : (shard : ShardId) (replica : ReplicaId) (state : ReplicaState) (out : EpochOut) → replica_at now.replicas shard replica ≡ Some state → replica_at alone.replicas shard replica ≡ Some state.inner
      → state.epoch ≡ epoch → state.promised.0 ≤ state.epoch.0 → Each (λ one. SaidIn state.epoch one.message) out.sends
      → Follows system now (replica_moved now shard replica (steps_in state out)) alone (after_replica alone shard replica out)
  unfolding steps_in after_replica
  both_replica shard replica state out h k same live said =
      let made : ReplicaState = record state { inner = out.state } in
      record {
        is_alone = record {
          there = everywhere (λ a b. (state_of (with_replica now.replicas shard replica made) a b).epoch ≡ epoch → read system (with_replica alone.replicas shard replica out.state) a b ≡ (state_of (with_replica now.replicas shard replica made) a b).inner) shard replica
              (λ e. written-same system alone.replicas shard replica state.inner out.state k ∙ sym (ap (λ (x : ReplicaState). x.inner) (state-same now.replicas shard replica state made h)))
              (λ a b apart e. small_other shard replica state.inner out.state k a b apart
              ∙ is.there a b (ap (λ (x : ReplicaState). x.epoch) (sym (state-other now.replicas shard replica state made h a b apart)) ∙ e)
              ∙ sym (ap (λ (x : ReplicaState). x.inner) (state-other now.replicas shard replica state made h a b apart)));
          not_yet = everywhere (λ a b. (state_of (with_replica now.replicas shard replica made) a b).epoch.0 < epoch.0 → read system (with_replica alone.replicas shard replica out.state) a b ≡ fresh epoch a) shard replica
              (λ lt. let z = ap (λ (x : ReplicaState). x.epoch.0) (state-same now.replicas shard replica state made h) in let e = ap (λ (x : Epoch). x.0) same in absurd (omega arith))
              (λ a b apart lt. small_other shard replica state.inner out.state k a b apart ∙ is.not_yet a b (subst (λ (x : ReplicaState). x.epoch.0 < epoch.0) (state-other now.replicas shard replica state made h a b apart) lt));
          found = λ a b x z. elim (cell alone.replicas shard replica state.inner out.state k a b) [
            | inl e ↦ (out.state, e.2)
            | inr e ↦ (let w = found_put shard replica state made h a b x z in (w.0, e ∙ w.1))
          ];
          coordinator = is.coordinator;
          coordinator_not_yet = is.coordinator_not_yet;
          stamping = is.stamping;
          sent = λ node message inner i e. elim (In-append _ now.sent (outer_sends state.epoch out.sends) i) [
            | inl old ↦ In-left _ alone.sent out.sends (is.sent node message inner old e)
            | inr new ↦ In-right _ alone.sent out.sends (unwrap state.epoch node message _ out.sends said new e).1
          ];
        };
        frozen = everywhere (λ a b. epoch.0 < (state_of now.replicas a b).promised.0 → read system (with_replica alone.replicas shard replica out.state) a b ≡ read system alone.replicas a b) shard replica
            (λ lt. let z = ap (λ (x : ReplicaState). x.promised.0) (state_of-some now.replicas shard replica state h) in let e = ap (λ (x : Epoch). x.0) same in absurd (omega arith))
            (λ a b apart lt. small_other shard replica state.inner out.state k a b apart);
        closed = λ lt. refl;
      }

  -- ---- the event of the epoch
  Step : Servers → Type 0
  Step after = (event : EpochEvent) × Follows system now after alone (happens system alone event)

  idle : (after : Servers) → Follows system now after alone alone → Step after
  unfolding Step happens
  idle after h = (Idles, h)

  by_message : (shard : ShardId) (replica : ReplicaId) (inner : EpochReplica) (message : EpochMessage) → replica_at alone.replicas shard replica ≡ Some inner → In (record { to = Replica shard replica; message = message }) alone.sent
      → (event : EpochEvent) × (happens system alone event ≡ after_replica alone shard replica (epoch_step (member_of system shard replica) inner (Get message)))
  unfolding happens replica_takes replica_steps
  by_message shard replica inner message h i = let at = In-index _ alone.sent i in (Delivers at.0, rw (at.1, h) refl)

  pub by_input : (shard : ShardId) (replica : ReplicaId) (inner : EpochReplica) (input : ReplicaInput) (meant : EpochInput) → replica_at alone.replicas shard replica ≡ Some inner → Came now.sent shard replica input
      → Means (me_at config shard replica) epoch input meant → (event : EpochEvent) × (happens system alone event ≡ after_replica alone shard replica (epoch_step (member_of system shard replica) inner meant))
  unfolding happens replica_takes replica_steps
  by_input shard replica inner _ _ h came (Says message said ok e) = by_message shard replica inner said h (is.sent _ message said came e)
  by_input shard replica inner _ _ h came Means.Probes = (Probes shard replica, rw h refl)
  by_input shard replica inner _ _ h came Means.Suspects = (Suspects shard replica, rw h refl)
  by_input shard replica inner _ _ h came Means.Syncs = (Syncs shard replica, rw h refl)

  pub inner_at : (shard : ShardId) (replica : ReplicaId) (state : ReplicaState) → replica_at now.replicas shard replica ≡ Some state → state.epoch ≡ epoch → replica_at alone.replicas shard replica ≡ Some state.inner
  inner_at shard replica state h e =
      let y = is.found shard replica state h in
      let was = state_of-some now.replicas shard replica state h in
      let same : y.0 ≡ state.inner = sym (read-some system alone.replicas shard replica y.0 y.1) ∙ is.there shard replica (ap (λ (x : ReplicaState). x.epoch) was ∙ e) ∙ ap (λ (x : ReplicaState). x.inner) was in
      y.1 ∙ ap Some same

  there_here : (shard : ShardId) (replica : ReplicaId) (state : ReplicaState) → replica_at now.replicas shard replica ≡ Some state → state.epoch ≡ epoch → read system alone.replicas shard replica ≡ state.inner
  there_here shard replica state h e = read-some system alone.replicas shard replica state.inner (inner_at shard replica state h e)

  not_yet_here : (shard : ShardId) (replica : ReplicaId) (state : ReplicaState) → replica_at now.replicas shard replica ≡ Some state → state.epoch.0 < epoch.0 → read system alone.replicas shard replica ≡ fresh epoch shard
  not_yet_here shard replica state h lt = is.not_yet shard replica (subst (λ (x : ReplicaState). x.epoch.0 < epoch.0) (sym (state_of-some now.replicas shard replica state h)) lt)

  -- a member of the epoch has its prior
  pub same_member : (shard : ShardId) (replica : ReplicaId) (state : ReplicaState) → state.prior ≡ prior shard → member (me_at config shard replica) state ≡ member_of system shard replica
  same_member shard replica state e = λ i. record { config = config; shard = shard; replica = replica; prior = e i }

  says_one : (node : Node) (message : Message) → inner_of message ≡ None → (to : Node) (other : Message) (inner : EpochMessage)
      → In {X = Outgoing} (record { to = to; message = other }) (record { to = node; message = message } ∷ []) → inner_of other ≡ Some (record { epoch = epoch; message = inner }) → ⊥
  says_one node message none to other inner i h = nothing_said to other _ (record { to = node; message = message } ∷ []) (none, tt) i h

  -- what is said in another epoch is none of this one
  other_epoch : (state : ReplicaState) (out : EpochOut) → (state.epoch.0 ≡ epoch.0 → ⊥) → Each (λ one. SaidIn state.epoch one.message) out.sends → (node : Node) (message : Message) (inner : EpochMessage)
      → In (record { to = node; message = message }) (steps_in state out).sends → inner_of message ≡ Some (record { epoch = epoch; message = inner }) → ⊥
  unfolding steps_in
  other_epoch state out apart said node message inner i e = apart (sym (ap (λ (x : Epoch). x.0) (unwrap state.epoch node message _ out.sends said i e).0))

  inner_step : (shard : ShardId) (replica : ReplicaId) (state : ReplicaState) (input : ReplicaInput) (meant : EpochInput) → replica_at now.replicas shard replica ≡ Some state → Came now.sent shard replica input
      → state.promised.0 ≤ state.epoch.0 → Means (me_at config shard replica) state.epoch input meant → (state.epoch ≡ epoch → state.prior ≡ prior shard)
      → Each (λ one. SaidIn state.epoch one.message) (epoch_step (member (me_at config shard replica) state) state.inner meant).sends
      → (state.epoch.0 ≡ epoch.0) ⊎ (state.epoch.0 ≡ epoch.0 → ⊥) → Step (replica_moved now shard replica (steps (me_at config shard replica) state meant))
  unfolding Step steps steps_in
  inner_step shard replica state input meant h came live means priors said (inl d) =
      let same : state.epoch ≡ epoch = epoch_equal _ _ d in
      let k = inner_at shard replica state h same in
      let event = by_input shard replica state.inner input meant k came (subst (λ e. Means (me_at config shard replica) e input meant) same means) in
      let out : EpochOut = epoch_step (member (me_at config shard replica) state) state.inner meant in
      let is_out : happens system alone event.0 ≡ after_replica alone shard replica out =
      event.1 ∙ ap (λ m. after_replica alone shard replica (epoch_step m state.inner meant)) (sym (same_member shard replica state (priors same))) in
      (event.0, subst (λ next. Follows system now (replica_moved now shard replica (steps_in state out)) alone next) (sym is_out) (both_replica shard replica state out h k same live said))
  inner_step shard replica state input meant h came live means priors said (inr d) =
      idle _ (idle_replica shard replica state (steps_in state (epoch_step (member (me_at config shard replica) state) state.inner meant)) h (λ e. absurd (d (ap (λ (x : Epoch). x.0) e)))
      (λ lt. not_yet_here shard replica state h lt) (other_epoch state (epoch_step (member (me_at config shard replica) state) state.inner meant) d said))

  -- any step of a replica
  replica_step' : SayTheirEpochs config now → ((shard : ShardId) (replica : ReplicaId) (state : ReplicaState) → replica_at now.replicas shard replica ≡ Some state → state.epoch ≡ epoch → state.prior ≡ prior shard)
      → (shard : ShardId) (replica : ReplicaId) (state : ReplicaState) (input : ReplicaInput) (out : ReplicaOut) → replica_at now.replicas shard replica ≡ Some state → Came now.sent shard replica input
      → ReplicaLeaf (me_at config shard replica) state input out → Step (replica_moved now shard replica out)
  unfolding asks_start promises begun
  replica_step' say priors shard replica state input _ h came (ReplicaLeaf.Nothing i) =
      idle _ (idle_replica shard replica state (still state) h (there_here shard replica state h) (not_yet_here shard replica state h) (λ node message inner j e. absurd j))
  replica_step' say priors shard replica state input _ h came (ReplicaLeaf.Within i meant live means) =
      inner_step shard replica state input meant h came live means (priors shard replica state h) (say.replicas shard replica state input meant h came means) (cases_eq state.epoch.0 epoch.0)
  replica_step' say priors shard replica state input _ h came (ReplicaLeaf.AsksStart i other) =
      idle _ (idle_replica shard replica state (asks_start (me_at config shard replica) state other) h (there_here shard replica state h) (not_yet_here shard replica state h) (says_one _ (Message.NewEpoch shard replica other) refl))
  replica_step' say priors shard replica state _ _ h came (ReplicaLeaf.Promises other up above) =
      idle _ (idle_replica shard replica state (promises (me_at config shard replica) state other) h (there_here shard replica state h) (not_yet_here shard replica state h) (says_one _ (Message.EpochState replica other state.inner.part) refl))
  replica_step' say priors shard replica state _ _ h came (ReplicaLeaf.Begins other s packets same above up) =
      idle _ (idle_replica shard replica state (still (begun other shard packets)) h
      (λ e. not_yet_here shard replica state h (let z = ap (λ (x : Epoch). x.0) e in omega (arith, above)) ∙ ap (λ (x : Epoch). fresh x shard) (sym e))
      (λ lt. not_yet_here shard replica state h (omega (arith, above))) (λ node message inner j e. absurd j))

  -- ---- the coordinator
  idle_coordinator : (out : CoordOut) → (out.state.current ≡ epoch → alone.coordinator ≡ out.state.inner) → (out.state.current.0 < epoch.0 → alone.coordinator ≡ Rattle.eris_rules.specs.CoordStates.nothing_asked)
      → ((node : Node) (message : Message) (inner : EpochMessage) → In (record { to = node; message = message }) out.sends → inner_of message ≡ Some (record { epoch = epoch; message = inner }) → ⊥)
      → Follows system now (coordinator_moved now out) alone alone
  idle_coordinator out p q none = record {
    is_alone = record { there = is.there; not_yet = is.not_yet; found = is.found; coordinator = p; coordinator_not_yet = q; stamping = is.stamping; sent = no_more out.sends none };
    frozen = λ a b k. refl;
    closed = λ k. refl;
  }

  both_coordinator : (out : EpochCoordOut) → now.coordinator.current ≡ epoch → Each (λ one. SaidIn now.coordinator.current one.message) out.sends
      → Follows system now (coordinator_moved now (coord_steps_in now.coordinator out)) alone (after_coordinator alone out)
  unfolding after_coordinator coord_steps_in
  both_coordinator out same said = record {
    is_alone = record {
      there = is.there;
      not_yet = is.not_yet;
      found = is.found;
      coordinator = λ e. refl;
      coordinator_not_yet = λ lt. let e = ap (λ (x : Epoch). x.0) same in absurd (omega arith);
      stamping = is.stamping;
      sent = λ node message inner i e. elim (In-append _ now.sent (outer_sends now.coordinator.current out.sends) i) [
        | inl old ↦ In-left _ alone.sent out.sends (is.sent node message inner old e)
        | inr new ↦ In-right _ alone.sent out.sends (unwrap now.coordinator.current node message _ out.sends said new e).1
      ];
    };
    frozen = λ a b k. refl;
    closed = λ lt. let e = ap (λ (x : Epoch). x.0) same in absurd (omega arith);
  }

  other_current : (out : EpochCoordOut) → (now.coordinator.current.0 ≡ epoch.0 → ⊥) → Each (λ one. SaidIn now.coordinator.current one.message) out.sends → (node : Node) (message : Message) (inner : EpochMessage)
      → In (record { to = node; message = message }) (coord_steps_in now.coordinator out).sends → inner_of message ≡ Some (record { epoch = epoch; message = inner }) → ⊥
  unfolding coord_steps_in
  other_current out apart said node message inner i e = apart (sym (ap (λ (x : Epoch). x.0) (unwrap now.coordinator.current node message _ out.sends said i e).0))

  pub by_notice : (message : EpochMessage) → In (record { to = Coordinator; message = message }) alone.sent → (event : EpochEvent) × (happens system alone event ≡ after_coordinator alone (epoch_coord_step config alone.coordinator message))
  unfolding happens
  by_notice message i = let at = In-index _ alone.sent i in (Delivers at.0, rw at.1 refl)

  pub nudge_happens : happens system alone Nudges ≡ after_coordinator alone (nudge_row config alone.coordinator)
  unfolding happens
  nudge_happens = refl

  within_current : (out : EpochCoordOut) → Each (λ one. SaidIn now.coordinator.current one.message) out.sends → (now.coordinator.current.0 ≡ epoch.0) ⊎ (now.coordinator.current.0 ≡ epoch.0 → ⊥)
      → (now.coordinator.current ≡ epoch → (event : EpochEvent) × (happens system alone event ≡ after_coordinator alone out)) → Step (coordinator_moved now (coord_steps_in now.coordinator out))
  unfolding Step coord_steps_in
  within_current out said (inl d) event =
      let same : now.coordinator.current ≡ epoch = epoch_equal _ _ d in
      let x = event same in
      (x.0, subst (λ next. Follows system now (coordinator_moved now (coord_steps_in now.coordinator out)) alone next) (sym x.1) (both_coordinator out same said))
  within_current out said (inr d) event =
      idle _ (idle_coordinator (coord_steps_in now.coordinator out) (λ e. absurd (d (ap (λ (x : Epoch). x.0) e))) is.coordinator_not_yet (other_current out d said))

  coordinator_step : SayTheirEpochs config now → (message : Message) (out : CoordOut) → In (record { to = Coordinator; message = message }) now.sent → CoordLeaf config now.coordinator message out → Step (coordinator_moved now out)
  unfolding starts raises_target closes after_closing begun_epoch
  coordinator_step say message _ i (CoordLeaf.Nothing m) = idle _ (idle_coordinator (stays now.coordinator) is.coordinator is.coordinator_not_yet (λ node other inner j e. absurd j))
  coordinator_step say message _ i (CoordLeaf.Within m inner ok said thawed) =
      within_current (epoch_coord_step config now.coordinator.inner inner) (say.coordinator message inner i said) (cases_eq now.coordinator.current.0 epoch.0)
      (λ same. let x = by_notice inner (is.sent _ message inner i (said ∙ ap (λ (e : Epoch). Some (record { epoch = e; message = inner })) same)) in
      (x.0, x.1 ∙ ap (λ c. after_coordinator alone (epoch_coord_step config c inner)) (is.coordinator same)))
  coordinator_step say message _ i (CoordLeaf.Starts m shard replica) =
      idle _ (idle_coordinator (starts now.coordinator shard replica) is.coordinator is.coordinator_not_yet (says_one _ (start_of now.coordinator shard) refl))
  coordinator_step say _ _ i (CoordLeaf.Raises shard replica other up) =
      idle _ (idle_coordinator (raises_target config now.coordinator other) is.coordinator is.coordinator_not_yet
      (λ node message inner j e. nothing_said node message _ _ (each_told (λ (one : Outgoing). inner_of one.message ≡ None) (all_replicas config) (Message.EpochAsk other) (λ n. refl)) j e))
  coordinator_step say _ _ i (CoordLeaf.Notes replica part up ok) = idle _ (idle_coordinator (stays (noting now.coordinator replica part)) is.coordinator is.coordinator_not_yet (λ node other inner j e. absurd j))
  coordinator_step say _ _ i (CoordLeaf.Closes replica part up ok ready) =
      idle _ (idle_coordinator (closes config (noting now.coordinator replica part))
      (λ e. is.coordinator_not_yet (let z = ap (λ (x : Epoch). x.0) e in omega (arith, up))) (λ lt. is.coordinator_not_yet (omega (arith, up)))
      (λ node message inner j e. nothing_said node message _ _ (starts_say_nothing config (after_closing config (noting now.coordinator replica part))) j e))

  -- ---- the sequencers
  stamps_other : (at : Epoch) (stamping : Stamping) (asker : ClientId) (id : TxnId) (body : Body) → slice_get now.stampings at.0 ≡ Some stamping → stamping.sequencer.epoch ≡ at → (epoch.0 ≡ at.0 → ⊥)
      → Follows system now (stamped config now at stamping asker id body) alone alone
  stamps_other at stamping asker id body h own apart = record {
    is_alone = record {
      there = is.there;
      not_yet = is.not_yet;
      found = is.found;
      coordinator = is.coordinator;
      coordinator_not_yet = is.coordinator_not_yet;
      stamping = is.stamping ∙ sym (stamping-other config now at stamping (stamped_next stamping id asker body) h epoch apart);
      sent = no_more (sends_of config.f (next_packet stamping.sequencer id asker body)) (λ node message inner i e.
          apart (ap (λ (x : Epoch). x.0) (unwrap at node message _ (packet_sends config (next_packet stamping.sequencer id asker body)) (packet_said at stamping asker id body own config)
          (subst (λ list. In (record { to = node; message = message }) list) (stamped_sends config at (next_packet stamping.sequencer id asker body)) i) e).0));
    };
    frozen = λ a b k. refl;
    closed = λ k. refl;
  }

  stamps_own : (at : Epoch) (stamping : Stamping) (asker : ClientId) (id : TxnId) (body : Body) → slice_get now.stampings at.0 ≡ Some stamping → stamping.sequencer.epoch ≡ at → epoch ≡ at → alone.stamping ≡ stamping
      → Follows system now (stamped config now at stamping asker id body) alone (after_stamping system alone asker id body)
  unfolding after_stamping
  stamps_own at stamping asker id body h own same is_stamping =
      let packet : Packet = next_packet stamping.sequencer id asker body in
      record {
        is_alone = record {
          there = is.there;
          not_yet = is.not_yet;
          found = is.found;
          coordinator = is.coordinator;
          coordinator_not_yet = is.coordinator_not_yet;
          stamping = ap (λ (s : Stamping). stamped_next s id asker body) is_stamping
              ∙ sym (subst (λ e. stamping_of config (slice_set now.stampings at.0 (stamped_next stamping id asker body)) e ≡ stamped_next stamping id asker body) (sym same) (stamping-made config now at stamping (stamped_next stamping id asker body) h));
          sent = λ node message inner i e. elim (In-append _ now.sent (sends_of config.f packet) i) [
            | inl old ↦ In-left _ alone.sent _ (is.sent node message inner old e)
            | inr new ↦ In-right _ alone.sent _ (subst (λ (s : Stamping). In (record { to = node; message = inner }) (packet_sends config (next_packet s.sequencer id asker body))) (sym is_stamping)
                (unwrap at node message _ (packet_sends config packet) (packet_said at stamping asker id body own config) (subst (λ list. In (record { to = node; message = message }) list) (stamped_sends config at packet) new) e).1)
          ];
        };
        frozen = λ a b k. refl;
        closed = λ k. refl;
      }

  ask_happens : (stamping : Stamping) (asker : ClientId) (id : TxnId) (body : Body) → alone.stamping ≡ stamping → is_in_place config asker id body ≡ true → is_full stamping.sequencer.counters (participants_of body) ≡ false
      → happens system alone (Rattle.eris_law_epoch.specs.EpochWorlds.Asks asker id body) ≡ after_stamping system alone asker id body
  unfolding happens asks_stamp
  ask_happens stamping asker id body e fits free =
      let free' : is_full alone.stamping.sequencer.counters (participants_of body) ≡ false = ap (λ (s : Stamping). is_full s.sequencer.counters (participants_of body)) e ∙ free in
      rw (fits, free') refl

  stamp_step : (at : Epoch) (stamping : Stamping) (asker : ClientId) (id : TxnId) (body : Body) → slice_get now.stampings at.0 ≡ Some stamping → stamping.sequencer.epoch ≡ at
      → is_in_place config asker id body ≡ true → is_full stamping.sequencer.counters (participants_of body) ≡ false → (epoch.0 ≡ at.0) ⊎ (epoch.0 ≡ at.0 → ⊥) → Step (stamped config now at stamping asker id body)
  unfolding Step
  stamp_step at stamping asker id body h own fits free (inr apart) = idle _ (stamps_other at stamping asker id body h own apart)
  stamp_step at stamping asker id body h own fits free (inl d) =
      let same : epoch ≡ at = epoch_equal _ _ d in
      let is_stamping : alone.stamping ≡ stamping = is.stamping ∙ ap (stamping_of config now.stampings) same ∙ stamping-there config now at stamping h in (
        Rattle.eris_law_epoch.specs.EpochWorlds.Asks asker id body,
        subst (λ next. Follows system now (stamped config now at stamping asker id body) alone next) (sym (ask_happens stamping asker id body is_stamping fits free)) (stamps_own at stamping asker id body h own same is_stamping),
      )

  replaces : Follows system now (record now { stampings = replace config now.stampings }) alone alone
  replaces = record {
    is_alone = record {
      there = is.there;
      not_yet = is.not_yet;
      found = is.found;
      coordinator = is.coordinator;
      coordinator_not_yet = is.coordinator_not_yet;
      stamping = is.stamping ∙ sym (stamping-more config now epoch);
      sent = is.sent;
    };
    frozen = λ a b k. refl;
    closed = λ k. refl;
  }

  asks : (sends : List Outgoing) → AsksOnly sends → Follows system now (record now { sent = now.sent ++ sends }) alone alone
  asks sends only = record {
    is_alone = record {
      there = is.there;
      not_yet = is.not_yet;
      found = is.found;
      coordinator = is.coordinator;
      coordinator_not_yet = is.coordinator_not_yet;
      stamping = is.stamping;
      sent = no_more sends (λ node message inner i e. nothing_said node message _ sends (Each-weaker (λ (one : Outgoing). IsAsk one.message) (λ (one : Outgoing). inner_of one.message ≡ None) (λ one h. ask_says_nothing one.message h) sends only) i e);
    };
    frozen = λ a b k. refl;
    closed = λ k. refl;
  }

  pub stays_alone : Follows system now now alone alone
  stays_alone = record { is_alone = is; frozen = λ a b k. refl; closed = λ k. refl }

  follows : SayTheirEpochs config now → ((shard : ShardId) (replica : ReplicaId) (state : ReplicaState) → replica_at now.replicas shard replica ≡ Some state → state.epoch ≡ epoch → state.prior ≡ prior shard)
      → (after : Servers) → Move config now after → Step after
  follows say priors _ Rests = idle _ stays_alone
  follows say priors _ (ReplicaMoves shard replica state input out h came leaf) = replica_step' say priors shard replica state input out h came leaf
  follows say priors _ (CoordinatorMoves message out i leaf) = coordinator_step say message out i leaf
  follows say priors _ AsksAgain = idle _ (idle_coordinator (asked_again config now) is.coordinator is.coordinator_not_yet
      (λ node message inner j e. nothing_said node message _ _ (each_told (λ (one : Outgoing). inner_of one.message ≡ None) (all_replicas config) (Message.EpochAsk now.coordinator.target) (λ n. refl)) j e))
  follows say priors _ (Move.Nudges thawed) = within_current (nudge_row config now.coordinator.inner) say.nudged (cases_eq now.coordinator.current.0 epoch.0)
      (λ same. (Nudges, nudge_happens ∙ ap (λ c. after_coordinator alone (nudge_row config c)) (is.coordinator same)))
  follows say priors _ (Stamps at stamping asker id body h fits free) = stamp_step at stamping asker id body h (say.sequencers at stamping h) fits free (cases_eq epoch.0 at.0)
  follows say priors _ Replaces = idle _ replaces
  follows say priors _ (Asks sends only) = idle _ (asks sends only)

  -- ONE EVENT of the whole is one event of the epoch
  pub follow : SayTheirEpochs config now → ((shard : ShardId) (replica : ReplicaId) (state : ReplicaState) → replica_at now.replicas shard replica ≡ Some state → state.epoch ≡ epoch → state.prior ≡ prior shard)
      → (after : Servers) → Move config now after → (event : EpochEvent) × Follows system now after alone (happens system alone event)
  unfolding Step
  follow say priors after move = follows say priors after move
