-- What holds of the epochs at every moment: nobody is in an epoch above the current one; closed packets are of
-- epochs below it; and what a replica has of the epochs before its own, like each start that was sent, is its
-- shard's log of what was closed below that epoch, whatever was closed since.
use Rattle.std.proofs.Common.{◌≡◌, inl, inr, ℕ, zero, suc, ◌+◌, ◌<◌, ◌≤◌, List, [], ◌++◌, true, Option, Some, None, refl, sym, ap, ◌∙◌, subst, arith, replicate, map}
use Rattle.std.specs.List.{range_with_len}
use Rattle.std.specs.Prelude.{slice_get}
use Rattle.std.proofs.lemmas.Bool.{and_parts, ltb-true}
use Rattle.eris_base.specs.declared.ids.Epoch.{Epoch}
use Rattle.eris_base.specs.declared.ids.Node.{Node}
use Rattle.eris_base.specs.declared.ids.Node.TheVariants.{Coordinator}
use Rattle.eris_base.specs.declared.ids.ReplicaId.{ReplicaId}
use Rattle.eris_base.specs.declared.ids.ShardId.{ShardId}
use Rattle.eris_base.specs.ConfigLimits.{ConfigValue}
use Rattle.eris_base.specs.Each.{Each}
use Rattle.eris_base.proofs.Each.{Each-append, Each-weaker}
use Rattle.eris_txn.specs.declared.packet.Packet.{Packet}
use Rattle.eris_log.specs.PartValues.{PartValue}
use Rattle.eris_epoch.specs.declared.noted.NotedPart.{NotedPart}
use Rattle.eris_epoch.specs.Closing.{shard_log}
use Rattle.eris_epoch.proofs.Additions.{shard_log-none}
use Rattle.eris_epoch.proofs.EpochLaws.{each-with_noted}
use Rattle.eris_msg.specs.declared.message.Message.{Message}
use Rattle.eris_msg.specs.declared.outgoing.Outgoing.{Outgoing}
use Rattle.eris_event.specs.declared.event.Event.{Event}
use Rattle.eris_rules.specs.declared.replica_input.ReplicaInput.{ReplicaInput}
use Rattle.eris_rules.specs.Addressees.{replica_count}
use Rattle.eris_rules.specs.Coordinators.{coord_steps_in, starts, raises_target, left_behind, after_closing, closes}
use Rattle.eris_rules.specs.CoordStates.{CoordState, CoordOut, begun_epoch, first_coordinator, nothing_asked}
use Rattle.eris_rules.specs.EpochCoords.{epoch_coord_step, nudge_row}
use Rattle.eris_rules.specs.EpochMessages.{EpochMessage, Stamped, Instructs, Notifies, Exchanges, Responds, Has}
use Rattle.eris_rules.specs.InPlace.{is_in_place_at_coordinator, is_right_part, is_sound, all_name_participants, packets_in}
use Rattle.eris_rules.specs.Known.{knows_all, knows_replica, knows_part}
use Rattle.eris_rules.specs.Outer.{inner_of, IsOf}
use Rattle.eris_rules.specs.ReplicaStates.{ReplicaState, ReplicaOut, begun, first_state}
use Rattle.eris_rules.specs.Replicas.{steps, steps_in, asks_start, promises}
use Rattle.eris_rules.specs.Worlds.{first_world, first_replicas, replica_at, with_replica, in_row}
use Rattle.eris_law_epoch.specs.Members.{In}
use Rattle.eris_law_epoch.proofs.Coords.{notice_in, right_coord}
use Rattle.eris_law_epoch.proofs.Members.{Each-at, Each-by_In}
use Rattle.eris_law_agreement.specs.Alone.{or_first, state_of}
use Rattle.eris_law_agreement.specs.ClosedBelow.{closed_below}
use Rattle.eris_law_agreement.specs.Servers.{Servers, servers_of}
use Rattle.eris_law_agreement.specs.WorldMoments.{moment_from, world_at}
use Rattle.eris_law_agreement.proofs.Cells.{state_of-some, state-same, state-other, everywhere}
use Rattle.eris_law_agreement.proofs.ClosedLaws.{closed_below-kept, closed_below-all, left_behind-epoch}
use Rattle.eris_law_agreement.proofs.CoordLeaves.{CoordLeaf, noting}
use Rattle.eris_law_agreement.proofs.EpochGrowth.{IsAfter, is_after, replica_after, coordinator_after}
use Rattle.eris_law_agreement.proofs.InnerLaws.{said_is_of}
use Rattle.eris_law_agreement.proofs.Moves.{Move, Rests, ReplicaMoves, CoordinatorMoves, AsksAgain, Nudges, Stamps, Replaces, Asks, replica_moved, coordinator_moved, me_at, Came, next_move}
use Rattle.eris_law_agreement.proofs.ReplicaLeaves.{ReplicaLeaf}

-- a noted part was sent for the present target, and holds its packets rightly
pub record IsNotedRight (config : ConfigValue) (messages : List Outgoing) (target : Epoch) (one : NotedPart) : Type 0 where
  pub sent : In (record { to = Coordinator; message = Message.EpochState one.replica target one.part }) messages
  pub right : is_right_part one.part ≡ true
  pub there : one.replica.0 < replica_count config

-- a replica is at most in the current epoch, with what was closed below its own
pub record IsOfClosed (current : Epoch) (closed : List Packet) (shard : ShardId) (state : ReplicaState) : Type 0 where
  pub epoch : state.epoch.0 ≤ current.0
  pub prior : state.prior ≡ shard_log (closed_below state.epoch closed) shard

pub record HoldOfEpochs (config : ConfigValue) (now : Servers) : Type 0 where
  pub target : now.coordinator.current.0 ≤ now.coordinator.target.0
  pub replicas : (shard : ShardId) (replica : ReplicaId) → IsOfClosed now.coordinator.current now.coordinator.closed shard (state_of now.replicas shard replica)
  pub starts : (node : Node) (epoch : Epoch) (shard : ShardId) (packets : List Packet) → In (record { to = node; message = Message.StartEpoch epoch shard packets }) now.sent
      → (epoch.0 ≤ now.coordinator.current.0) × (packets ≡ shard_log (closed_below epoch now.coordinator.closed) shard)
  pub below : Each (λ (packet : Packet). packet.stamp.epoch.0 < now.coordinator.current.0) now.coordinator.closed
  pub found : Each (λ (packet : Packet). packet.stamp.epoch ≡ now.coordinator.current) now.coordinator.inner.found
  pub noted : Each (IsNotedRight config now.sent now.coordinator.target) now.coordinator.noted

-- ---- steps that leave the current epoch and what is closed
pub record SameEpochs (now after : Servers) : Type 0 where
  pub current : after.coordinator.current ≡ now.coordinator.current
  pub closed : after.coordinator.closed ≡ now.coordinator.closed

same_epochs : (config : ConfigValue) (now after : Servers) → IsAfter config now after → HoldOfEpochs config now → SameEpochs now after
    → ((shard : ShardId) (replica : ReplicaId) → IsOfClosed now.coordinator.current now.coordinator.closed shard (state_of after.replicas shard replica))
    → Each (λ (packet : Packet). packet.stamp.epoch ≡ now.coordinator.current) after.coordinator.inner.found
    → Each (IsNotedRight config after.sent after.coordinator.target) after.coordinator.noted → HoldOfEpochs config after
same_epochs config now after step hold same states found noted = record {
  target = let le = hold.target in let up = step.target in let e = ap (λ (x : Epoch). x.0) same.current in omega arith;
  replicas = λ shard replica. let s = states shard replica in record {
    epoch = subst (λ (e : Epoch). (state_of after.replicas shard replica).epoch.0 ≤ e.0) (sym same.current) s.epoch;
    prior = subst (λ closed. (state_of after.replicas shard replica).prior ≡ shard_log (closed_below (state_of after.replicas shard replica).epoch closed) shard) (sym same.closed) s.prior;
  };
  starts = λ node epoch shard packets i. elim (step.new _ i) [
    | inl old ↦ (let s = hold.starts node epoch shard packets old in
        (subst (λ (e : Epoch). epoch.0 ≤ e.0) (sym same.current) s.0, subst (λ closed. packets ≡ shard_log (closed_below epoch closed) shard) (sym same.closed) s.1))
    | inr new ↦ started node epoch shard packets new
  ];
  below = below;
  found = subst (λ (e : Epoch). Each (λ (packet : Packet). packet.stamp.epoch ≡ e) after.coordinator.inner.found) (sym same.current) found;
  noted = noted;
}
  where
    below : Each (λ (packet : Packet). packet.stamp.epoch.0 < after.coordinator.current.0) after.coordinator.closed
    below = subst (λ closed. Each (λ (packet : Packet). packet.stamp.epoch.0 < after.coordinator.current.0) closed) (sym same.closed)
        (subst (λ (e : Epoch). Each (λ (packet : Packet). packet.stamp.epoch.0 < e.0) now.coordinator.closed) (sym same.current) hold.below)

    started : (node : Node) (epoch : Epoch) (shard : ShardId) (packets : List Packet) → (epoch ≡ after.coordinator.current) × (packets ≡ shard_log after.coordinator.closed shard)
        → (epoch.0 ≤ after.coordinator.current.0) × (packets ≡ shard_log (closed_below epoch after.coordinator.closed) shard)
    started node epoch shard packets new =
        let all : Each (λ (packet : Packet). packet.stamp.epoch.0 < epoch.0) after.coordinator.closed = subst (λ (e : Epoch). Each (λ (packet : Packet). packet.stamp.epoch.0 < e.0) after.coordinator.closed) (sym new.0) below in
        (let e = ap (λ (x : Epoch). x.0) new.0 in omega arith, new.1 ∙ ap (λ closed. shard_log closed shard) (sym (closed_below-all epoch after.coordinator.closed all)))

-- what was noted stays noted, as more is sent
more_sent : (config : ConfigValue) (now after : Servers) → ((one : Outgoing) → In one now.sent → In one after.sent) → after.coordinator.target ≡ now.coordinator.target
    → Each (IsNotedRight config now.sent now.coordinator.target) now.coordinator.noted → Each (IsNotedRight config after.sent after.coordinator.target) now.coordinator.noted
more_sent config now after kept same noted =
    subst (λ (e : Epoch). Each (IsNotedRight config after.sent e) now.coordinator.noted) (sym same)
    (Each-weaker (IsNotedRight config now.sent now.coordinator.target) (IsNotedRight config after.sent now.coordinator.target) (λ one h. record { sent = kept _ h.sent; right = h.right; there = h.there }) now.coordinator.noted noted)

-- a state that comes to the coordinator in place holds its packets rightly
right_state : (config : ConfigValue) (replica : ReplicaId) (epoch : Epoch) (part : PartValue) → is_in_place_at_coordinator config (Message.EpochState replica epoch part) ≡ true → is_right_part part ≡ true
unfolding is_in_place_at_coordinator is_sound
right_state config replica epoch part ok =
    let sound = (and_parts true _ ok).1 in
    let rest = (and_parts (knows_all config (Message.EpochState replica epoch part)) _ sound).1 in
    (and_parts (is_right_part part) true (and_parts (all_name_participants (packets_in (Message.EpochState replica epoch part))) _ rest).1).0

-- and it comes from a replica of the config
known_replica : (config : ConfigValue) (replica : ReplicaId) (epoch : Epoch) (part : PartValue) → is_in_place_at_coordinator config (Message.EpochState replica epoch part) ≡ true → replica.0 < replica_count config
unfolding is_in_place_at_coordinator is_sound knows_all
known_replica config replica epoch part ok =
    let sound = (and_parts true _ ok).1 in
    ltb-true _ _ (and_parts (knows_replica config replica) (knows_part config part) (and_parts _ _ sound).0).0

module _ (config : ConfigValue) (now : Servers) (hold : HoldOfEpochs config now) where
  -- the replicas are as they were
  as_were : (after : Servers) → after.replicas ≡ now.replicas → (shard : ShardId) (replica : ReplicaId) → IsOfClosed now.coordinator.current now.coordinator.closed shard (state_of after.replicas shard replica)
  as_were after e shard replica = subst (λ rows. IsOfClosed now.coordinator.current now.coordinator.closed shard (state_of rows shard replica)) (sym e) (hold.replicas shard replica)

  -- neither replicas nor the coordinator change
  only_network : (after : Servers) → IsAfter config now after → after.replicas ≡ now.replicas → after.coordinator ≡ now.coordinator → HoldOfEpochs config after
  only_network after step rows e =
      same_epochs config now after step hold (record { current = ap (λ (c : CoordState). c.current) e; closed = ap (λ (c : CoordState). c.closed) e })
      (as_were after rows)
      (subst (λ (c : CoordState). Each (λ (packet : Packet). packet.stamp.epoch ≡ now.coordinator.current) c.inner.found) (sym e) hold.found)
      (subst (λ noted. Each (IsNotedRight config after.sent after.coordinator.target) noted) (sym (ap (λ (c : CoordState). c.noted) e)) (more_sent config now after step.kept (ap (λ (c : CoordState). c.target) e) hold.noted))

  own : (shard : ShardId) (replica : ReplicaId) (state : ReplicaState) → replica_at now.replicas shard replica ≡ Some state → IsOfClosed now.coordinator.current now.coordinator.closed shard state
  own shard replica state found = subst (IsOfClosed now.coordinator.current now.coordinator.closed shard) (state_of-some now.replicas shard replica state found) (hold.replicas shard replica)

  replica_kept : (shard : ShardId) (replica : ReplicaId) (state : ReplicaState) (out : ReplicaOut) → replica_at now.replicas shard replica ≡ Some state → IsAfter config now (replica_moved now shard replica out)
      → IsOfClosed now.coordinator.current now.coordinator.closed shard out.state → HoldOfEpochs config (replica_moved now shard replica out)
  replica_kept shard replica state out found step made =
      same_epochs config now (replica_moved now shard replica out) step hold (record { current = refl; closed = refl })
      (everywhere (λ a b. IsOfClosed now.coordinator.current now.coordinator.closed a (state_of (with_replica now.replicas shard replica out.state) a b)) shard replica
      (subst (IsOfClosed now.coordinator.current now.coordinator.closed shard) (sym (state-same now.replicas shard replica state out.state found)) made)
      (λ a b apart. subst (IsOfClosed now.coordinator.current now.coordinator.closed a) (sym (state-other now.replicas shard replica state out.state found a b apart)) (hold.replicas a b)))
      hold.found
      (more_sent config now (replica_moved now shard replica out) step.kept refl hold.noted)

  replica_holds : (shard : ShardId) (replica : ReplicaId) (state : ReplicaState) (input : ReplicaInput) (out : ReplicaOut) → replica_at now.replicas shard replica ≡ Some state → Came now.sent shard replica input
      → ReplicaLeaf (me_at config shard replica) state input out → IsOfClosed now.coordinator.current now.coordinator.closed shard out.state
  unfolding steps steps_in asks_start promises begun
  replica_holds shard replica state input _ found came (ReplicaLeaf.Nothing i) = own shard replica state found
  replica_holds shard replica state input _ found came (ReplicaLeaf.Within i inner live means) = let o = own shard replica state found in record { epoch = o.epoch; prior = o.prior }
  replica_holds shard replica state input _ found came (ReplicaLeaf.AsksStart i epoch) = own shard replica state found
  replica_holds shard replica state _ _ found came (ReplicaLeaf.Promises epoch up above) = let o = own shard replica state found in record { epoch = o.epoch; prior = o.prior }
  replica_holds shard replica state _ _ found came (ReplicaLeaf.Begins epoch s packets same above up) =
      let s' = hold.starts _ epoch s packets came in
      record { epoch = s'.0; prior = s'.1 ∙ ap (λ x. shard_log (closed_below epoch now.coordinator.closed) x) same }

  -- ---- the coordinator
  coord_kept : (out : CoordOut) → IsAfter config now (coordinator_moved now out) → out.state.current ≡ now.coordinator.current → out.state.closed ≡ now.coordinator.closed
      → Each (λ (packet : Packet). packet.stamp.epoch ≡ now.coordinator.current) out.state.inner.found
      → Each (IsNotedRight config (coordinator_moved now out).sent out.state.target) out.state.noted → HoldOfEpochs config (coordinator_moved now out)
  coord_kept out step p q found noted =
      same_epochs config now (coordinator_moved now out) step hold (record { current = p; closed = q }) (λ shard replica. hold.replicas shard replica) found noted

  found_within : (message : Message) (inner : EpochMessage) → inner_of message ≡ Some (record { epoch = now.coordinator.current; message = inner })
      → Each (λ (packet : Packet). packet.stamp.epoch ≡ now.coordinator.current) (epoch_coord_step config now.coordinator.inner inner).state.found
  found_within message inner is = Each-by_In _ _ (λ packet i. elim ((right_coord config now.coordinator.inner inner).new packet i) [
    | inl old ↦ Each-at (λ (p : Packet). p.stamp.epoch ≡ now.coordinator.current) now.coordinator.inner.found packet hold.found old
    | inr new ↦ by_notice packet inner new (said_is_of message _ is)
  ])
    where
      by_notice : (packet : Packet) (said : EpochMessage) → notice_in said ≡ Some (Has packet) → IsOf now.coordinator.current said → packet.stamp.epoch ≡ now.coordinator.current
      by_notice packet (Stamped other) e of = absurd (cc)
      by_notice packet (Instructs instruction) e of = absurd (cc)
      by_notice packet (Notifies notice) e of = let same : notice ≡ Has packet = cc in subst (λ n. IsOf now.coordinator.current (Notifies n)) same of
      by_notice packet (Exchanges exchange) e of = absurd (cc)
      by_notice packet (Responds response) e of = absurd (cc)

  noted_now : (out : CoordOut) → out.state.target ≡ now.coordinator.target → IsAfter config now (coordinator_moved now out) → Each (IsNotedRight config (coordinator_moved now out).sent out.state.target) now.coordinator.noted
  noted_now out e step = more_sent config now (coordinator_moved now out) step.kept e hold.noted

  -- a part that came for the target is noted rightly
  pub noted_more : (replica : ReplicaId) (part : PartValue) → In (record { to = Coordinator; message = Message.EpochState replica now.coordinator.target part }) now.sent
      → is_in_place_at_coordinator config (Message.EpochState replica now.coordinator.target part) ≡ true → Each (IsNotedRight config now.sent now.coordinator.target) (noting now.coordinator replica part).noted
  noted_more replica part i ok = each-with_noted (IsNotedRight config now.sent now.coordinator.target) now.coordinator.noted (record { replica = replica; part = part }) hold.noted
      (record { sent = i; right = right_state config replica now.coordinator.target part ok; there = known_replica config replica now.coordinator.target part ok })

  -- closing: the current epoch's packets are added, and nothing changes below it
  closing_holds : (more : List Packet) (sends : List Outgoing) → now.coordinator.current.0 < now.coordinator.target.0 → Each (λ (packet : Packet). packet.stamp.epoch ≡ now.coordinator.current) more
      → IsAfter config now (coordinator_moved now (record { state = begun_epoch now.coordinator.target (now.coordinator.closed ++ more); sends = sends }))
      → HoldOfEpochs config (coordinator_moved now (record { state = begun_epoch now.coordinator.target (now.coordinator.closed ++ more); sends = sends }))
  unfolding begun_epoch nothing_asked
  closing_holds more sends up of step = record {
    target = omega arith;
    replicas = λ shard replica. let s = hold.replicas shard replica in record {
      epoch = let le = s.epoch in omega arith;
      prior = s.prior ∙ ap (λ closed. shard_log closed shard) (sym (closed_below-kept (state_of now.replicas shard replica).epoch now.coordinator.current now.coordinator.closed more s.epoch of));
    };
    starts = λ node epoch shard packets i. elim (step.new _ i) [
      | inl old ↦ (let s = hold.starts node epoch shard packets old in let le = s.0 in
          (omega arith, s.1 ∙ ap (λ closed. shard_log closed shard) (sym (closed_below-kept epoch now.coordinator.current now.coordinator.closed more s.0 of))))
      | inr new ↦ (let e = ap (λ (x : Epoch). x.0) new.0 in (
        omega arith,
        new.1 ∙ ap (λ closed. shard_log closed shard)
            (sym (closed_below-all epoch (now.coordinator.closed ++ more) (subst (λ (x : Epoch). Each (λ (packet : Packet). packet.stamp.epoch.0 < x.0) (now.coordinator.closed ++ more)) (sym new.0) every))),
      ))
    ];
    below = every;
    found = tt;
    noted = tt;
  }
    where
      every : Each (λ (packet : Packet). packet.stamp.epoch.0 < now.coordinator.target.0) (now.coordinator.closed ++ more)
      every = Each-append _ now.coordinator.closed more
          (Each-weaker (λ (packet : Packet). packet.stamp.epoch.0 < now.coordinator.current.0) (λ (packet : Packet). packet.stamp.epoch.0 < now.coordinator.target.0) (λ packet h. omega (arith, h, up)) now.coordinator.closed hold.below)
          (Each-weaker (λ (packet : Packet). packet.stamp.epoch ≡ now.coordinator.current) (λ (packet : Packet). packet.stamp.epoch.0 < now.coordinator.target.0) (λ packet h. omega (arith, ap (λ (x : Epoch). x.0) h, up)) more of)

  coordinator_holds : (message : Message) (out : CoordOut) → In (record { to = Coordinator; message = message }) now.sent → CoordLeaf config now.coordinator message out → HoldOfEpochs config (coordinator_moved now out)
  unfolding coord_steps_in starts raises_target closes after_closing
  coordinator_holds message _ i (CoordLeaf.Nothing m) = let step = coordinator_after config now message _ (CoordLeaf.Nothing m) in coord_kept _ step refl refl hold.found (noted_now _ refl step)
  coordinator_holds message _ i (CoordLeaf.Within m inner ok is thawed) =
      let step = coordinator_after config now message _ (CoordLeaf.Within m inner ok is thawed) in coord_kept _ step refl refl (found_within message inner is) (noted_now _ refl step)
  coordinator_holds message _ i (CoordLeaf.Starts m shard replica) = let step = coordinator_after config now message _ (CoordLeaf.Starts m shard replica) in coord_kept _ step refl refl hold.found (noted_now _ refl step)
  coordinator_holds _ _ i (CoordLeaf.Raises shard replica epoch up) = let step = coordinator_after config now _ _ (CoordLeaf.Raises shard replica epoch up) in coord_kept _ step refl refl hold.found tt
  coordinator_holds _ _ i (CoordLeaf.Notes replica part up ok) =
      let step = coordinator_after config now _ _ (CoordLeaf.Notes replica part up ok) in
      coord_kept _ step refl refl hold.found
      (Each-weaker (IsNotedRight config now.sent now.coordinator.target) (IsNotedRight config (now.sent ++ []) now.coordinator.target) (λ one h. record { sent = step.kept _ h.sent; right = h.right; there = h.there }) _ (noted_more replica part i ok))
  coordinator_holds _ _ i (CoordLeaf.Closes replica part up ok ready) =
      closing_holds (left_behind config (noting now.coordinator replica part)) _ up
      (left_behind-epoch config (noting now.coordinator replica part) hold.found (λ one j. (Each-at (IsNotedRight config now.sent now.coordinator.target) _ one (noted_more replica part i ok) j).right))
      (coordinator_after config now _ _ (CoordLeaf.Closes replica part up ok ready))

  nudges_hold : now.coordinator.target.0 ≤ now.coordinator.current.0 → HoldOfEpochs config (coordinator_moved now (coord_steps_in now.coordinator (nudge_row config now.coordinator.inner)))
  unfolding coord_steps_in nudge_row
  nudges_hold thawed = let step = is_after config now _ (Nudges thawed) in coord_kept (coord_steps_in now.coordinator (nudge_row config now.coordinator.inner)) step refl refl hold.found (noted_now (coord_steps_in now.coordinator (nudge_row config now.coordinator.inner)) refl step)

  pub hold_move : (after : Servers) → Move config now after → HoldOfEpochs config after
  hold_move _ Rests = hold
  hold_move _ (ReplicaMoves shard replica state input out found came leaf) = replica_kept shard replica state out found (replica_after config now shard replica state found input out leaf) (replica_holds shard replica state input out found came leaf)
  hold_move _ (CoordinatorMoves message out i leaf) = coordinator_holds message out i leaf
  hold_move _ AsksAgain = only_network _ (is_after config now _ AsksAgain) refl refl
  hold_move _ (Nudges thawed) = nudges_hold thawed
  hold_move _ (Stamps epoch stamping asker id body found fits free) = only_network _ (is_after config now _ (Stamps epoch stamping asker id body found fits free)) refl refl
  hold_move _ Replaces = only_network _ (is_after config now _ Replaces) refl refl
  hold_move _ (Asks sends only) = only_network _ (is_after config now _ (Asks sends only)) refl refl

-- ---- the start
get-replicate : {X : Type 0} (n i : ℕ) (x y : X) → slice_get (replicate n x) i ≡ Some y → x ≡ y
get-replicate zero i x y h = absurd (cc)
get-replicate (suc n) zero x y h = cc
get-replicate (suc n) (suc i) x y h = get-replicate n i x y h

first_in : (from many s r n : ℕ) (make : ℕ → ReplicaState) (state : ReplicaState) → in_row (slice_get (map (λ number. replicate n (make number)) (range_with_len from many)) s) r ≡ Some state → make (from + s) ≡ state
first_in from zero s r n make state h = absurd (cc)
first_in from (suc many) zero r n make state h = let at : from + 0 ≡ from = omega arith in ap make at ∙ get-replicate n r (make from) state h
first_in from (suc many) (suc s) r n make state h = let at : from + suc s ≡ (from + 1) + s = omega arith in ap make at ∙ first_in (from + 1) many s r n make state h

pub first_states : (config : ConfigValue) (shard : ShardId) (replica : ReplicaId) → state_of (first_world config).replicas shard replica ≡ first_state shard
unfolding first_world first_replicas state_of replica_at
first_states config shard replica = by_found (in_row (slice_get (map (λ number. first_replicas config (record { 0 = number })) (range_with_len 0 config.shards)) shard.0) replica.0) refl
  where
    by_found : (o : Option ReplicaState) → in_row (slice_get (map (λ number. first_replicas config (record { 0 = number })) (range_with_len 0 config.shards)) shard.0) replica.0 ≡ o → or_first shard o ≡ first_state shard
    by_found None h = refl
    by_found (Some state) h =
        let at : 0 + shard.0 ≡ shard.0 = omega arith in
        sym (first_in 0 config.shards shard.0 replica.0 (replica_count config) (λ number. first_state (record { 0 = number })) state h) ∙ ap (λ number. first_state (record { 0 = number })) at

of_start : (shard : ShardId) → IsOfClosed (record { 0 = 0 }) [] shard (first_state shard)
unfolding first_state begun closed_below
of_start shard = record { epoch = omega arith; prior = sym (shard_log-none shard) }

first_hold : (config : ConfigValue) → HoldOfEpochs config (servers_of (first_world config))
unfolding first_world first_coordinator begun_epoch nothing_asked
first_hold config = record {
  target = omega arith;
  replicas = λ shard replica. subst (IsOfClosed (record { 0 = 0 }) [] shard) (sym (first_states config shard replica)) (of_start shard);
  starts = λ node epoch shard packets i. absurd i;
  below = tt;
  found = tt;
  noted = tt;
}

-- AT EVERY MOMENT
pub holds_at : (config : ConfigValue) (events : List Event) (number : ℕ) → HoldOfEpochs config (servers_of (world_at config events number))
unfolding moment_from
holds_at config events zero = first_hold config
holds_at config events (suc number) = hold_move config _ (holds_at config events number) _ (next_move config events number)
