-- CLOSING KEEPS WHAT WAS SPOKEN PAST. What a noted replica ever held in an epoch is in its noted part: from its
-- promise on it is frozen there, and before it it grew. So where a quorum had no gap up to a number, one of it is
-- among the noted ones of its shard, and its packet there is closed, unless it is dropped.
use Rattle.std.proofs.Common.{◌≡◌, ◌⊎◌, inl, inr, ℕ, zero, suc, ◌+◌, ◌*◌, ◌<◌, ◌≤◌, List, [], ◌∷◌, ◌++◌, map, filter, find, option_map, Bool, true, false, cond, not, nat_lt, ◌==◌, Some, None, refl, sym, ap, ◌∙◌, subst, arith}
use Rattle.std.specs.List.{flat_map}
use Rattle.std.proofs.lemmas.Bool.{cases_eq, cases_lt, eqb-true, and_from}
use Rattle.std.proofs.lemmas.Bool.Decides.{nat_tests}
use Rattle.eris_base.specs.declared.ids.Epoch.{Epoch}
use Rattle.eris_base.specs.declared.ids.Node.TheVariants.{Coordinator}
use Rattle.eris_base.specs.declared.ids.ReplicaId.{ReplicaId}
use Rattle.eris_base.specs.declared.ids.ShardId.{ShardId}
use Rattle.eris_base.specs.ConfigLimits.{ConfigValue}
use Rattle.eris_base.specs.Each.{Each}
use Rattle.eris_base.specs.Quorums.{has_replica, same_replica, are_quorum}
use Rattle.eris_base.proofs.Booleans.{number_self}
use Rattle.eris_base.proofs.IdLaws.{shard_equal, epoch_equal}
use Rattle.eris_txn.specs.declared.packet.Packet.{Packet}
use Rattle.eris_log.specs.Held.{packet_at}
use Rattle.eris_log.specs.PartValues.{PartValue}
use Rattle.eris_log.specs.Parts.{empty_part}
use Rattle.eris_log.specs.Places.{any_among}
use Rattle.eris_epoch.specs.declared.noted.NotedPart.{NotedPart}
use Rattle.eris_epoch.specs.Closing.{held_of, held_in}
use Rattle.eris_epoch.specs.EpochTallies.{replicas_of, is_ready}
use Rattle.eris_epoch.proofs.EpochLaws.{IsClosing-close, ready_has_quorum}
use Rattle.eris_msg.specs.declared.message.Message.{Message}
use Rattle.eris_msg.specs.declared.outgoing.Outgoing.{Outgoing}
use Rattle.eris_event.specs.declared.event.Event.{Event}
use Rattle.eris_rules.specs.Coordinators.{coord_steps_in, starts, raises_target, epoch_tally, left_behind, after_closing, closes}
use Rattle.eris_rules.specs.CoordStates.{EpochCoord, CoordState, CoordOut, begun_epoch, first_coordinator}
use Rattle.eris_rules.specs.ReplicaStates.{EpochReplica, ReplicaState, fresh}
use Rattle.eris_rules.specs.Worlds.{first_world}
use Rattle.eris_law_epoch.specs.EpochWorlds.{EpochSystem, EpochWorld, moment}
use Rattle.eris_law_epoch.specs.Members.{In}
use Rattle.eris_law_epoch.specs.Reading.{read}
use Rattle.eris_law_epoch.proofs.Frame.{replica_equal}
use Rattle.eris_law_epoch.proofs.FineWorlds.{all_fine}
use Rattle.eris_law_epoch.proofs.Members.{Each-at, Each-by_In, In-left, In-right, In-filtered, any_witness}
use Rattle.eris_law_epoch.proofs.Moments.{later}
use Rattle.eris_law_agreement.specs.Alone.{state_of, IsAlone, Follows}
use Rattle.eris_law_agreement.specs.EpochRuns.{servers_at, system_of}
use Rattle.eris_law_agreement.specs.Servers.{Servers}
use Rattle.eris_law_agreement.specs.WorldMoments.{moment_from}
use Rattle.eris_law_agreement.proofs.ClosedLaws.{listed-In, In-listed, In-map, map-In}
use Rattle.eris_law_agreement.proofs.CoordLeaves.{CoordLeaf, noting}
use Rattle.eris_law_agreement.proofs.EpochInvariants.{HoldOfEpochs, IsNotedRight, noted_more, holds_at}
use Rattle.eris_law_agreement.proofs.Growth.{over, promise_rises, current_rises, cause}
use Rattle.eris_law_agreement.proofs.Moves.{Move, Rests, ReplicaMoves, CoordinatorMoves, AsksAgain, Nudges, Stamps, Replaces, Asks, coordinator_moved, next_move}
use Rattle.eris_law_agreement.proofs.Reduction.{own_events, is_epoch_run}

-- ---- lists
flat_map-In : {X Y : Type 0} (f : X → List Y) (xs : List X) (x : X) (y : Y) → In x xs → In y (f x) → In y (flat_map f xs)
flat_map-In f [] x y i j = absurd i
flat_map-In f (z ∷ xs) x y (inl e) j = In-left y (f z) (flat_map f xs) (subst (λ w. In y (f w)) e j)
flat_map-In f (z ∷ xs) x y (inr i) j = In-right y (f z) (flat_map f xs) (flat_map-In f xs x y i j)

packet_at-In : (held : List (ℕ × Packet)) (number : ℕ) (packet : Packet) → packet_at held number ≡ Some packet → In (number, packet) held
unfolding packet_at
packet_at-In [] number packet h = absurd (cc)
packet_at-In (pair ∷ held) number packet h = by_test (pair.0 == number) refl h (packet_at-In held number packet)
  where
    by_test : (b : Bool) → (pair.0 == number) ≡ b → option_map (λ (p : ℕ × Packet). p.1) (cond b (Some pair) (find (λ p. p.0 == number) held)) ≡ Some packet
        → (option_map (λ (p : ℕ × Packet). p.1) (find (λ p. p.0 == number) held) ≡ Some packet → In (number, packet) held) → ((number, packet) ≡ pair) ⊎ In (number, packet) held
    by_test true e k rest = let same : pair.1 ≡ packet = cc in inl (λ i. (sym (eqb-true pair.0 number e) i, sym same i))
    by_test false e k rest = inr (rest k)

-- a packet that a noted part of the epoch holds, and that isn't dropped, is left
has_left : (config : ConfigValue) (state : CoordState) (one : NotedPart) (number : ℕ) (packet : Packet) → In one state.noted → one.part.epoch ≡ state.current → In (number, packet) one.part.held
    → any_among state.inner.dropped packet.stamp ≡ false → In packet (left_behind config state)
unfolding left_behind held_in held_of
has_left config state one number packet i same held clear =
    let facts = IsClosing-close (epoch_tally config state) state.current state.inner.found state.inner.dropped in
    let test : (one.part.epoch.0 == state.current.0) ≡ true = ap (λ (e : Epoch). one.part.epoch.0 == e.0) (sym same) ∙ number_self one.part.epoch.0 in
    let of : In packet (held_of state.current one) = subst (λ b. In packet (cond b (map (λ (pair : ℕ × Packet). pair.1) one.part.held) [])) (sym test) (map-In (λ (pair : ℕ × Packet). pair.1) one.part.held (number, packet) held) in
    let all : In packet (held_in state.current state.noted ++ state.inner.found) = In-left packet _ state.inner.found (flat_map-In (λ one. held_of state.current one) state.noted one packet i of) in
    listed-In _ packet (facts.members packet ∙ and_from _ _ (In-listed _ packet all) (ap not clear))

-- ---- the coordinator closes
pub record Closes (config : ConfigValue) (now after : Servers) : Type 0 where
  pub replica : ReplicaId
  pub part : PartValue
  pub right : Each (IsNotedRight config now.sent now.coordinator.target) (noting now.coordinator replica part).noted
  pub ready : is_ready (epoch_tally config (noting now.coordinator replica part)) ≡ true
  pub rises : now.coordinator.current.0 < now.coordinator.target.0
  pub current : after.coordinator.current ≡ now.coordinator.target
  pub list : after.coordinator.closed ≡ now.coordinator.closed ++ left_behind config (noting now.coordinator replica part)

pub record SameClosed (now after : Servers) : Type 0 where
  pub current : after.coordinator.current ≡ now.coordinator.current
  pub closed : after.coordinator.closed ≡ now.coordinator.closed

coord_closes : (config : ConfigValue) (now : Servers) (message : Message) (out : CoordOut) → HoldOfEpochs config now → In (record { to = Coordinator; message = message }) now.sent → CoordLeaf config now.coordinator message out
    → SameClosed now (coordinator_moved now out) ⊎ Closes config now (coordinator_moved now out)
unfolding coord_steps_in starts raises_target closes after_closing begun_epoch
coord_closes config now message _ hold i (CoordLeaf.Nothing m) = inl (record { current = refl; closed = refl })
coord_closes config now message _ hold i (CoordLeaf.Within m inner ok is thawed) = inl (record { current = refl; closed = refl })
coord_closes config now message _ hold i (CoordLeaf.Starts m shard replica) = inl (record { current = refl; closed = refl })
coord_closes config now _ _ hold i (CoordLeaf.Raises shard replica epoch up) = inl (record { current = refl; closed = refl })
coord_closes config now _ _ hold i (CoordLeaf.Notes replica part up ok) = inl (record { current = refl; closed = refl })
coord_closes config now _ _ hold i (CoordLeaf.Closes replica part up ok ready) =
    inr (record { replica = replica; part = part; right = noted_more config now hold replica part i ok; ready = ready; rises = up; current = refl; list = refl })

closes_or : (config : ConfigValue) (now after : Servers) → HoldOfEpochs config now → Move config now after → SameClosed now after ⊎ Closes config now after
unfolding coord_steps_in
closes_or config now _ hold Rests = inl (record { current = refl; closed = refl })
closes_or config now _ hold (ReplicaMoves shard replica state input out found came leaf) = inl (record { current = refl; closed = refl })
closes_or config now _ hold (CoordinatorMoves message out i leaf) = coord_closes config now message out hold i leaf
closes_or config now _ hold AsksAgain = inl (record { current = refl; closed = refl })
closes_or config now _ hold (Nudges thawed) = inl (record { current = refl; closed = refl })
closes_or config now _ hold (Stamps at stamping asker id body found fits free) = inl (record { current = refl; closed = refl })
closes_or config now _ hold Replaces = inl (record { current = refl; closed = refl })
closes_or config now _ hold (Asks sends only) = inl (record { current = refl; closed = refl })

-- a listed replica of the shard's noted ones has a noted part
noted_of : (noted : List NotedPart) (shard : ShardId) (replica : ReplicaId) → has_replica (replicas_of noted shard.0) replica ≡ true → (one : NotedPart) × In one noted × (one.part.shard.0 ≡ shard.0) × (replica.0 ≡ one.replica.0)
unfolding replicas_of
noted_of noted shard replica h =
    let listed = any_witness (same_replica replica) (map (λ (one : NotedPart). one.replica) (filter (λ (one : NotedPart). one.part.shard.0 == shard.0) noted)) h in
    let from = In-map (λ (one : NotedPart). one.replica) (filter (λ (one : NotedPart). one.part.shard.0 == shard.0) noted) listed.0 listed.1 in
    let among = In-filtered (λ (one : NotedPart). one.part.shard.0 == shard.0) noted from.0 from.1 in
    (from.0, among.0, eqb-true _ _ among.1, eqb-true replica.0 listed.0.0 listed.2 ∙ ap (λ (r : ReplicaId). r.0) from.2)

replicas_there : (config : ConfigValue) (sent : List Outgoing) (target : Epoch) (noted : List NotedPart) (shard : ℕ) → Each (IsNotedRight config sent target) noted → Each (λ (one : ReplicaId). one.0 < 2 * config.f + 1) (replicas_of noted shard)
unfolding replicas_of
replicas_there config sent target noted shard right = Each-by_In _ _ (λ replica i.
    let from = In-map (λ (one : NotedPart). one.replica) (filter (λ (one : NotedPart). one.part.shard.0 == shard) noted) replica i in
    let among = In-filtered (λ (one : NotedPart). one.part.shard.0 == shard) noted from.0 from.1 in
    subst (λ (r : ReplicaId). r.0 < 2 * config.f + 1) (sym from.2) (Each-at (IsNotedRight config sent target) noted from.0 right among.0).there)

module _ (config : ConfigValue) (events : List Event) (last : ℕ) where
  abbrev at : ℕ → Servers
  at k = servers_at config events k

  abbrev system : Epoch → EpochSystem
  system epoch = system_of config events last epoch

  -- the epoch alone at a moment, and a replica in it
  abbrev pub alone : Epoch → ℕ → EpochWorld
  alone epoch k = moment (system epoch) (own_events config events last epoch) k

  abbrev pub then : Epoch → ℕ → ShardId → ReplicaId → EpochReplica
  then epoch k shard replica = read (system epoch) (alone epoch k).replicas shard replica

  pub is_alone : (epoch : Epoch) (k : ℕ) → k ≤ last → IsAlone (system epoch) (at k) (alone epoch k)
  is_alone epoch k le = (is_epoch_run config events last epoch).alone k le

  pub follows : (epoch : Epoch) (k : ℕ) → k < last → Follows (system epoch) (at k) (at (suc k)) (alone epoch k) (alone epoch (suc k))
  follows epoch k lt = (is_epoch_run config events last epoch).step k lt

  -- WHO PROMISED A HIGHER EPOCH takes no more part in this one
  pub frozen : (epoch : Epoch) (shard : ShardId) (replica : ReplicaId) (i j : ℕ) → i ≤ j → j ≤ last → epoch.0 < (state_of (at i).replicas shard replica).promised.0
      → then epoch j shard replica ≡ then epoch i shard replica
  frozen epoch shard replica i j le top =
      over (λ a b. b ≤ last → epoch.0 < (state_of (at a).replicas shard replica).promised.0 → then epoch b shard replica ≡ then epoch a shard replica)
      (λ a low lt. refl)
      (λ a b up rest low lt. (follows epoch b low).frozen shard replica (let more = promise_rises config events shard replica a b up in omega arith) ∙ rest (omega arith) lt)
      i j le top

  -- nor does the coordinator, once a higher epoch is current
  pub closed_frozen : (epoch : Epoch) (i j : ℕ) → i ≤ j → j ≤ last → epoch.0 < (at (suc i)).coordinator.current.0 → (alone epoch j).coordinator ≡ (alone epoch i).coordinator
  closed_frozen epoch i j le top =
      over (λ a b. b ≤ last → epoch.0 < (at (suc a)).coordinator.current.0 → (alone epoch b).coordinator ≡ (alone epoch a).coordinator)
      (λ a low lt. refl)
      (λ a b up rest low lt. (follows epoch b low).closed (let more = current_rises config events (suc a) (suc b) (omega (arith, up)) in omega arith) ∙ rest (omega arith) lt)
      i j le top

  none_yet : (epoch : ℕ) → epoch < (at 0).coordinator.current.0 → ⊥
  unfolding moment_from first_world first_coordinator begun_epoch
  none_yet epoch lt = absurd (omega arith)

  -- the event at which the epoch was left behind, be it skipped or not
  pub crossing : (k : ℕ) (epoch : Epoch) → epoch.0 < (at k).coordinator.current.0 → (j : ℕ) × (j < k) × ((at j).coordinator.current.0 ≤ epoch.0) × (epoch.0 < (at (suc j)).coordinator.current.0)
  crossing zero epoch lt = absurd (none_yet epoch.0 lt)
  crossing (suc k) epoch lt = elim (cases_lt epoch.0 (at k).coordinator.current.0) [
    | inl h ↦ (let c = crossing k epoch h in (c.0, omega (arith, c.1), c.2, c.3))
    | inr h ↦ (k, omega arith, omega arith, lt)
  ]

  pub closes_at : (k : ℕ) → SameClosed (at k) (at (suc k)) ⊎ Closes config (at k) (at (suc k))
  closes_at k = closes_or config (at k) (at (suc k)) (holds_at config events k) (next_move config events k)

  -- a part is its shard's, and of its replica's epoch
  pub own_shard : (k : ℕ) → k ≤ last → (shard : ShardId) (replica : ReplicaId) → (state_of (at k).replicas shard replica).inner.part.shard ≡ shard
  own_shard k le shard replica =
      let epoch : Epoch = (state_of (at k).replicas shard replica).epoch in
      ap (λ (x : EpochReplica). x.part.shard) (sym ((is_alone epoch k le).there shard replica refl)) ∙ ((all_fine (system epoch) (own_events config events last epoch) k).replicas shard replica).own

  pub own_epoch : (k : ℕ) → k ≤ last → (shard : ShardId) (replica : ReplicaId) → (state_of (at k).replicas shard replica).inner.part.epoch ≡ (state_of (at k).replicas shard replica).epoch
  own_epoch k le shard replica =
      let epoch : Epoch = (state_of (at k).replicas shard replica).epoch in
      ap (λ (x : EpochReplica). x.part.epoch) (sym ((is_alone epoch k le).there shard replica refl)) ∙ ((all_fine (system epoch) (own_events config events last epoch) k).replicas shard replica).part.epoch_is

  -- the moment at which a noted part was given, with its sender's state
  pub record NotedThen (j : ℕ) (target : Epoch) (shard : ShardId) (replica : ReplicaId) (part : PartValue) : Type 0 where
    pub moment : ℕ
    pub by : moment ≤ j
    pub promised : (state_of (at moment).replicas shard replica).promised ≡ target
    pub same : (state_of (at moment).replicas shard replica).inner.part ≡ part

  pub noted_then : (j : ℕ) → j ≤ last → (one : NotedPart) (target : Epoch) → In (record { to = Coordinator; message = Message.EpochState one.replica target one.part }) (at j).sent
      → NotedThen j target one.part.shard one.replica one.part
  noted_then j le one target i =
      let why = cause config events j _ i in
      let moment : ℕ = suc why.0 in
      let lt : why.0 < j = why.1 in
      let told = why.2 in
      let shard : told.0 ≡ one.part.shard = sym (own_shard moment (omega arith) told.0 one.replica) ∙ ap (λ (p : PartValue). p.shard) told.2 in
      record {
        moment = moment;
        by = omega arith;
        promised = subst (λ s. (state_of (at moment).replicas s one.replica).promised ≡ target) shard told.1;
        same = subst (λ s. (state_of (at moment).replicas s one.replica).inner.part ≡ one.part) shard told.2;
      }

  none_held : (epoch : Epoch) (shard : ShardId) (number : ℕ) → packet_at (fresh epoch shard).part.held number ≡ None
  unfolding fresh empty_part packet_at
  none_held epoch shard number = refl

  -- WHAT A NOTED REPLICA EVER HELD in the epoch is in its noted part; and then the epoch was the current one
  pub record IsNotedHeld (j : ℕ) (epoch : Epoch) (number : ℕ) (packet : Packet) (part : PartValue) : Type 0 where
    pub of_epoch : part.epoch ≡ epoch
    pub current : (at j).coordinator.current ≡ epoch
    pub held : packet_at part.held number ≡ Some packet

  module _ (j : ℕ) (le : j ≤ last) (epoch target : Epoch) (shard : ShardId) (replica : ReplicaId) (part : PartValue) (noted : NotedThen j target shard replica part)
      (low : (at j).coordinator.current.0 ≤ epoch.0) (up : epoch.0 < target.0) where
    above : epoch.0 < (state_of (at noted.moment).replicas shard replica).promised.0
    above = subst (λ (e : Epoch). epoch.0 < e.0) (sym noted.promised) up

    held_then : (m number : ℕ) (packet : Packet) → m ≤ last → packet_at (then epoch m shard replica).part.held number ≡ Some packet → packet_at (then epoch noted.moment shard replica).part.held number ≡ Some packet
    held_then m number packet top h = elim (cases_lt noted.moment m) [
      | inl lt ↦ ap (λ (x : EpochReplica). packet_at x.part.held number) (sym (frozen epoch shard replica noted.moment m (omega arith) top above)) ∙ h
      | inr ge ↦ ((later (system epoch) (own_events config events last epoch) m noted.moment ge).replicas shard replica).part.held.at number packet h
    ]

    abbrev state : ReplicaState
    state = state_of (at noted.moment).replicas shard replica

    bounded : state.epoch.0 ≤ epoch.0
    bounded = let by = noted.by in let one = ((holds_at config events noted.moment).replicas shard replica).epoch in let two = current_rises config events noted.moment j by in omega arith

    pub held_noted : (m number : ℕ) (packet : Packet) → m ≤ last → packet_at (then epoch m shard replica).part.held number ≡ Some packet → IsNotedHeld j epoch number packet part
    held_noted m number packet top h = elim (cases_eq state.epoch.0 epoch.0) [
      | inl same ↦ in_epoch (epoch_equal _ _ same)
      | inr apart ↦ absurd (too_low (let by = bounded in omega arith))
    ]
      where
        by_last : noted.moment ≤ last
        by_last = let by = noted.by in omega arith

        too_low : state.epoch.0 < epoch.0 → ⊥
        too_low lt =
            let none : packet_at (then epoch noted.moment shard replica).part.held number ≡ None = ap (λ (x : EpochReplica). packet_at x.part.held number) ((is_alone epoch noted.moment by_last).not_yet shard replica lt) ∙ none_held epoch shard number in
            let some = held_then m number packet top h in
            absurd (cc)

        in_epoch : state.epoch ≡ epoch → IsNotedHeld j epoch number packet part
        in_epoch same = record {
          of_epoch = ap (λ (p : PartValue). p.epoch) (sym noted.same) ∙ own_epoch noted.moment by_last shard replica ∙ same;
          current = epoch_equal _ _ (let by = noted.by in let one = ((holds_at config events noted.moment).replicas shard replica).epoch in let two = current_rises config events noted.moment j by in let e = ap (λ (x : Epoch). x.0) same in omega arith);
          held = ap (λ (p : PartValue). packet_at p.held number) (sym noted.same)
              ∙ ap (λ (x : EpochReplica). packet_at x.part.held number) (sym ((is_alone epoch noted.moment by_last).there shard replica same))
              ∙ held_then m number packet top h;
        }

  -- ---- the quorum of a shard with which the epochs up to one were left behind
  pub record ClosingQuorum (j : ℕ) (epoch : Epoch) (shard : ShardId) : Type 0 where
    pub who : List ReplicaId
    pub below : Each (λ (one : ReplicaId). one.0 < 2 * config.f + 1) who
    pub many : are_quorum who config.f ≡ true
    pub took : (replica : ReplicaId) (m number : ℕ) (packet : Packet) → has_replica who replica ≡ true → m ≤ last → packet_at (then epoch m shard replica).part.held number ≡ Some packet
        → any_among (alone epoch j).coordinator.dropped packet.stamp ≡ false → In packet (at (suc j)).coordinator.closed

  taken : (j : ℕ) → suc j ≤ last → (epoch : Epoch) (shard : ShardId) → (at j).coordinator.current.0 ≤ epoch.0 → epoch.0 < (at (suc j)).coordinator.current.0 → (closing : Closes config (at j) (at (suc j)))
      → (replica : ReplicaId) (m number : ℕ) (packet : Packet)
      → (one : NotedPart) × In one (noting (at j).coordinator closing.replica closing.part).noted × (one.part.shard.0 ≡ shard.0) × (replica.0 ≡ one.replica.0) → m ≤ last
      → packet_at (then epoch m shard replica).part.held number ≡ Some packet → any_among (alone epoch j).coordinator.dropped packet.stamp ≡ false → In packet (at (suc j)).coordinator.closed
  taken j le epoch shard low up closing replica m number packet one top h clear =
      let low_j : j ≤ last = omega arith in
      let sent = (Each-at (IsNotedRight config (at j).sent (at j).coordinator.target) _ one.0 closing.right one.1).sent in
      let noted : NotedThen j (at j).coordinator.target one.0.part.shard one.0.replica one.0.part = noted_then j low_j one.0 (at j).coordinator.target sent in
      let same_shard : one.0.part.shard ≡ shard = shard_equal _ _ one.2 in
      let same_replica_of : replica ≡ one.0.replica = replica_equal _ _ one.3 in
      let target_up : epoch.0 < (at j).coordinator.target.0 = subst (λ (e : Epoch). epoch.0 < e.0) closing.current up in
      let held : packet_at (then epoch m one.0.part.shard one.0.replica).part.held number ≡ Some packet =
      subst (λ s. packet_at (then epoch m s one.0.replica).part.held number ≡ Some packet) (sym same_shard) (subst (λ r. packet_at (then epoch m shard r).part.held number ≡ Some packet) same_replica_of h) in
      let kept = held_noted j low_j epoch (at j).coordinator.target one.0.part.shard one.0.replica one.0.part noted low target_up m number packet top held in
      let inner : (alone epoch j).coordinator ≡ (at j).coordinator.inner = (is_alone epoch j low_j).coordinator kept.current in
      subst (λ list. In packet list) (sym closing.list)
      (In-right packet (at j).coordinator.closed _
      (has_left config (noting (at j).coordinator closing.replica closing.part) one.0 number packet one.1 (kept.of_epoch ∙ sym kept.current) (packet_at-In one.0.part.held number packet kept.held)
      (ap (λ (c : EpochCoord). any_among c.dropped packet.stamp) (sym inner) ∙ clear)))

  more_than : (f n : ℕ) → f < n → nat_lt f n ≡ true
  more_than f n lt = grind (arith, nat_tests)

  pub quorum_at : (j : ℕ) → suc j ≤ last → (epoch : Epoch) (shard : ShardId) → (at j).coordinator.current.0 ≤ epoch.0 → epoch.0 < (at (suc j)).coordinator.current.0 → shard.0 < config.shards → ClosingQuorum j epoch shard
  quorum_at j le epoch shard low up there = elim (closes_at j) [
    | inl same ↦ absurd (let e = ap (λ (x : Epoch). x.0) same.current in omega arith)
    | inr closing ↦ of_closing closing
  ]
    where
      of_closing : Closes config (at j) (at (suc j)) → ClosingQuorum j epoch shard
      of_closing closing = record {
        who = replicas_of (noting (at j).coordinator closing.replica closing.part).noted shard.0;
        below = replicas_there config (at j).sent (at j).coordinator.target _ shard.0 closing.right;
        many = more_than _ _ (ready_has_quorum (epoch_tally config (noting (at j).coordinator closing.replica closing.part)) shard.0 closing.ready there);
        took = λ replica m number packet listed top h clear. taken j le epoch shard low up closing replica m number packet (noted_of (noting (at j).coordinator closing.replica closing.part).noted shard replica listed) top h clear;
      }
