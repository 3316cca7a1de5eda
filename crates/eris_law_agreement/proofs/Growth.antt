-- Over any two moments of a run: epochs, promises, the current epoch and the target never fall; what was sent and
-- what was stamped stays; what was closed below the current epoch stays as it is. And each message that was sent
-- has a cause at an earlier moment.
use Rattle.std.proofs.Common.{◌≡◌, inl, inr, ℕ, zero, suc, ◌<◌, ◌≤◌, List, refl, sym, ◌∙◌, subst, arith}
use Rattle.eris_base.specs.declared.ids.Epoch.{Epoch}
use Rattle.eris_base.specs.declared.ids.Node.TheVariants.{Coordinator}
use Rattle.eris_base.specs.declared.ids.ReplicaId.{ReplicaId}
use Rattle.eris_base.specs.declared.ids.ShardId.{ShardId}
use Rattle.eris_base.specs.ConfigLimits.{ConfigValue}
use Rattle.eris_base.proofs.Numbers.{last_or}
use Rattle.eris_txn.specs.declared.packet.Packet.{Packet}
use Rattle.eris_msg.specs.declared.message.Message.{Message}
use Rattle.eris_msg.specs.declared.outgoing.Outgoing.{Outgoing}
use Rattle.eris_event.specs.declared.event.Event.{Event}
use Rattle.eris_rules.specs.Coordinators.{coord_steps_in, starts, raises_target, after_closing, closes}
use Rattle.eris_rules.specs.CoordStates.{CoordOut, begun_epoch}
use Rattle.eris_rules.specs.Worlds.{first_world}
use Rattle.eris_law_epoch.specs.Members.{In}
use Rattle.eris_law_epoch.proofs.Members.{Each-at}
use Rattle.eris_law_agreement.specs.Alone.{state_of, stamping_of}
use Rattle.eris_law_agreement.specs.ClosedBelow.{closed_below}
use Rattle.eris_law_agreement.specs.EpochRuns.{servers_at}
use Rattle.eris_law_agreement.specs.Servers.{Servers}
use Rattle.eris_law_agreement.specs.WorldMoments.{moment_from}
use Rattle.eris_law_agreement.proofs.ClosedLaws.{closed_below-kept, left_behind-epoch}
use Rattle.eris_law_agreement.proofs.CoordLeaves.{CoordLeaf, noting}
use Rattle.eris_law_agreement.proofs.EpochGrowth.{TellsSent, IsAfter, is_after}
use Rattle.eris_law_agreement.proofs.EpochInvariants.{HoldOfEpochs, IsNotedRight, noted_more, holds_at}
use Rattle.eris_law_agreement.proofs.Moves.{Move, Rests, ReplicaMoves, CoordinatorMoves, AsksAgain, Nudges, Stamps, Replaces, Asks, next_move}

-- what holds from each moment to the next, and of two that are the same, and in turn, holds over any two
pub over : (P : ℕ → ℕ → Type 0) → ((k : ℕ) → P k k) → ((j k : ℕ) → j ≤ k → P j k → P j (suc k)) → (j k : ℕ) → j ≤ k → P j k
over P same more j zero le = let e : 0 ≡ j = omega arith in subst (λ n. P n 0) e (same 0)
over P same more j (suc k) le = elim (last_or j k le) [ inl i ↦ more j k i (over P same more j k i) | inr e ↦ subst (λ n. P n (suc k)) (sym e) (same (suc k)) ]

-- what never falls from a moment to the next never falls
pub rise : (f : ℕ → ℕ) → ((k : ℕ) → f k ≤ f (suc k)) → (j k : ℕ) → j ≤ k → f j ≤ f k
rise f step j k le = over (λ a b. f a ≤ f b) (λ a. omega arith) (λ a b low h. let up = step b in omega arith) j k le

-- ---- what is closed below the current epoch
closed_coord : (config : ConfigValue) (now : Servers) (hold : HoldOfEpochs config now) (epoch : Epoch) → epoch.0 ≤ now.coordinator.current.0 → (message : Message) (out : CoordOut)
    → In (record { to = Coordinator; message = message }) now.sent → CoordLeaf config now.coordinator message out → closed_below epoch out.state.closed ≡ closed_below epoch now.coordinator.closed
unfolding coord_steps_in starts raises_target closes after_closing begun_epoch
closed_coord config now hold epoch le message _ i (CoordLeaf.Nothing m) = refl
closed_coord config now hold epoch le message _ i (CoordLeaf.Within m inner ok is thawed) = refl
closed_coord config now hold epoch le message _ i (CoordLeaf.Starts m shard replica) = refl
closed_coord config now hold epoch le _ _ i (CoordLeaf.Raises shard replica other up) = refl
closed_coord config now hold epoch le _ _ i (CoordLeaf.Notes replica part up ok) = refl
closed_coord config now hold epoch le _ _ i (CoordLeaf.Closes replica part up ok ready) =
    closed_below-kept epoch now.coordinator.current now.coordinator.closed _ le
    (left_behind-epoch config (noting now.coordinator replica part) hold.found (λ one j. (Each-at (IsNotedRight config now.sent now.coordinator.target) _ one (noted_more config now hold replica part i ok) j).right))

closed_move : (config : ConfigValue) (now after : Servers) → HoldOfEpochs config now → Move config now after → (epoch : Epoch) → epoch.0 ≤ now.coordinator.current.0
    → closed_below epoch after.coordinator.closed ≡ closed_below epoch now.coordinator.closed
unfolding coord_steps_in
closed_move config now _ hold Rests epoch le = refl
closed_move config now _ hold (ReplicaMoves shard replica state input out found came leaf) epoch le = refl
closed_move config now _ hold (CoordinatorMoves message out i leaf) epoch le = closed_coord config now hold epoch le message out i leaf
closed_move config now _ hold AsksAgain epoch le = refl
closed_move config now _ hold (Nudges thawed) epoch le = refl
closed_move config now _ hold (Stamps at stamping asker id body found fits free) epoch le = refl
closed_move config now _ hold Replaces epoch le = refl
closed_move config now _ hold (Asks sends only) epoch le = refl

module _ (config : ConfigValue) (events : List Event) where
  abbrev at : ℕ → Servers
  at k = servers_at config events k

  -- from each moment to the next
  pub next : (k : ℕ) → IsAfter config (at k) (at (suc k))
  next k = is_after config (at k) (at (suc k)) (next_move config events k)

  -- GROWTH over two moments
  pub epoch_rises : (shard : ShardId) (replica : ReplicaId) (j k : ℕ) → j ≤ k → (state_of (at j).replicas shard replica).epoch.0 ≤ (state_of (at k).replicas shard replica).epoch.0
  epoch_rises shard replica j k le = rise (λ n. (state_of (at n).replicas shard replica).epoch.0) (λ n. (next n).epoch shard replica) j k le

  pub promise_rises : (shard : ShardId) (replica : ReplicaId) (j k : ℕ) → j ≤ k → (state_of (at j).replicas shard replica).promised.0 ≤ (state_of (at k).replicas shard replica).promised.0
  promise_rises shard replica j k le = rise (λ n. (state_of (at n).replicas shard replica).promised.0) (λ n. (next n).promised shard replica) j k le

  pub current_rises : (j k : ℕ) → j ≤ k → (at j).coordinator.current.0 ≤ (at k).coordinator.current.0
  current_rises j k le = rise (λ n. (at n).coordinator.current.0) (λ n. (next n).current) j k le

  pub target_rises : (j k : ℕ) → j ≤ k → (at j).coordinator.target.0 ≤ (at k).coordinator.target.0
  target_rises j k le = rise (λ n. (at n).coordinator.target.0) (λ n. (next n).target) j k le

  pub sent_kept : (one : Outgoing) (j k : ℕ) → j ≤ k → In one (at j).sent → In one (at k).sent
  sent_kept one j k le = over (λ a b. In one (at a).sent → In one (at b).sent) (λ a i. i) (λ a b low h i. (next b).kept one (h i)) j k le

  pub stamped_kept : (epoch : Epoch) (packet : Packet) (j k : ℕ) → j ≤ k → In packet (stamping_of config (at j).stampings epoch).stamped → In packet (stamping_of config (at k).stampings epoch).stamped
  stamped_kept epoch packet j k le = over (λ a b. In packet (stamping_of config (at a).stampings epoch).stamped → In packet (stamping_of config (at b).stampings epoch).stamped) (λ a i. i) (λ a b low h i. (next b).stamped epoch packet (h i)) j k le

  pub closed_kept : (epoch : Epoch) (j k : ℕ) → j ≤ k → epoch.0 ≤ (at j).coordinator.current.0 → closed_below epoch (at k).coordinator.closed ≡ closed_below epoch (at j).coordinator.closed
  closed_kept epoch j k le low =
      over (λ a b. epoch.0 ≤ (at a).coordinator.current.0 → closed_below epoch (at b).coordinator.closed ≡ closed_below epoch (at a).coordinator.closed) (λ a h. refl)
      (λ a b up rest h. closed_move config (at b) (at (suc b)) (holds_at config events b) (next_move config events b) epoch (let one = current_rises a b up in omega arith) ∙ rest h) j k le low

  none_first : (one : Outgoing) → In one (at 0).sent → ⊥
  unfolding moment_from first_world
  none_first one i = i

  -- CAUSE: each message that was sent tells of its sender as it was at an earlier moment, after the step that sent it
  pub cause : (k : ℕ) (one : Outgoing) → In one (at k).sent → (j : ℕ) × (j < k) × TellsSent (at (suc j)) one
  cause zero one i = absurd (none_first one i)
  cause (suc k) one i = elim ((next k).new one i) [ inl old ↦ (let c = cause k one old in (c.0, omega (arith, c.1), c.2)) | inr new ↦ (k, omega arith, new) ]
