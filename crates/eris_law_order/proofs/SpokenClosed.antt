-- Once an epoch is left behind, an undropped packet that a quorum spoke past is closed; and a closed packet was
-- stamped in its epoch before that was closed, and isn't dropped there. So what a client counted is never lost, and
-- nothing that is stamped in a closed epoch from then on is ever in the order.
use Rattle.std.proofs.Common.{◌≡◌, ◌⊎◌, inl, inr, ℕ, zero, suc, ◌<◌, ◌≤◌, List, [], ◌∷◌, true, false, Some, refl, sym, ap, ◌∙◌, subst, arith}
use Rattle.std.specs.List.{AllByRecursion}
use Rattle.eris_base.specs.declared.ids.Epoch.{Epoch}
use Rattle.eris_base.specs.declared.ids.ReplicaId.{ReplicaId}
use Rattle.eris_base.specs.declared.ids.ShardId.{ShardId}
use Rattle.eris_base.specs.declared.ids.View.{View}
use Rattle.eris_base.specs.ConfigLimits.{ConfigValue}
use Rattle.eris_txn.specs.declared.packet.Packet.{Packet}
use Rattle.eris_log.specs.Held.{packet_at}
use Rattle.eris_log.specs.PartValues.{PartValue}
use Rattle.eris_log.specs.Places.{any_among}
use Rattle.eris_log.specs.Laws.Entries.{HoldsTxn-is_txn, is_txn-entry_of}
use Rattle.eris_drop.proofs.QuorumLaws.{quorums_meet, replica}
use Rattle.eris_epoch.specs.declared.noted.NotedPart.{NotedPart}
use Rattle.eris_event.specs.declared.event.Event.{Event}
use Rattle.eris_sequencer.specs.declared.stamping.Stamping.{Stamping}
use Rattle.eris_rules.specs.Coordinators.{left_behind}
use Rattle.eris_rules.specs.CoordStates.{EpochCoord, begun_epoch, first_coordinator}
use Rattle.eris_rules.specs.ReplicaStates.{EpochReplica}
use Rattle.eris_rules.specs.Worlds.{first_world}
use Rattle.eris_law_epoch.specs.EpochWorlds.{EpochSystem, EpochWorld, EpochEvent}
use Rattle.eris_law_epoch.specs.Members.{In}
use Rattle.eris_law_epoch.specs.Stamped.{HasNumber}
use Rattle.eris_law_epoch.proofs.FineWorlds.{all_fine}
use Rattle.eris_law_epoch.proofs.Members.{Each-at, In-append, In-left}
use Rattle.eris_law_epoch.proofs.Moments.{later}
use Rattle.eris_law_key.specs.Quorums.{Reached, SpokePast}
use Rattle.eris_law_key.proofs.KeyLemma.{no_gap, is_packet, dropped_by}
use Rattle.eris_law_agreement.specs.Alone.{stamping_of, state_of}
use Rattle.eris_law_agreement.specs.EpochRuns.{servers_at, system_of}
use Rattle.eris_law_agreement.specs.Servers.{Servers}
use Rattle.eris_law_agreement.specs.WorldMoments.{moment_from}
use Rattle.eris_law_agreement.proofs.ClosedLaws.{IsHeldBy, left_behind-In, left_behind-epoch}
use Rattle.eris_law_order.proofs.Closings.{alone, then, is_alone, follows, closed_frozen, crossing, closes_at, Closes, SameClosed, quorum_at, noted_then, own_epoch}
use Rattle.eris_law_agreement.proofs.CoordLeaves.{noting}
use Rattle.eris_law_agreement.proofs.EpochInvariants.{IsNotedRight, holds_at}
use Rattle.eris_law_agreement.proofs.Growth.{over, current_rises}
use Rattle.eris_law_agreement.proofs.Reduction.{own_events}

all-In : {X : Type 0} (P : X → Type 0) (xs : List X) (x : X) → AllByRecursion P xs → In x xs → P x
all-In P [] x all i = absurd i
all-In P (y ∷ xs) x all (inl e) = subst P (sym e) all.0
all-In P (y ∷ xs) x all (inr i) = all-In P xs x all.1 i

module _ (config : ConfigValue) (events : List Event) (last : ℕ) where
  abbrev at : ℕ → Servers
  at k = servers_at config events k

  abbrev system : Epoch → EpochSystem
  system epoch = system_of config events last epoch

  abbrev own : Epoch → List EpochEvent
  own epoch = own_events config events last epoch

  abbrev world : Epoch → ℕ → EpochWorld
  world epoch k = alone config events last epoch k

  -- who had no gap at a number held its packet there, unless that is dropped
  pub reached_held : (epoch : Epoch) (k : ℕ) (shard : ShardId) (view : View) (n m : ℕ) (packet : Packet) (one : ReplicaId) → (r : Reached (system epoch) (own epoch) k shard view n one) → 1 ≤ m → m ≤ n
      → In packet (world epoch k).stamping.stamped → HasNumber packet shard m → any_among (world epoch k).coordinator.dropped packet.stamp ≡ false
      → packet_at (then config events last epoch r.moment shard one).part.held m ≡ Some packet
  reached_held epoch k shard view n m packet one r low high stamped number clear = elim (no_gap (then config events last epoch r.moment shard one).part m (r.whole.at m low high)) [
    | inl dropped ↦ lost (dropped_by (system epoch) (own epoch) k shard m packet stamped number r.moment k one r.by r.by dropped)
    | inr counts ↦ (let o = HoldsTxn-is_txn (then config events last epoch r.moment shard one).part m (is_txn-entry_of _ m counts).1 in
        o.held ∙ ap Some (is_packet (system epoch) (own epoch) k shard m packet stamped number r.moment one o.packet r.by o.held))
  ]
    where
      lost : any_among (world epoch k).coordinator.dropped packet.stamp ≡ true → packet_at (then config events last epoch r.moment shard one).part.held m ≡ Some packet
      lost h = absurd (cc)

  -- what is closed stays closed
  pub closed_stays : (packet : Packet) (j k : ℕ) → j ≤ k → In packet (at j).coordinator.closed → In packet (at k).coordinator.closed
  closed_stays packet j k le =
      over (λ a b. In packet (at a).coordinator.closed → In packet (at b).coordinator.closed) (λ a i. i) (λ a b up rest i. step b (closes_at config events last b) (rest i)) j k le
    where
      step : (b : ℕ) → SameClosed (at b) (at (suc b)) ⊎ Closes config (at b) (at (suc b)) → In packet (at b).coordinator.closed → In packet (at (suc b)).coordinator.closed
      step b (inl same) i = subst (λ list. In packet list) (sym same.closed) i
      step b (inr closing) i = subst (λ list. In packet list) (sym closing.list) (In-left packet (at b).coordinator.closed _ i)

  -- CLOSING KEEPS WHAT WAS SPOKEN PAST
  pub spoken_closed : (epoch : Epoch) (k : ℕ) → k ≤ last → (shard : ShardId) (view : View) (n m : ℕ) (packet : Packet) → SpokePast (system epoch) (own epoch) k shard view n → 1 ≤ m → m ≤ n → shard.0 < config.shards
      → In packet (world epoch k).stamping.stamped → HasNumber packet shard m → any_among (world epoch k).coordinator.dropped packet.stamp ≡ false → epoch.0 < (at k).coordinator.current.0
      → In packet (at k).coordinator.closed
  spoken_closed epoch k le shard view n m packet past low high there stamped number clear up =
      let left = crossing config events last k epoch up in
      let before : left.0 < k = left.1 in
      let quorum = quorum_at config events last left.0 (omega arith) epoch shard left.2 left.3 there in
      let both = quorums_meet config.f past.who quorum.who past.quorum.below quorum.below past.quorum.many quorum.many in
      let r = past.each (replica both.0) both.2 in
      let by = r.by in
      let held = reached_held epoch k shard view n m packet (replica both.0) r low high stamped number clear in
      let same = closed_frozen config events last epoch left.0 k (omega arith) le left.3 in
      closed_stays packet (suc left.0) k before
      (quorum.took (replica both.0) r.moment m packet both.3 (omega arith) held (ap (λ (c : EpochCoord). any_among c.dropped packet.stamp) (sym same) ∙ clear))

  -- ---- closed packets
  pub record IsClosedFine (k : ℕ) (packet : Packet) : Type 0 where
    pub below : packet.stamp.epoch.0 < (at k).coordinator.current.0
    pub stamped : In packet (world packet.stamp.epoch k).stamping.stamped
    pub undropped : any_among (world packet.stamp.epoch k).coordinator.dropped packet.stamp ≡ false

  -- as time goes on
  fine_next : (k : ℕ) → suc k ≤ last → (packet : Packet) → (packet.stamp.epoch.0 < (at (suc k)).coordinator.current.0) → In packet (world packet.stamp.epoch k).stamping.stamped
      → any_among (world packet.stamp.epoch k).coordinator.dropped packet.stamp ≡ false → IsClosedFine (suc k) packet
  fine_next k le packet below stamped clear = record {
    below = below;
    stamped = (later (system packet.stamp.epoch) (own packet.stamp.epoch) k (suc k) (omega arith)).stamped packet stamped;
    undropped = ap (λ (c : EpochCoord). any_among c.dropped packet.stamp) ((follows config events last packet.stamp.epoch k le).closed below) ∙ clear;
  }

  -- a packet of a noted part of the current epoch was stamped there
  noted_stamped : (k : ℕ) → k ≤ last → (one : NotedPart) → IsNotedRight config (at k).sent (at k).coordinator.target one → (packet : Packet) → IsHeldBy (at k).coordinator.current packet one
      → In packet (world (at k).coordinator.current k).stamping.stamped
  noted_stamped k le one right packet held =
      let epoch : Epoch = (at k).coordinator.current in
      let noted = noted_then config events last k le one (at k).coordinator.target right.sent in
      let by = noted.by in
      let same : (state_of (at noted.moment).replicas one.part.shard one.replica).epoch ≡ epoch =
      sym (own_epoch config events last noted.moment (omega arith) one.part.shard one.replica) ∙ ap (λ (p : PartValue). p.epoch) noted.same ∙ held.part_epoch in
      let part : (then config events last epoch noted.moment one.part.shard one.replica).part ≡ one.part =
      ap (λ (x : EpochReplica). x.part) ((is_alone config events last epoch noted.moment (omega arith)).there one.part.shard one.replica same) ∙ noted.same in
      let fine = ((all_fine (system epoch) (own epoch) noted.moment).replicas one.part.shard one.replica).part.held in
      let i : In (held.number, packet) (then config events last epoch noted.moment one.part.shard one.replica).part.held = subst (λ (p : PartValue). In (held.number, packet) p.held) (sym part) held.held in
      (later (system epoch) (own epoch) noted.moment k by).stamped packet (all-In _ _ (held.number, packet) fine i).packet.stamped

  nothing_closed : (packet : Packet) → In packet (at 0).coordinator.closed → ⊥
  unfolding moment_from first_world first_coordinator begun_epoch
  nothing_closed packet i = i

  left_fine : (k : ℕ) → suc k ≤ last → (packet : Packet) → (closing : Closes config (at k) (at (suc k))) → In packet (left_behind config (noting (at k).coordinator closing.replica closing.part)) → IsClosedFine (suc k) packet
  left_fine k le packet closing j =
      let state = noting (at k).coordinator closing.replica closing.part in
      let left = left_behind-In config state packet j in
      let right = (λ (one : NotedPart) (i : In one state.noted). Each-at (IsNotedRight config (at k).sent (at k).coordinator.target) state.noted one closing.right i) in
      let epoch : packet.stamp.epoch ≡ (at k).coordinator.current = Each-at _ (left_behind config state) packet (left_behind-epoch config state (holds_at config events k).found (λ one i. (right one i).right)) j in
      let inner : (world (at k).coordinator.current k).coordinator ≡ (at k).coordinator.inner = (is_alone config events last (at k).coordinator.current k (omega arith)).coordinator refl in
      let stamped : In packet (world (at k).coordinator.current k).stamping.stamped = elim left.source [
        | inl held ↦ noted_stamped k (omega arith) held.0 (right held.0 held.1) packet held.2
        | inr found ↦ ((all_fine (system (at k).coordinator.current) (own (at k).coordinator.current) k).found packet (subst (λ (c : EpochCoord). In packet c.found) (sym inner) found)).stamped
      ] in
      let rises = closing.rises in
      fine_next k le packet
      (subst (λ (e : Epoch). packet.stamp.epoch.0 < e.0) (sym closing.current) (subst (λ (e : Epoch). e.0 < (at k).coordinator.target.0) (sym epoch) rises))
      (subst (λ e. In packet (world e k).stamping.stamped) (sym epoch) stamped)
      (subst (λ e. any_among (world e k).coordinator.dropped packet.stamp ≡ false) (sym epoch) (ap (λ (c : EpochCoord). any_among c.dropped packet.stamp) inner ∙ left.undropped))

  by_step : (k : ℕ) → suc k ≤ last → (packet : Packet) → SameClosed (at k) (at (suc k)) ⊎ Closes config (at k) (at (suc k)) → (In packet (at k).coordinator.closed → IsClosedFine k packet)
      → In packet (at (suc k)).coordinator.closed → IsClosedFine (suc k) packet
  by_step k le packet (inl same) before i =
      let old = before (subst (λ list. In packet list) same.closed i) in
      fine_next k le packet (subst (λ (e : Epoch). packet.stamp.epoch.0 < e.0) (sym same.current) old.below) old.stamped old.undropped
  by_step k le packet (inr closing) before i = elim (In-append packet (at k).coordinator.closed _ (subst (λ list. In packet list) closing.list i)) [
    | inl j ↦ (let old = before j in let low = old.below in let up = current_rises config events k (suc k) (omega arith) in fine_next k le packet (omega arith) old.stamped old.undropped)
    | inr j ↦ left_fine k le packet closing j
  ]

  -- EACH CLOSED PACKET is of an epoch below the current one, was stamped there, and has no dropped place
  pub closed_fine : (k : ℕ) → k ≤ last → (packet : Packet) → In packet (at k).coordinator.closed → IsClosedFine k packet
  closed_fine zero le packet i = absurd (nothing_closed packet i)
  closed_fine (suc k) le packet i = by_step k le packet (closes_at config events last k) (closed_fine k (omega arith) packet) i

-- the same at any moment, told of the whole run
pub closed_below_current : (config : ConfigValue) (events : List Event) (k : ℕ) (packet : Packet) → In packet (servers_at config events k).coordinator.closed → packet.stamp.epoch.0 < (servers_at config events k).coordinator.current.0
closed_below_current config events k packet i = (closed_fine config events k k (omega arith) packet i).below

pub closed_stamped : (config : ConfigValue) (events : List Event) (k : ℕ) (packet : Packet) → In packet (servers_at config events k).coordinator.closed
    → In packet (stamping_of config (servers_at config events k).stampings packet.stamp.epoch).stamped
closed_stamped config events k packet i =
    subst (λ (s : Stamping). In packet s.stamped) (is_alone config events k packet.stamp.epoch k (omega arith)).stamping (closed_fine config events k k (omega arith) packet i).stamped
