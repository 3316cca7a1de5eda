-- The log behind an answer that a quorum spoke past is how the order begins on its shard, at that moment and at every
-- later one: what the learner left out is just what is dropped, and what it kept is held or closed.
use Rattle.std.proofs.Common.{◌≡◌, inl, inr, ℕ, ◌≤◌, ◌<◌, List, ◌++◌, true, false, Some, sym, ap, ◌∙◌, subst, arith}
use Rattle.std.proofs.lemmas.Bool.{cases_lt}
use Rattle.eris_base.specs.declared.ids.Epoch.{Epoch}
use Rattle.eris_base.specs.declared.ids.ReplicaId.{ReplicaId}
use Rattle.eris_base.specs.declared.ids.ShardId.{ShardId}
use Rattle.eris_base.specs.ConfigLimits.{ConfigValue}
use Rattle.eris_txn.specs.declared.packet.Packet.{Packet}
use Rattle.eris_log.specs.Entries.{is_dropped}
use Rattle.eris_log.specs.Held.{packet_at}
use Rattle.eris_log.specs.Places.{any_among}
use Rattle.eris_epoch.specs.Closing.{shard_log}
use Rattle.eris_event.specs.declared.event.Event.{Event}
use Rattle.eris_sequencer.specs.declared.stamping.Stamping.{Stamping}
use Rattle.eris_rules.specs.Good.{kept_upto}
use Rattle.eris_rules.specs.ReplicaStates.{ReplicaState, EpochReplica}
use Rattle.eris_rules.specs.WorldOrders.{survives, order_on, is_held_in}
use Rattle.eris_law_epoch.specs.EpochWorlds.{EpochSystem, EpochWorld, EpochEvent}
use Rattle.eris_law_epoch.specs.Fine.{known_in, IsFineHeld}
use Rattle.eris_law_epoch.specs.Members.{In}
use Rattle.eris_law_epoch.specs.Stamped.{HasNumber}
use Rattle.eris_law_epoch.proofs.FineParts.{held_fine}
use Rattle.eris_law_epoch.proofs.FineWorlds.{all_fine}
use Rattle.eris_law_epoch.proofs.Moments.{later}
use Rattle.eris_law_epoch.proofs.StampList.{stamps}
use Rattle.eris_law_agreement.specs.Alone.{state_of, stamping_of}
use Rattle.eris_law_agreement.specs.ClosedBelow.{closed_below}
use Rattle.eris_law_agreement.specs.EpochRuns.{servers_at, system_of}
use Rattle.eris_law_agreement.specs.Servers.{Servers}
use Rattle.eris_law_agreement.specs.WorldMoments.{world_at}
use Rattle.eris_law_agreement.proofs.EpochInvariants.{holds_at}
use Rattle.eris_law_agreement.proofs.Growth.{closed_kept, current_rises, epoch_rises}
use Rattle.eris_law_agreement.proofs.Reduction.{own_events}
use Rattle.eris_law_order.proofs.Closings.{alone, then, is_alone, own_shard}
use Rattle.eris_law_order.proofs.OrderFronts.{IsUpto, IsEntry, epoch_now, survive_clear, closed_survives, held_survives, front_cut}
use Rattle.eris_law_order.proofs.ShardLists.{Ascends, Cut}
use Rattle.eris_law_order.proofs.SpokenClosed.{spoken_closed}
use Rattle.eris_base.specs.declared.ids.View.{View}
use Rattle.eris_base.proofs.IdLaws.{epoch_equal}
use Rattle.eris_law_key.specs.Quorums.{SpokePast}
use Rattle.eris_law_order.proofs.SettledFronts.{kept-In, In-kept, kept-ascends, held_in}

-- ---- the log up to a number, of a replica at a moment j, seen from moment k
module _ (config : ConfigValue) (events : List Event) (j k : ℕ) (le : j ≤ k) (shard : ShardId) (replica : ReplicaId) where
  abbrev at : ℕ → Servers
  at m = servers_at config events m

  abbrev state : ReplicaState
  state = state_of (at j).replicas shard replica

  abbrev epoch : Epoch
  epoch = state.epoch

  -- the replica's epoch by itself, up to the later moment
  abbrev system : EpochSystem
  system = system_of config events k epoch

  abbrev own : List EpochEvent
  own = own_events config events k epoch

  abbrev world : ℕ → EpochWorld
  world m = alone config events k epoch m

  abbrev inner : ℕ → EpochReplica
  inner m = then config events k epoch m shard replica

  module _ (view : View) (n : ℕ) (past : SpokePast system own k shard view n)
      (same : (m : ℕ) (packet : Packet) → In packet (world k).stamping.stamped → HasNumber packet shard m → m ≤ n → is_dropped (inner j).part m ≡ any_among (world k).coordinator.dropped packet.stamp)
      (held : (m : ℕ) (packet : Packet) → In packet (world k).stamping.stamped → HasNumber packet shard m → m ≤ n → is_dropped (inner j).part m ≡ false → packet_at (inner j).part.held m ≡ Some packet) where
    low_then : epoch.0 ≤ (at j).coordinator.current.0
    low_then = ((holds_at config events j).replicas shard replica).epoch

    low : epoch.0 ≤ (at k).coordinator.current.0
    low = let a = low_then in let b = current_rises config events j k le in omega (arith, a, b)

    fine : (m number : ℕ) (packet : Packet) → packet_at (inner m).part.held number ≡ Some packet → IsFineHeld epoch (known_in (world m)) shard (number, packet)
    fine m number packet held =
        let replicas = (all_fine system own m).replicas shard replica in
        subst (λ s. IsFineHeld epoch (known_in (world m)) s (number, packet)) replicas.own (held_fine epoch (known_in (world m)) (inner m).part number packet replicas.part held)

    abbrev entries : List Packet
    entries = kept_upto (inner j).part n

    entries-ascend : Ascends shard entries
    entries-ascend = kept-ascends shard epoch (inner j).part n (λ number packet held. let f = fine j number packet held in (f.packet.of_epoch.epoch_is, f.number))

    stamped_now : (packet : Packet) → In packet (world k).stamping.stamped → In packet (stamping_of config (at k).stampings epoch).stamped
    stamped_now packet i = subst (λ (s : Stamping). In packet s.stamped) (is_alone config events k epoch k (omega arith)).stamping i

    now_stamped : (packet : Packet) → In packet (stamping_of config (at k).stampings epoch).stamped → In packet (world k).stamping.stamped
    now_stamped packet i = subst (λ (s : Stamping). In packet s.stamped) (sym (is_alone config events k epoch k (omega arith)).stamping) i

    -- a kept packet of an epoch that was left behind is closed
    in_closed : (packet : Packet) (m : ℕ) → 1 ≤ m → m ≤ n → In packet (world k).stamping.stamped → HasNumber packet shard m → any_among (world k).coordinator.dropped packet.stamp ≡ false
        → epoch.0 < (at k).coordinator.current.0 → In packet (at k).coordinator.closed
    in_closed packet m one high stamped number clear up =
        spoken_closed config events k epoch k (omega arith) shard view n m packet past one high
        ((stamps system own k).known packet shard m stamped number) stamped number clear up

    -- a kept packet of the current epoch is held there
    still_held : (packet : Packet) (m : ℕ) → packet_at (inner j).part.held m ≡ Some packet → HasNumber packet shard m → epoch ≡ (at k).coordinator.current → is_held_in (at k).coordinator.current (at k).replicas packet ≡ true
    still_held packet m there number current =
        let up = epoch_rises config events shard replica j k le in
        let top = ((holds_at config events k).replicas shard replica).epoch in
        let now : epoch.0 ≡ (at k).coordinator.current.0 = ap (λ (e : Epoch). e.0) current in
        let same : (state_of (at k).replicas shard replica).epoch ≡ epoch = epoch_equal _ _ (omega (arith, up, top, now)) in
        let is = (is_alone config events k epoch k (omega arith)).there shard replica same in
        let kept = ((later system own j k le).replicas shard replica).part.held.at m packet there in
        held_in (at k).replicas shard replica (at k).coordinator.current m packet (same ∙ current)
        (subst (λ s. HasNumber packet s m) (sym (own_shard config events k k (omega arith) shard replica)) number)
        (sym (ap (λ (x : EpochReplica). packet_at x.part.held m) is) ∙ kept)

    kept_survives : (packet : Packet) (m : ℕ) → 1 ≤ m → m ≤ n → packet_at (inner j).part.held m ≡ Some packet → In packet (world k).stamping.stamped → HasNumber packet shard m → packet.stamp.epoch ≡ epoch
        → any_among (world k).coordinator.dropped packet.stamp ≡ false → survives (world_at config events k) packet ≡ true
    kept_survives packet m one high there stamped number of_epoch clear = elim (cases_lt epoch.0 (at k).coordinator.current.0) [
      | inl up ↦ closed_survives config events k packet (in_closed packet m one high stamped number clear up)
      | inr ge ↦ (
          let bound = low in
          let current : epoch ≡ (at k).coordinator.current = epoch_equal _ _ (omega (arith, ge, bound)) in
          held_survives config events k packet (of_epoch ∙ current)
          (subst (λ e. any_among (epoch_now config events k e).coordinator.dropped packet.stamp ≡ false) (sym of_epoch) clear)
          (still_held packet m there number current))
    ]

    each_entry : (packet : Packet) → In packet entries → IsEntry config events k shard epoch n packet
    each_entry packet i =
        let kept = kept-In (inner j).part n packet i in
        let f = fine j kept.number packet kept.held in
        let stamped = (later system own j k le).stamped packet f.packet.stamped in
        let clear : any_among (world k).coordinator.dropped packet.stamp ≡ false = sym (same kept.number packet stamped f.number kept.high) ∙ kept.kept in
        record {
          of_epoch = f.packet.of_epoch.epoch_is;
          stamped = stamped_now packet stamped;
          survives_is = kept_survives packet kept.number kept.low kept.high kept.held stamped f.number f.packet.of_epoch.epoch_is clear;
          number = kept.number;
          has = f.number;
          upto = kept.high;
        }

    back_entry : (packet : Packet) → IsEntry config events k shard epoch n packet → In packet entries
    back_entry packet e =
        let stamped = now_stamped packet e.stamped in
        let clear = subst (λ one. any_among (epoch_now config events k one).coordinator.dropped packet.stamp ≡ false) e.of_epoch (survive_clear config events k packet e.survives_is) in
        let kept : is_dropped (inner j).part e.number ≡ false = same e.number packet stamped e.has e.upto ∙ clear in
        In-kept (inner j).part n e.number packet ((stamps system own k).low packet shard e.number stamped e.has) e.upto
        (held e.number packet stamped e.has e.upto kept) kept

    prior_now : state.prior ≡ shard_log (closed_below epoch (at k).coordinator.closed) shard
    prior_now = ((holds_at config events j).replicas shard replica).prior ∙ ap (λ closed. shard_log closed shard) (sym (closed_kept config events epoch j k le low_then))

    -- THE FRONT BEHIND AN ANSWER
    pub spoken_cut : Cut (IsUpto shard epoch n) (state.prior ++ entries) (order_on shard (world_at config events k))
    spoken_cut = subst (λ list. Cut (IsUpto shard epoch n) (list ++ entries) (order_on shard (world_at config events k))) (sym prior_now)
        (front_cut config events k shard epoch n entries low each_entry back_entry entries-ascend)
