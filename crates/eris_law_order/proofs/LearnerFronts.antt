-- The log of a learner that spoke in its epoch, with a quorum, past a number is how the order begins on its shard, at
-- every later moment: what the learner left out was dropped, and what it counted is never dropped.
use Rattle.std.proofs.Common.{◌≡◌, ◌⊎◌, inl, inr, ℕ, ◌≤◌, List, ◌++◌, true, false, Some, sym, ap, ◌∙◌, subst, arith}
use Rattle.std.proofs.lemmas.Bool.{cases_Bool, both_ways}
use Rattle.eris_base.specs.declared.ids.ReplicaId.{ReplicaId}
use Rattle.eris_base.specs.declared.ids.ShardId.{ShardId}
use Rattle.eris_base.specs.declared.ids.View.{View}
use Rattle.eris_base.specs.ConfigLimits.{ConfigValue}
use Rattle.eris_base.specs.Quorums.{learner_of}
use Rattle.eris_txn.specs.declared.packet.Packet.{Packet}
use Rattle.eris_log.specs.declared.entry.Entry.TheVariants.{Txn}
use Rattle.eris_log.specs.Entries.{entry_of, is_dropped}
use Rattle.eris_log.specs.Held.{packet_at}
use Rattle.eris_log.specs.Places.{any_among}
use Rattle.eris_log.specs.Laws.Entries.{HoldsTxn-is_txn, is_txn-entry_of}
use Rattle.eris_event.specs.declared.event.Event.{Event}
use Rattle.eris_rules.specs.Good.{kept_upto}
use Rattle.eris_rules.specs.ReplicaStates.{ReplicaState}
use Rattle.eris_rules.specs.WorldOrders.{order_on}
use Rattle.eris_law_epoch.specs.EpochWorlds.{EpochSystem, EpochEvent}
use Rattle.eris_law_epoch.specs.Members.{In}
use Rattle.eris_law_epoch.specs.Stamped.{HasNumber}
use Rattle.eris_law_epoch.proofs.StampList.{stamps}
use Rattle.eris_law_key.specs.Quorums.{SpokePast}
use Rattle.eris_law_key.proofs.KeyLemma.{no_gap, is_packet, dropped_by, key}
use Rattle.eris_law_key.proofs.Settles.{past_more}
use Rattle.eris_law_agreement.specs.Alone.{state_of}
use Rattle.eris_law_agreement.specs.EpochRuns.{servers_at, system_of}
use Rattle.eris_law_agreement.specs.WorldMoments.{world_at}
use Rattle.eris_law_agreement.proofs.Reduction.{own_events}
use Rattle.eris_law_order.proofs.Closings.{alone, then}
use Rattle.eris_law_order.proofs.OrderFronts.{IsUpto}
use Rattle.eris_law_order.proofs.ShardLists.{Cut}
use Rattle.eris_law_order.proofs.SpokenFronts.{spoken_cut}

module _ (config : ConfigValue) (events : List Event) (j k : ℕ) (le : j ≤ k) (shard : ShardId) (view : View) where
  abbrev learner : ReplicaId
  learner = learner_of view config.f

  abbrev state : ReplicaState
  state = state_of (servers_at config events j).replicas shard learner

  abbrev system : EpochSystem
  system = system_of config events k state.epoch

  abbrev own : List EpochEvent
  own = own_events config events k state.epoch

  module _ (n : ℕ) (past : SpokePast system own k shard view n) (at_j : past.learner.moment ≡ j) where
    gap : (m : ℕ) (packet : Packet) → In packet (alone config events k state.epoch k).stamping.stamped → HasNumber packet shard m → m ≤ n
        → (is_dropped (then config events k state.epoch j shard learner).part m ≡ true) ⊎ (entry_of (then config events k state.epoch j shard learner).part m ≡ Txn)
    gap m packet stamped number high = subst (λ i. (is_dropped (then config events k state.epoch i shard learner).part m ≡ true) ⊎ (entry_of (then config events k state.epoch i shard learner).part m ≡ Txn)) at_j
        (no_gap (then config events k state.epoch past.learner.moment shard learner).part m (past.learner.whole.at m ((stamps system own k).low packet shard m stamped number) high))

    same : (m : ℕ) (packet : Packet) → In packet (alone config events k state.epoch k).stamping.stamped → HasNumber packet shard m → m ≤ n
        → is_dropped (then config events k state.epoch j shard learner).part m ≡ any_among (alone config events k state.epoch k).coordinator.dropped packet.stamp
    same m packet stamped number high = elim (cases_Bool (is_dropped (then config events k state.epoch j shard learner).part m)) [
      | inl lost ↦ lost ∙ sym (dropped_by system own k shard m packet stamped number j k learner le le lost)
      | inr kept ↦ elim (gap m packet stamped number high) [
        | inl lost ↦ absurd (both_ways _ kept lost)
        | inr counts ↦ kept ∙ sym (key system own k shard m packet stamped number view (past_more system own k k shard view n m (omega arith) high past)
            (subst (λ i. entry_of (then config events k state.epoch i shard learner).part m ≡ Txn) (sym at_j) counts))
      ]
    ]

    held : (m : ℕ) (packet : Packet) → In packet (alone config events k state.epoch k).stamping.stamped → HasNumber packet shard m → m ≤ n
        → is_dropped (then config events k state.epoch j shard learner).part m ≡ false → packet_at (then config events k state.epoch j shard learner).part.held m ≡ Some packet
    held m packet stamped number high kept = elim (gap m packet stamped number high) [
      | inl lost ↦ absurd (both_ways _ kept lost)
      | inr counts ↦ (let o = HoldsTxn-is_txn (then config events k state.epoch j shard learner).part m (is_txn-entry_of _ m counts).1 in
          o.held ∙ ap Some (is_packet system own k shard m packet stamped number j learner o.packet le o.held))
    ]

    -- THE LOG BEHIND WHAT A LEARNER SAID, with a quorum, is how the order begins on the shard
    pub learner_cut : Cut (IsUpto shard state.epoch n) (state.prior ++ kept_upto (then config events k state.epoch j shard learner).part n) (order_on shard (world_at config events k))
    learner_cut = spoken_cut config events j k le shard learner view n past same held
