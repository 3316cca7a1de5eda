-- Later means after: a packet of the order that wasn't stamped by a moment stands behind every front of the order that
-- ends at a place which was stamped by then, of an epoch that was current by then at most.
use Rattle.std.proofs.Common.{inl, inr, ℕ, ◌≤◌, List, sym, subst, arith}
use Rattle.eris_base.specs.declared.ids.Epoch.{Epoch}
use Rattle.eris_base.specs.declared.ids.ShardId.{ShardId}
use Rattle.eris_base.specs.ConfigLimits.{ConfigValue}
use Rattle.eris_txn.specs.declared.packet.Packet.{Packet}
use Rattle.eris_event.specs.declared.event.Event.{Event}
use Rattle.eris_rules.specs.WorldOrders.{order}
use Rattle.eris_law_epoch.specs.Members.{In}
use Rattle.eris_law_epoch.specs.Stamped.{HasNumber}
use Rattle.eris_law_agreement.specs.Alone.{stamping_of}
use Rattle.eris_law_agreement.specs.EpochRuns.{servers_at}
use Rattle.eris_law_agreement.specs.WorldMoments.{world_at}
use Rattle.eris_law_agreement.proofs.Growth.{stamped_kept}
use Rattle.eris_law_order.proofs.LaterStamps.{later_epoch}
use Rattle.eris_law_order.proofs.OrderFronts.{IsUpto}
use Rattle.eris_law_order.proofs.OrderMembers.{stamping_right}
use Rattle.eris_law_order.proofs.ShardLists.{number_on-is}

module _ (config : ConfigValue) (events : List Event) (j k : ℕ) (le : j ≤ k) (shard : ShardId) (epoch : Epoch) (n : ℕ) (top : Packet)
    (there : In top (stamping_of config (servers_at config events j).stampings epoch).stamped) (has : HasNumber top shard n) (low : epoch.0 ≤ (servers_at config events j).coordinator.current.0) where
  -- what has a number up to a stamped one was stamped by then
  by_then : (packet : Packet) (m : ℕ) → In packet (stamping_of config (servers_at config events k).stampings epoch).stamped → HasNumber packet shard m → m ≤ n → In packet (stamping_of config (servers_at config events j).stampings epoch).stamped
  by_then packet m stamped number high =
      let first = (stamping_right config events k epoch).low packet shard m stamped number in
      let counter = (stamping_right config events j epoch).high top shard n there has in
      let one = (stamping_right config events j epoch).onto shard m first (omega (arith, counter, high)) in
      subst (λ p. In p (stamping_of config (servers_at config events j).stampings epoch).stamped)
      ((stamping_right config events k epoch).one one.0 packet shard m (stamped_kept config events epoch one.0 j k le one.1) stamped one.2 number) one.1

  pub not_upto : (packet : Packet) (m : ℕ) → In packet (stamping_of config (servers_at config events k).stampings packet.stamp.epoch).stamped → In packet (order (world_at config events k)) → HasNumber packet shard m
      → (In packet (stamping_of config (servers_at config events j).stampings packet.stamp.epoch).stamped → ⊥) → IsUpto shard epoch n packet → ⊥
  not_upto packet m stamped i number new (inl lt) = absurd (let up = later_epoch config events j k le packet i new in omega (arith, lt, up, low))
  not_upto packet m stamped i number new (inr u) =
      let same = number_on-is shard m packet number in
      let high = u.1 in
      new (subst (λ e. In packet (stamping_of config (servers_at config events j).stampings e).stamped) (sym u.0)
      (by_then packet m (subst (λ e. In packet (stamping_of config (servers_at config events k).stampings e).stamped) u.0 stamped) number (omega (arith, same, high))))
