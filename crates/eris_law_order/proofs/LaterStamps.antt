-- What is stamped in a closed epoch from then on is never in the order: an earlier sequencer may go on, and a
-- skipped epoch's too, but nothing of it is ever closed or current. So what stands in the order and was stamped
-- after a moment is of an epoch that wasn't yet left behind then.
use Rattle.std.proofs.Common.{◌≡◌, ◌⊎◌, inl, inr, ℕ, ◌+◌, ◌<◌, ◌≤◌, List, true, ◌==◌, nat_lt, subst, arith}
use Rattle.std.proofs.lemmas.Bool.{and_parts, cases_lt, eqb-true, or_cases}
use Rattle.std.proofs.lemmas.Bool.Decides.{nat_tests}
use Rattle.eris_base.specs.declared.ids.Epoch.{Epoch}
use Rattle.eris_base.specs.ConfigLimits.{ConfigValue}
use Rattle.eris_txn.specs.declared.packet.Packet.{Packet}
use Rattle.eris_event.specs.declared.event.Event.{Event}
use Rattle.eris_epoch.specs.SamePackets.{is_listed}
use Rattle.eris_rules.specs.WorldOrders.{stamping_list, survives_now, survives, order}
use Rattle.eris_law_epoch.specs.Members.{In}
use Rattle.eris_law_epoch.proofs.Members.{In-filtered, filtered-In}
use Rattle.eris_law_agreement.specs.Alone.{stamping_of}
use Rattle.eris_law_agreement.specs.ClosedBelow.{closed_below}
use Rattle.eris_law_agreement.specs.EpochRuns.{servers_at}
use Rattle.eris_law_agreement.specs.Servers.{Servers}
use Rattle.eris_law_agreement.specs.WorldMoments.{world_at}
use Rattle.eris_law_agreement.proofs.ClosedLaws.{listed-In}
use Rattle.eris_law_agreement.proofs.Growth.{closed_kept, current_rises}
use Rattle.eris_law_order.proofs.SpokenClosed.{closed_stamped}

module _ (config : ConfigValue) (events : List Event) where
  abbrev at : ℕ → Servers
  at k = servers_at config events k

  pub below-In : (epoch : Epoch) (closed : List Packet) (packet : Packet) → In packet (closed_below epoch closed) → In packet closed
  unfolding closed_below
  below-In epoch closed packet i = (In-filtered (λ (p : Packet). nat_lt p.stamp.epoch.0 epoch.0) closed packet i).0

  pub In-below : (epoch : Epoch) (closed : List Packet) (packet : Packet) → In packet closed → packet.stamp.epoch.0 < epoch.0 → In packet (closed_below epoch closed)
  unfolding closed_below
  In-below epoch closed packet i lt = filtered-In (λ (p : Packet). nat_lt p.stamp.epoch.0 epoch.0) closed packet i (passes packet.stamp.epoch.0 epoch.0 lt)
    where
      passes : (a b : ℕ) → a < b → nat_lt a b ≡ true
      passes a b h = grind (arith, nat_tests)

  -- a closed packet of an epoch that was left behind by a moment was closed by then
  pub closed_back : (j k : ℕ) → j ≤ k → (packet : Packet) → packet.stamp.epoch.0 < (at j).coordinator.current.0 → In packet (at k).coordinator.closed → In packet (at j).coordinator.closed
  closed_back j k le packet up i =
      let next : Epoch = record { 0 = packet.stamp.epoch.0 + 1 } in
      below-In next (at j).coordinator.closed packet
      (subst (λ list. In packet list) (closed_kept config events next j k le (omega (arith, up))) (In-below next (at k).coordinator.closed packet i (omega arith)))

  -- so it was stamped by then
  pub stamped_by : (j k : ℕ) → j ≤ k → (packet : Packet) → packet.stamp.epoch.0 < (at j).coordinator.current.0 → In packet (at k).coordinator.closed
      → In packet (stamping_of config (at j).stampings packet.stamp.epoch).stamped
  stamped_by j k le packet up i = closed_stamped config events j packet (closed_back j k le packet up i)

  -- WHAT STANDS IN THE ORDER is of an epoch that is current at most
  now_current : (k : ℕ) (packet : Packet) → survives_now (world_at config events k) packet ≡ true → packet.stamp.epoch.0 ≡ (at k).coordinator.current.0
  unfolding survives_now
  now_current k packet h = eqb-true _ _ (and_parts (packet.stamp.epoch.0 == (at k).coordinator.current.0) _ h).0

  in_order : (k : ℕ) (packet : Packet) → In packet (order (world_at config events k)) → In packet (at k).coordinator.closed ⊎ (packet.stamp.epoch.0 ≡ (at k).coordinator.current.0)
  unfolding order survives
  in_order k packet i =
      let passed = (In-filtered (survives (world_at config events k)) (stamping_list (world_at config events k).stampings) packet i).1 in
      elim (or_cases (is_listed (at k).coordinator.closed packet) (survives_now (world_at config events k) packet) passed) [
        | inl closed ↦ inl (listed-In (at k).coordinator.closed packet closed)
        | inr now ↦ inr (now_current k packet now)
      ]

  -- STAMPED LATER, OF NO EARLIER EPOCH: a packet of the order that wasn't stamped by a moment is of no epoch that was
  -- left behind by then
  pub later_epoch : (j k : ℕ) → j ≤ k → (packet : Packet) → In packet (order (world_at config events k)) → (In packet (stamping_of config (at j).stampings packet.stamp.epoch).stamped → ⊥)
      → (at j).coordinator.current.0 ≤ packet.stamp.epoch.0
  later_epoch j k le packet i new = elim (cases_lt packet.stamp.epoch.0 (at j).coordinator.current.0) [
    | inr ge ↦ ge
    | inl lt ↦ elim (in_order k packet i) [
      | inl closed ↦ absurd (new (stamped_by j k le packet lt closed))
      | inr now ↦ absurd (let up = current_rises config events j k le in omega (arith, now))
    ]
  ]
