-- How the order begins on a shard: the log of what is closed below an epoch, and then the survivors of the epoch up to
-- a number. Whatever list has just these packets, ascending, is its front; the order itself is never taken apart.
use Rattle.std.proofs.Common.{◌≡◌, ◌⊎◌, inl, inr, ℕ, ◌≤◌, ◌<◌, List, ◌++◌, Bool, true, false, not, ◌&&◌, ◌==◌, nat_lt, sym, ap, ◌∙◌, subst, arith}
use Rattle.std.proofs.lemmas.Bool.{and_parts, or_cases, or_left, or_right, eqb-true, ltb-true, not-true}
use Rattle.std.proofs.lemmas.Bool.Decides.{nat_tests}
use Rattle.eris_base.specs.declared.ids.Epoch.{Epoch}
use Rattle.eris_base.specs.declared.ids.ShardId.{ShardId}
use Rattle.eris_base.specs.ConfigLimits.{ConfigValue}
use Rattle.eris_base.proofs.IdLaws.{epoch_equal}
use Rattle.eris_txn.specs.declared.packet.Packet.{Packet}
use Rattle.eris_log.specs.Places.{any_among}
use Rattle.eris_epoch.specs.Closing.{shard_log}
use Rattle.eris_epoch.specs.SamePackets.{is_listed}
use Rattle.eris_event.specs.declared.event.Event.{Event}
use Rattle.eris_rules.specs.CoordStates.{EpochCoord}
use Rattle.eris_rules.specs.WorldOrders.{survives_now, survives, order_on, is_held_in}
use Rattle.eris_law_epoch.specs.EpochWorlds.{EpochWorld}
use Rattle.eris_law_epoch.specs.Members.{In}
use Rattle.eris_law_epoch.specs.Stamped.{HasNumber}
use Rattle.eris_law_epoch.proofs.Members.{In-append, In-left, In-right, In-filtered}
use Rattle.eris_law_agreement.specs.Alone.{stamping_of}
use Rattle.eris_law_agreement.specs.ClosedBelow.{closed_below}
use Rattle.eris_law_agreement.specs.EpochRuns.{servers_at}
use Rattle.eris_law_agreement.specs.Servers.{Servers}
use Rattle.eris_law_agreement.specs.WorldMoments.{world_at}
use Rattle.eris_law_agreement.proofs.ClosedLaws.{listed-In, In-listed}
use Rattle.eris_law_order.proofs.Closings.{alone, is_alone}
use Rattle.eris_law_order.proofs.ClosedLogs.{log-In, In-log, prior_ascends}
use Rattle.eris_law_order.proofs.LaterStamps.{below-In, In-below}
use Rattle.eris_law_order.proofs.OrderMembers.{has_number, names-has, order_ascends, order_on-In, In-order_on, IsOnOrder}
use Rattle.eris_law_order.proofs.ShardLists.{Before, Ascends, Ascends-append, Cut, cut, number_on, number_on-is}
use Rattle.eris_law_order.proofs.SpokenClosed.{closed_fine, closed_stamped}

-- the packet is of an earlier epoch, or of this one with a number on the shard that isn't above this
abbrev pub IsUpto : ShardId → Epoch → ℕ → Packet → Type 0
IsUpto shard epoch n packet = (packet.stamp.epoch.0 < epoch.0) ⊎ ((packet.stamp.epoch ≡ epoch) × (number_on shard packet ≤ n))

upto_down : (shard : ShardId) (epoch : Epoch) (n : ℕ) (x z : Packet) → IsUpto shard epoch n x → Before shard z x → IsUpto shard epoch n z
upto_down shard epoch n x z (inl lt) (inl b) = inl (omega (arith, lt, b))
upto_down shard epoch n x z (inl lt) (inr b) = inl (let e = b.0 in omega (arith, lt, e))
upto_down shard epoch n x z (inr u) (inl b) = inl (let e : x.stamp.epoch.0 ≡ epoch.0 = ap (λ (y : Epoch). y.0) u.0 in omega (arith, e, b))
upto_down shard epoch n x z (inr u) (inr b) = inr (epoch_equal z.stamp.epoch epoch (b.0 ∙ ap (λ (y : Epoch). y.0) u.0), let p = u.1 in let q = b.1 in omega (arith, p, q))

closed_lower : (epoch : Epoch) (packet : Packet) (closed : List Packet) → In packet (closed_below epoch closed) → packet.stamp.epoch.0 < epoch.0
unfolding closed_below
closed_lower epoch packet closed i = ltb-true packet.stamp.epoch.0 epoch.0 (In-filtered (λ (p : Packet). nat_lt p.stamp.epoch.0 epoch.0) closed packet i).1

module _ (config : ConfigValue) (events : List Event) (k : ℕ) where
  abbrev now : Servers
  now = servers_at config events k

  -- the epoch by itself at this moment
  abbrev pub epoch_now : Epoch → EpochWorld
  epoch_now epoch = alone config events k epoch k

  -- ---- who survives
  now_parts : (packet : Packet) → survives_now (world_at config events k) packet ≡ true → (packet.stamp.epoch ≡ now.coordinator.current) × (any_among now.coordinator.inner.dropped packet.stamp ≡ false)
  unfolding survives_now
  now_parts packet h =
      let a = and_parts (packet.stamp.epoch.0 == now.coordinator.current.0) _ h in
      let b = and_parts (not (any_among now.coordinator.inner.dropped packet.stamp)) _ a.1 in
      (epoch_equal packet.stamp.epoch now.coordinator.current (eqb-true _ _ a.0), not-true _ b.0)

  pub survive_cases : (packet : Packet) → survives (world_at config events k) packet ≡ true
      → In packet now.coordinator.closed ⊎ ((packet.stamp.epoch ≡ now.coordinator.current) × (any_among now.coordinator.inner.dropped packet.stamp ≡ false))
  unfolding survives
  survive_cases packet h = elim (or_cases (is_listed now.coordinator.closed packet) (survives_now (world_at config events k) packet) h) [
    | inl closed ↦ inl (listed-In now.coordinator.closed packet closed)
    | inr current ↦ inr (now_parts packet current)
  ]

  -- no place of a survivor is dropped in its epoch
  pub survive_clear : (packet : Packet) → survives (world_at config events k) packet ≡ true → any_among (epoch_now packet.stamp.epoch).coordinator.dropped packet.stamp ≡ false
  survive_clear packet h = elim (survive_cases packet h) [
    | inl closed ↦ (closed_fine config events k k (omega arith) packet closed).undropped
    | inr current ↦ ap (λ (c : EpochCoord). any_among c.dropped packet.stamp) ((is_alone config events k packet.stamp.epoch k (omega arith)).coordinator (sym current.0)) ∙ current.1
  ]

  pub survive_below : (packet : Packet) → survives (world_at config events k) packet ≡ true → packet.stamp.epoch.0 < now.coordinator.current.0 → In packet now.coordinator.closed
  survive_below packet h lt = elim (survive_cases packet h) [
    | inl closed ↦ closed
    | inr current ↦ absurd (let e = ap (λ (y : Epoch). y.0) current.0 in omega (arith, e, lt))
  ]

  pub closed_survives : (packet : Packet) → In packet now.coordinator.closed → survives (world_at config events k) packet ≡ true
  unfolding survives
  closed_survives packet i = or_left _ _ (In-listed now.coordinator.closed packet i)

  three : (a b c : Bool) → a ≡ true → b ≡ false → c ≡ true → (a && (not b && c)) ≡ true
  three a b c p q r = grind arith

  -- a packet of the current epoch that isn't dropped and that somebody holds
  pub held_survives : (packet : Packet) → packet.stamp.epoch ≡ now.coordinator.current → any_among (epoch_now packet.stamp.epoch).coordinator.dropped packet.stamp ≡ false
      → is_held_in now.coordinator.current now.replicas packet ≡ true → survives (world_at config events k) packet ≡ true
  unfolding survives survives_now
  held_survives packet current clear held =
      let dropped : any_among now.coordinator.inner.dropped packet.stamp ≡ false =
      sym (ap (λ (c : EpochCoord). any_among c.dropped packet.stamp) ((is_alone config events k packet.stamp.epoch k (omega arith)).coordinator (sym current))) ∙ clear in
      let same : packet.stamp.epoch.0 ≡ now.coordinator.current.0 = ap (λ (y : Epoch). y.0) current in
      let test : packet.stamp.epoch.0 == now.coordinator.current.0 ≡ true = grind (arith, nat_tests) in
      or_right _ _ (three _ _ _ test dropped (or_right _ _ held))

  -- ---- the front of the order up to a number of an epoch
  pub record IsEntry (shard : ShardId) (epoch : Epoch) (n : ℕ) (packet : Packet) : Type 0 where
    pub of_epoch : packet.stamp.epoch ≡ epoch
    pub stamped : In packet (stamping_of config now.stampings epoch).stamped
    pub survives_is : survives (world_at config events k) packet ≡ true
    pub number : ℕ
    pub has : HasNumber packet shard number
    pub upto : number ≤ n

  module _ (shard : ShardId) (epoch : Epoch) (n : ℕ) (entries : List Packet) (low : epoch.0 ≤ now.coordinator.current.0)
      (each : (packet : Packet) → In packet entries → IsEntry shard epoch n packet)
      (back : (packet : Packet) → IsEntry shard epoch n packet → In packet entries) where
    abbrev prior : List Packet
    prior = shard_log (closed_below epoch now.coordinator.closed) shard

    from_prior : (packet : Packet) → In packet prior → In packet (order_on shard (world_at config events k)) × IsUpto shard epoch n packet
    from_prior packet i =
        let logged = log-In shard (closed_below epoch now.coordinator.closed) packet i in
        let closed = below-In config events epoch now.coordinator.closed packet logged.0 in
        let n = has_number shard packet logged.1 in
        (In-order_on config events k shard packet packet.stamp.epoch n.0 (closed_stamped config events k packet closed) (closed_survives packet closed) n.1, inl (closed_lower epoch packet now.coordinator.closed logged.0))

    from_entry : (packet : Packet) → In packet entries → In packet (order_on shard (world_at config events k)) × IsUpto shard epoch n packet
    from_entry packet i =
        let e = each packet i in
        let same = number_on-is shard e.number packet e.has in
        let upto = e.upto in
        (In-order_on config events k shard packet epoch e.number e.stamped e.survives_is e.has, inr (e.of_epoch, omega (arith, same, upto)))

    into_front : (packet : Packet) → IsOnOrder config events k shard packet → IsUpto shard epoch n packet → In packet (prior ++ entries)
    into_front packet on (inl lt) =
        let closed = survive_below packet on.survives_is (omega (arith, lt, low)) in
        In-left packet prior entries (In-log shard (closed_below epoch now.coordinator.closed) packet (In-below config events epoch now.coordinator.closed packet closed lt) (names-has shard packet on.number on.has))
    into_front packet on (inr u) =
        let same = number_on-is shard on.number packet on.has in
        let high = u.1 in
        In-right packet prior entries (back packet (record {
          of_epoch = u.0;
          stamped = subst (λ (e : Epoch). In packet (stamping_of config now.stampings e).stamped) u.0 on.stamped;
          survives_is = on.survives_is;
          number = on.number;
          has = on.has;
          upto = omega (arith, same, high);
        }))

    -- THE FRONT: what is closed below the epoch on the shard, and then the epoch's survivors up to the number
    pub front_cut : Ascends shard entries → Cut (IsUpto shard epoch n) (prior ++ entries) (order_on shard (world_at config events k))
    front_cut ascends =
        cut shard (IsUpto shard epoch n) (prior ++ entries) (order_on shard (world_at config events k))
        (Ascends-append shard prior entries (prior_ascends config events k epoch shard) ascends
        (λ x y i j. inl (let e = ap (λ (z : Epoch). z.0) (each y j).of_epoch in let lt = closed_lower epoch x now.coordinator.closed (log-In shard (closed_below epoch now.coordinator.closed) x i).0 in omega (arith, e, lt))))
        (order_ascends config events k shard)
        (λ z i. elim (In-append z prior entries i) [ inl j ↦ from_prior z j | inr j ↦ from_entry z j ])
        (λ z i d. into_front z (order_on-In config events k shard z i) d)
        (upto_down shard epoch n)
