-- The order on a shard by membership: its packets are those that survive, each stamped in its epoch and with a number
-- on the shard; and they strictly ascend by epoch and number, since numbers rise along each epoch's list.
use Rattle.std.proofs.Common.{◌≡◌, inl, inr, ℕ, suc, ◌+◌, ◌≤◌, ◌<◌, List, [], ◌∷◌, ◌++◌, Bool, true, false, cond, Option, Some, None, is_some, refl, sym, ap, ◌∙◌, subst, arith}
use Rattle.std.specs.Prelude.{slice_get}
use Rattle.std.specs.List.{filter, flat_map}
use Rattle.eris_base.specs.declared.ids.Epoch.{Epoch}
use Rattle.eris_base.specs.declared.ids.ShardId.{ShardId}
use Rattle.eris_base.specs.ConfigLimits.{ConfigValue}
use Rattle.eris_base.specs.Each.{Each}
use Rattle.eris_base.specs.Places.{number_in}
use Rattle.eris_base.proofs.Each.{Each-append}
use Rattle.eris_base.proofs.IdLaws.{epoch_equal}
use Rattle.eris_txn.specs.declared.packet.Packet.{Packet}
use Rattle.eris_locks.specs.Shards.{names_shard}
use Rattle.eris_event.specs.declared.event.Event.{Event}
use Rattle.eris_sequencer.specs.declared.stamping.Stamping.{Stamping}
use Rattle.eris_sequencer.specs.Sequencers.{new_stamping}
use Rattle.eris_rules.specs.WorldOrders.{stamping_list, survives, order, order_on}
use Rattle.eris_law_epoch.specs.Members.{In}
use Rattle.eris_law_epoch.specs.Stamped.{HasNumber, IsBelow, Rise, IsStampingOf}
use Rattle.eris_law_epoch.proofs.Members.{Each-at, Each-by_In, In-append, In-left, In-right, In-get, In-filtered, filtered-In}
use Rattle.eris_law_epoch.proofs.StampList.{stamps}
use Rattle.eris_law_agreement.specs.Alone.{stamping_or, stamping_of}
use Rattle.eris_law_agreement.specs.EpochRuns.{servers_at, system_of}
use Rattle.eris_law_agreement.specs.WorldMoments.{world_at}
use Rattle.eris_law_agreement.proofs.ClosedLaws.{In-flat_map}
use Rattle.eris_law_agreement.proofs.FollowSteps.{In-index}
use Rattle.eris_law_agreement.proofs.Reduction.{own_events}
use Rattle.eris_law_order.proofs.Closings.{is_alone}
use Rattle.eris_law_order.proofs.ShardLists.{Before, Ascends, number_on-is}

pub flat_map-In : {X Y : Type 0} (f : X → List Y) (xs : List X) (x : X) (y : Y) → In x xs → In y (f x) → In y (flat_map f xs)
flat_map-In f [] x y i j = absurd i
flat_map-In f (z ∷ xs) x y (inl e) j = In-left y (f z) (flat_map f xs) (subst (λ w. In y (f w)) e j)
flat_map-In f (z ∷ xs) x y (inr i) j = In-right y (f z) (flat_map f xs) (flat_map-In f xs x y i j)

some_of : (o : Option ℕ) → is_some o ≡ true → (n : ℕ) × (o ≡ Some n)
some_of None h = absurd (cc)
some_of (Some n) h = (n, refl)

-- who names the shard has a number there
pub has_number : (shard : ShardId) (packet : Packet) → names_shard shard packet ≡ true → (n : ℕ) × HasNumber packet shard n
has_number shard packet h = some_of (number_in packet.stamp.places shard) h

pub names-has : (shard : ShardId) (packet : Packet) (n : ℕ) → HasNumber packet shard n → names_shard shard packet ≡ true
names-has shard packet n h = ap is_some h

-- where both have numbers on the shard, the first stands before the second
abbrev pub Ranks : ShardId → Packet → Packet → Type 0
Ranks shard x y = (m n : ℕ) → HasNumber x shard m → HasNumber y shard n → Before shard x y

abbrev pub Ranked : ShardId → List Packet → Type 0
Ranked shard [] = Unit {0}
Ranked shard (x ∷ xs) = Each (Ranks shard x) xs × Ranked shard xs

ranked-append : (shard : ShardId) (xs ys : List Packet) → Ranked shard xs → Ranked shard ys → ((x y : Packet) → In x xs → In y ys → Ranks shard x y) → Ranked shard (xs ++ ys)
ranked-append shard [] ys f g h = g
ranked-append shard (x ∷ xs) ys f g h =
    (Each-append (Ranks shard x) xs ys f.0 (Each-by_In (Ranks shard x) ys (λ y i. h x y (inl refl) i)), ranked-append shard xs ys f.1 g (λ a b i j. h a b (inr i) j))

ranked-filter : (shard : ShardId) (test : Packet → Bool) (xs : List Packet) → Ranked shard xs → Ranked shard (filter test xs)
ranked-filter shard test [] f = tt
ranked-filter shard test (x ∷ xs) f = by_test (test x) (ranked-filter shard test xs f.1)
  where
    by_test : (b : Bool) → Ranked shard (filter test xs) → Ranked shard (cond b (x ∷ filter test xs) (filter test xs))
    by_test true h = (Each-by_In (Ranks shard x) (filter test xs) (λ z i. Each-at (Ranks shard x) xs z f.0 (In-filtered test xs z i).0), h)
    by_test false h = h

ranked-ascends : (shard : ShardId) (xs : List Packet) → Ranked shard xs → Ascends shard (filter (names_shard shard) xs)
ranked-ascends shard [] f = tt
ranked-ascends shard (x ∷ xs) f = by_test (names_shard shard x) refl (ranked-ascends shard xs f.1)
  where
    by_test : (b : Bool) → names_shard shard x ≡ b → Ascends shard (filter (names_shard shard) xs) → Ascends shard (cond b (x ∷ filter (names_shard shard) xs) (filter (names_shard shard) xs))
    by_test true e h = (
      Each-by_In (Before shard x) (filter (names_shard shard) xs) (λ z i.
          let r = In-filtered (names_shard shard) xs z i in
          let a = has_number shard x e in
          let b = has_number shard z r.1 in
          Each-at (Ranks shard x) xs z f.0 r.0 a.0 b.0 a.1 b.1),
      h,
    )
    by_test false e h = h

-- the list of the sequencer that stands at an epoch's index
pub record IsRightAt (shard : ShardId) (epoch : ℕ) (stamping : Stamping) : Type 0 where
  pub of_epoch : (packet : Packet) → In packet stamping.stamped → packet.stamp.epoch.0 ≡ epoch
  pub rise : Rise shard stamping.stamped

module _ (shard : ShardId) where
  epoch_ranked : (epoch : ℕ) (packets : List Packet) → ((packet : Packet) → In packet packets → packet.stamp.epoch.0 ≡ epoch) → Rise shard packets → Ranked shard packets
  epoch_ranked epoch [] f g = tt
  epoch_ranked epoch (x ∷ xs) f g = (
    Each-by_In (Ranks shard x) xs (λ y i m n p q.
        let lower : m < n = Each-at (IsBelow shard x) xs y g.0 i m n p q in
        let a = number_on-is shard m x p in
        let b = number_on-is shard n y q in
        inr (f x (inl refl) ∙ sym (f y (inr i)), omega (arith, lower, a, b))),
    epoch_ranked epoch xs (λ y i. f y (inr i)) g.1,
  )

  shifted : (a d : ℕ) (stamping : Stamping) → IsRightAt shard (a + suc d) stamping → IsRightAt shard (suc a + d) stamping
  shifted a d stamping right = let e : a + suc d ≡ suc a + d = omega arith in subst (λ n. IsRightAt shard n stamping) e right

  epochs_from : (a : ℕ) (stampings : List Stamping) → ((d : ℕ) (s : Stamping) → slice_get stampings d ≡ Some s → IsRightAt shard (a + d) s)
      → (packet : Packet) → In packet (stamping_list stampings) → a ≤ packet.stamp.epoch.0
  unfolding stamping_list
  epochs_from a [] right packet i = absurd i
  epochs_from a (s ∷ rest) right packet i = elim (In-append packet s.stamped (stamping_list rest) i) [
    | inl here ↦ (let e = (right 0 s refl).of_epoch packet here in omega (arith, e))
    | inr later ↦ (let le = epochs_from (suc a) rest (λ d t h. shifted a d t (right (suc d) t h)) packet later in omega (arith, le))
  ]

  stampings_ranked : (a : ℕ) (stampings : List Stamping) → ((d : ℕ) (s : Stamping) → slice_get stampings d ≡ Some s → IsRightAt shard (a + d) s) → Ranked shard (stamping_list stampings)
  unfolding stamping_list
  stampings_ranked a [] right = tt
  stampings_ranked a (s ∷ rest) right =
      let more = (λ (d : ℕ) (t : Stamping) (h : slice_get rest d ≡ Some t). shifted a d t (right (suc d) t h)) in
      ranked-append shard s.stamped (stamping_list rest) (epoch_ranked (a + 0) s.stamped (right 0 s refl).of_epoch (right 0 s refl).rise) (stampings_ranked (suc a) rest more)
      (λ x y i j m n p q. let e = (right 0 s refl).of_epoch x i in let le = epochs_from (suc a) rest more y j in inl (omega (arith, e, le)))

module _ (config : ConfigValue) (events : List Event) (k : ℕ) where
  -- what each epoch's list is
  pub stamping_right : (epoch : Epoch) → IsStampingOf (system_of config events k epoch) (stamping_of config (servers_at config events k).stampings epoch)
  stamping_right epoch = subst (λ s. IsStampingOf (system_of config events k epoch) s) (is_alone config events k epoch k (omega arith)).stamping
      (stamps (system_of config events k epoch) (own_events config events k epoch) k)

  stands_at : (d : ℕ) (s : Stamping) → slice_get (servers_at config events k).stampings d ≡ Some s → stamping_of config (servers_at config events k).stampings (record { 0 = d }) ≡ s
  unfolding stamping_of
  stands_at d s h = ap (stamping_or (new_stamping config (record { 0 = d }))) h

  zero_more : (d : ℕ) → d ≡ 0 + d
  zero_more d = omega arith

  right_at : (shard : ShardId) (d : ℕ) (s : Stamping) → slice_get (servers_at config events k).stampings d ≡ Some s → IsRightAt shard (0 + d) s
  right_at shard d s h =
      let is = subst (λ t. IsStampingOf (system_of config events k (record { 0 = d })) t) (stands_at d s h) (stamping_right (record { 0 = d })) in
      record { of_epoch = λ packet i. ap (λ (e : Epoch). e.0) (is.each packet i).epoch_is ∙ zero_more d; rise = is.rise shard }

  -- NUMBERS RISE ALONG THE STAMPING LIST on each shard, over all epochs; so the order on a shard strictly ascends
  pub list_ranked : (shard : ShardId) → Ranked shard (stamping_list (world_at config events k).stampings)
  list_ranked shard = stampings_ranked shard 0 (world_at config events k).stampings (right_at shard)

  pub order_ascends : (shard : ShardId) → Ascends shard (order_on shard (world_at config events k))
  unfolding order_on order
  order_ascends shard = ranked-ascends shard _ (ranked-filter shard (survives (world_at config events k)) _ (list_ranked shard))

  -- the stamping list by membership
  pub list-In : (packet : Packet) → In packet (stamping_list (world_at config events k).stampings) → In packet (stamping_of config (servers_at config events k).stampings packet.stamp.epoch).stamped
  unfolding stamping_list
  list-In packet i =
      let one = In-flat_map (λ (s : Stamping). s.stamped) (world_at config events k).stampings packet i in
      let index = In-index one.0 (world_at config events k).stampings one.1 in
      let epoch = (right_at (record { 0 = 0 }) index.0 one.0 index.1).of_epoch packet one.2 in
      let is : stamping_of config (servers_at config events k).stampings packet.stamp.epoch ≡ one.0 =
      ap (stamping_of config (servers_at config events k).stampings) (epoch_equal packet.stamp.epoch (record { 0 = index.0 }) (epoch ∙ sym (zero_more index.0))) ∙ stands_at index.0 one.0 index.1 in
      subst (λ (s : Stamping). In packet s.stamped) (sym is) one.2

  pub In-list : (packet : Packet) (epoch : Epoch) → In packet (stamping_of config (servers_at config events k).stampings epoch).stamped → In packet (stamping_list (world_at config events k).stampings)
  unfolding stamping_of stamping_list new_stamping
  In-list packet epoch i = by_found (slice_get (world_at config events k).stampings epoch.0) refl i
    where
      by_found : (o : Option Stamping) → slice_get (world_at config events k).stampings epoch.0 ≡ o → In packet (stamping_or (new_stamping config epoch) o).stamped → In packet (flat_map (λ (s : Stamping). s.stamped) (world_at config events k).stampings)
      by_found None e j = absurd j
      by_found (Some s) e j = flat_map-In (λ (s : Stamping). s.stamped) (world_at config events k).stampings s packet (In-get s (world_at config events k).stampings epoch.0 e) j

  -- THE ORDER ON A SHARD BY MEMBERSHIP
  pub record IsOnOrder (shard : ShardId) (packet : Packet) : Type 0 where
    pub stamped : In packet (stamping_of config (servers_at config events k).stampings packet.stamp.epoch).stamped
    pub survives_is : survives (world_at config events k) packet ≡ true
    pub number : ℕ
    pub has : HasNumber packet shard number

  pub order_on-In : (shard : ShardId) (packet : Packet) → In packet (order_on shard (world_at config events k)) → IsOnOrder shard packet
  unfolding order_on order
  order_on-In shard packet i =
      let a = In-filtered (names_shard shard) (order (world_at config events k)) packet i in
      let b = In-filtered (survives (world_at config events k)) (stamping_list (world_at config events k).stampings) packet a.0 in
      let n = has_number shard packet a.1 in
      record { stamped = list-In packet b.0; survives_is = b.1; number = n.0; has = n.1 }

  pub In-order_on : (shard : ShardId) (packet : Packet) (epoch : Epoch) (n : ℕ) → In packet (stamping_of config (servers_at config events k).stampings epoch).stamped
      → survives (world_at config events k) packet ≡ true → HasNumber packet shard n → In packet (order_on shard (world_at config events k))
  unfolding order_on order
  In-order_on shard packet epoch n i h has =
      filtered-In (names_shard shard) (order (world_at config events k)) packet (filtered-In (survives (world_at config events k)) (stamping_list (world_at config events k).stampings) packet (In-list packet epoch i) h) (names-has shard packet n has)
