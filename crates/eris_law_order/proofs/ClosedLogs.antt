-- A shard's log of closed packets strictly ascends by epoch and number, and its packets are the closed ones that name
-- the shard. No packet is closed twice: each epoch leaves a packet once, and only packets of its own.
use Rattle.std.proofs.Common.{◌≡◌, ◌⊎◌, inl, inr, ℕ, zero, suc, ◌<◌, List, [], ◌∷◌, ◌++◌, Bool, true, false, cond, nat_lt, ◌&&◌, refl, sym, ap, ◌∙◌, subst, arith}
use Rattle.std.specs.List.{filter, fold, IsDistinct, AllByRecursion}
use Rattle.std.specs.Cmp.{nat_cmp_is}
use Rattle.std.specs.Ordering.{nat_cmp, ordering_then, is_lt}
use Rattle.std.specs.declared.cmp.Ordering.TheVariants.{Less, Equal, Greater}
use Rattle.std.proofs.lemmas.Bool.{and_parts, cases_lt}
use Rattle.eris_base.specs.declared.ids.Epoch.{Epoch}
use Rattle.eris_base.specs.declared.ids.ShardId.{ShardId}
use Rattle.eris_base.specs.ConfigLimits.{ConfigValue}
use Rattle.eris_base.specs.Each.{Each}
use Rattle.eris_base.proofs.IdLaws.{epoch_equal}
use Rattle.eris_base.proofs.Each.{All-append}
use Rattle.eris_txn.specs.declared.packet.Packet.{Packet}
use Rattle.eris_locks.specs.Shards.{names_shard}
use Rattle.eris_log.specs.Sorted.{placed}
use Rattle.eris_epoch.specs.Closing.{turn_on, shard_log}
use Rattle.eris_epoch.specs.SamePackets.{same_packet, is_listed}
use Rattle.eris_epoch.specs.Sorting.{sorted, turn_cmp}
use Rattle.eris_epoch.proofs.EpochLaws.{IsClosing-close, IsShardLog-shard_log}
use Rattle.eris_epoch.proofs.SameLaws.{same_packet-refl, same_packet-true}
use Rattle.eris_event.specs.declared.event.Event.{Event}
use Rattle.eris_rules.specs.Coordinators.{epoch_tally, left_behind}
use Rattle.eris_rules.specs.CoordStates.{CoordState, begun_epoch, first_coordinator}
use Rattle.eris_rules.specs.Worlds.{first_world}
use Rattle.eris_law_epoch.specs.Members.{In}
use Rattle.eris_law_epoch.specs.Stamped.{HasNumber}
use Rattle.eris_law_epoch.proofs.Members.{Each-at, Each-by_In, In-filtered}
use Rattle.eris_law_agreement.specs.Alone.{stamping_of}
use Rattle.eris_law_agreement.specs.ClosedBelow.{closed_below}
use Rattle.eris_law_agreement.specs.EpochRuns.{servers_at}
use Rattle.eris_law_agreement.specs.Servers.{Servers}
use Rattle.eris_law_agreement.specs.WorldMoments.{moment_from}
use Rattle.eris_law_agreement.proofs.ClosedLaws.{listed-In, In-listed, left_behind-epoch}
use Rattle.eris_law_agreement.proofs.CoordLeaves.{noting}
use Rattle.eris_law_agreement.proofs.EpochInvariants.{IsNotedRight, holds_at}
use Rattle.eris_law_order.proofs.Closings.{closes_at, Closes, SameClosed}
use Rattle.eris_law_order.proofs.LaterStamps.{below-In}
use Rattle.eris_law_order.proofs.OrderMembers.{has_number, stamping_right}
use Rattle.eris_law_order.proofs.ShardLists.{Before, Ascends, number_on, number_on-is, before-trans}
use Rattle.eris_law_order.proofs.SpokenClosed.{closed_stamped}

-- ---- sorting packets of which none are of one turn
less_turn : (a b c d : ℕ) → (a < c) ⊎ ((a ≡ c) × (b < d)) → is_lt (ordering_then (nat_cmp a c) (nat_cmp b d)) ≡ true
less_turn a b c d (inl lt) = ap (λ o. is_lt (ordering_then o (nat_cmp b d))) (sym (nat_cmp_is a c Less lt))
less_turn a b c d (inr both) = ap (λ o. is_lt (ordering_then o (nat_cmp b d))) (sym (nat_cmp_is a c Equal both.0)) ∙ ap is_lt (sym (nat_cmp_is b d Less both.1))

more_turn : (a b c d : ℕ) → (c < a) ⊎ ((c ≡ a) × (d < b)) → is_lt (ordering_then (nat_cmp a c) (nat_cmp b d)) ≡ false
more_turn a b c d (inl lt) = ap (λ o. is_lt (ordering_then o (nat_cmp b d))) (sym (nat_cmp_is a c Greater lt))
more_turn a b c d (inr both) = ap (λ o. is_lt (ordering_then o (nat_cmp b d))) (sym (nat_cmp_is a c Equal (sym both.0))) ∙ ap is_lt (sym (nat_cmp_is b d Greater both.1))

module _ (shard : ShardId) where
  before_less : (x y : Packet) → Before shard x y → is_lt (turn_cmp (turn_on shard x) (turn_on shard y)) ≡ true
  unfolding number_on
  before_less x y h = less_turn x.stamp.epoch.0 (number_on shard x) y.stamp.epoch.0 (number_on shard y) h

  before_more : (x y : Packet) → Before shard y x → is_lt (turn_cmp (turn_on shard x) (turn_on shard y)) ≡ false
  unfolding number_on
  before_more x y h = more_turn x.stamp.epoch.0 (number_on shard x) y.stamp.epoch.0 (number_on shard y) h

  abbrev pub Apart : Packet → Packet → Type 0
  Apart x y = Before shard x y ⊎ Before shard y x

  abbrev put : List Packet → Packet → List Packet
  put made x = placed (turn_on shard) turn_cmp made x

  put-In : (x z : Packet) (made : List Packet) → In z (put made x) → (z ≡ x) ⊎ In z made
  unfolding placed
  put-In x z [] i = i
  put-In x z (y ∷ made) i = by_test (is_lt (turn_cmp (turn_on shard x) (turn_on shard y))) i (put-In x z made)
    where
      by_test : (b : Bool) → In z (cond b (x ∷ y ∷ made) (y ∷ put made x)) → (In z (put made x) → (z ≡ x) ⊎ In z made) → (z ≡ x) ⊎ In z (y ∷ made)
      by_test true i rest = i
      by_test false (inl e) rest = inr (inl e)
      by_test false (inr i) rest = elim (rest i) [ inl e ↦ inl e | inr j ↦ inr (inr j) ]

  put-ascends : (x : Packet) (made : List Packet) → ((y : Packet) → In y made → Apart x y) → Ascends shard made → Ascends shard (put made x)
  unfolding placed
  put-ascends x [] apart f = (tt, tt)
  put-ascends x (y ∷ made) apart f = by_turn (apart y (inl refl)) (put-ascends x made (λ z i. apart z (inr i)) f.1)
    where
      after : Before shard y x → (z : Packet) → (z ≡ x) ⊎ In z made → Before shard y z
      after h z (inl e) = subst (λ w. Before shard y w) (sym e) h
      after h z (inr i) = Each-at (Before shard y) made z f.0 i

      by_turn : Apart x y → Ascends shard (put made x) → Ascends shard (cond (is_lt (turn_cmp (turn_on shard x) (turn_on shard y))) (x ∷ y ∷ made) (y ∷ put made x))
      by_turn (inl h) rest = subst (λ b. Ascends shard (cond b (x ∷ y ∷ made) (y ∷ put made x))) (sym (before_less x y h))
          ((h, Each-by_In (Before shard x) made (λ z i. before-trans shard x y z h (Each-at (Before shard y) made z f.0 i))), f)
      by_turn (inr h) rest = subst (λ b. Ascends shard (cond b (x ∷ y ∷ made) (y ∷ put made x))) (sym (before_more x y h))
          (Each-by_In (Before shard y) (put made x) (λ z i. after h z (put-In x z made i)), rest)

  abbrev pub AllApart : List Packet → Type 0
  AllApart [] = Unit {0}
  AllApart (x ∷ xs) = Each (Apart x) xs × AllApart xs

  put_all-ascends : (xs made : List Packet) → Ascends shard made → AllApart xs → ((x y : Packet) → In x xs → In y made → Apart x y)
      → Ascends shard (fold (λ made x. put made x) made xs)
  put_all-ascends [] made f g h = f
  put_all-ascends (x ∷ xs) made f g h = put_all-ascends xs (put made x) (put-ascends x made (λ y i. h x y (inl refl) i) f) g.1
      (λ z y i j. elim (put-In x y made j) [
        | inl e ↦ subst (λ w. Apart z w) (sym e) (turned x z (Each-at (Apart x) xs z g.0 i))
        | inr m ↦ h z y (inr i) m
      ])
    where
      turned : (a b : Packet) → Apart a b → Apart b a
      turned a b (inl h) = inr h
      turned a b (inr h) = inl h

  -- of a list with no packet twice, those that pass a test, where any two differing of them are apart
  filtered_apart : (test : Packet → Bool) (xs : List Packet) → IsDistinct same_packet xs
      → ((x y : Packet) → In x xs → In y xs → test x ≡ true → test y ≡ true → (x ≡ y → ⊥) → Apart x y) → AllApart (filter test xs)
  unfolding IsDistinct
  filtered_apart test [] distinct h = tt
  filtered_apart test (x ∷ xs) distinct h = by_test (test x) refl (filtered_apart test xs distinct.1 (λ a b i j. h a b (inr i) (inr j)))
    where
      differs : (y : Packet) (ys : List Packet) → AllByRecursion (λ z. same_packet x z ≡ false) ys → In y ys → x ≡ y → ⊥
      differs y (z ∷ ys) all (inl e) same = let no = all.0 in let is : same_packet x z ≡ true = ap (same_packet x) (sym e ∙ sym same) ∙ same_packet-refl x in absurd (cc)
      differs y (z ∷ ys) all (inr i) same = differs y ys all.1 i same
      differs y [] all i same = i

      by_test : (b : Bool) → test x ≡ b → AllApart (filter test xs) → AllApart (cond b (x ∷ filter test xs) (filter test xs))
      by_test true e rest = (Each-by_In (Apart x) (filter test xs) (λ y i. let r = In-filtered test xs y i in h x y (inl refl) (inr r.0) e r.1 (λ same. differs y xs distinct.0 r.0 same)), rest)
      by_test false e rest = rest

  -- THE LOG OF A SHARD ASCENDS, where no packet stands twice and any two that name the shard are apart
  pub log_ascends : (closed : List Packet) → IsDistinct same_packet closed
      → ((x y : Packet) → In x closed → In y closed → names_shard shard x ≡ true → names_shard shard y ≡ true → (x ≡ y → ⊥) → Apart x y) → Ascends shard (shard_log closed shard)
  unfolding shard_log sorted
  log_ascends closed distinct h = put_all-ascends (filter (names_shard shard) closed) [] tt (filtered_apart (names_shard shard) closed distinct h) (λ x y i j. absurd j)

  pub log-In : (closed : List Packet) (packet : Packet) → In packet (shard_log closed shard) → In packet closed × (names_shard shard packet ≡ true)
  log-In closed packet i =
      let both = and_parts (is_listed closed packet) (names_shard shard packet) (sym ((IsShardLog-shard_log closed shard).members packet) ∙ In-listed (shard_log closed shard) packet i) in
      (listed-In closed packet both.0, both.1)

  pub In-log : (closed : List Packet) (packet : Packet) → In packet closed → names_shard shard packet ≡ true → In packet (shard_log closed shard)
  In-log closed packet i h =
      listed-In (shard_log closed shard) packet ((IsShardLog-shard_log closed shard).members packet ∙ ap (λ b. b && names_shard shard packet) (In-listed closed packet i) ∙ h)

-- ---- no packet is closed twice
all-by_In : {X : Type 0} (P : X → Type 0) (xs : List X) → ((x : X) → In x xs → P x) → AllByRecursion P xs
all-by_In P [] f = tt
all-by_In P (x ∷ xs) f = (f x (inl refl), all-by_In P xs (λ y i. f y (inr i)))

distinct-append : (xs ys : List Packet) → IsDistinct same_packet xs → IsDistinct same_packet ys → ((x y : Packet) → In x xs → In y ys → same_packet x y ≡ false) → IsDistinct same_packet (xs ++ ys)
unfolding IsDistinct
distinct-append [] ys f g h = g
distinct-append (x ∷ xs) ys f g h = (All-append _ xs ys f.0 (all-by_In _ ys (λ y i. h x y (inl refl) i)), distinct-append xs ys f.1 g (λ a b i j. h a b (inr i) j))

distinct-filter : (test : Packet → Bool) (xs : List Packet) → IsDistinct same_packet xs → IsDistinct same_packet (filter test xs)
unfolding IsDistinct
distinct-filter test [] f = tt
distinct-filter test (x ∷ xs) f = by_test (test x) (distinct-filter test xs f.1)
  where
    at : (P : Packet → Type 0) (ys : List Packet) (y : Packet) → AllByRecursion P ys → In y ys → P y
    at P (z ∷ ys) y all (inl e) = subst P (sym e) all.0
    at P (z ∷ ys) y all (inr i) = at P ys y all.1 i
    at P [] y all i = absurd i

    by_test : (b : Bool) → IsDistinct same_packet (filter test xs) → IsDistinct same_packet (cond b (x ∷ filter test xs) (filter test xs))
    by_test true rest = (all-by_In _ (filter test xs) (λ y i. at _ xs y f.0 (In-filtered test xs y i).0), rest)
    by_test false rest = rest

module _ (config : ConfigValue) (events : List Event) where
  abbrev at : ℕ → Servers
  at k = servers_at config events k

  left_once : (state : CoordState) → IsDistinct same_packet (left_behind config state)
  unfolding left_behind
  left_once state = (IsClosing-close (epoch_tally config state) state.current state.inner.found state.inner.dropped).once

  other_epochs : (x y : Packet) (b : Bool) → same_packet x y ≡ b → x.stamp.epoch.0 < y.stamp.epoch.0 → same_packet x y ≡ false
  other_epochs x y false e lt = e
  other_epochs x y true e lt = absurd (let same = ap (λ (p : Packet). p.stamp.epoch.0) (same_packet-true x y e) in omega (arith, same, lt))

  first_once : IsDistinct same_packet (at 0).coordinator.closed
  unfolding IsDistinct moment_from first_world first_coordinator begun_epoch
  first_once = tt

  once_next : (k : ℕ) → SameClosed (at k) (at (suc k)) ⊎ Closes config (at k) (at (suc k)) → IsDistinct same_packet (at k).coordinator.closed → IsDistinct same_packet (at (suc k)).coordinator.closed
  once_next k (inl same) once = subst (λ list. IsDistinct same_packet list) (sym same.closed) once
  once_next k (inr closing) once =
      let state = noting (at k).coordinator closing.replica closing.part in
      let own = left_behind-epoch config state (holds_at config events k).found (λ one i. (Each-at (IsNotedRight config (at k).sent (at k).coordinator.target) state.noted one closing.right i).right) in
      subst (λ list. IsDistinct same_packet list) (sym closing.list)
      (distinct-append (at k).coordinator.closed (left_behind config state) once (left_once state)
      (λ x y i j.
      let low = Each-at (λ (p : Packet). p.stamp.epoch.0 < (at k).coordinator.current.0) (at k).coordinator.closed x (holds_at config events k).below i in
      let here = Each-at (λ (p : Packet). p.stamp.epoch ≡ (at k).coordinator.current) (left_behind config state) y own j in
      other_epochs x y (same_packet x y) refl (subst (λ (e : Epoch). x.stamp.epoch.0 < e.0) (sym here) low)))

  -- NO PACKET IS CLOSED TWICE
  pub closed_once : (k : ℕ) → IsDistinct same_packet (at k).coordinator.closed
  closed_once zero = first_once
  closed_once (suc k) = once_next k (closes_at config events (suc k) k) (closed_once k)

  -- two closed packets on a shard differ in epoch or number
  closed_apart : (k : ℕ) (shard : ShardId) (x y : Packet) → In x (at k).coordinator.closed → In y (at k).coordinator.closed → names_shard shard x ≡ true → names_shard shard y ≡ true → (x ≡ y → ⊥) → Apart shard x y
  closed_apart k shard x y i j f g differ = elim (cases_lt x.stamp.epoch.0 y.stamp.epoch.0) [
    | inl lt ↦ inl (inl lt)
    | inr ge ↦ elim (cases_lt y.stamp.epoch.0 x.stamp.epoch.0) [
      | inl gt ↦ inr (inl gt)
      | inr le ↦ by_number (omega (arith, ge, le)) (has_number shard x f) (has_number shard y g)
    ]
  ]
    where
      by_number : x.stamp.epoch.0 ≡ y.stamp.epoch.0 → (m : ℕ) × HasNumber x shard m → (n : ℕ) × HasNumber y shard n → Apart shard x y
      by_number e a b =
          let u = number_on-is shard a.0 x a.1 in
          let v = number_on-is shard b.0 y b.1 in
          elim (cases_lt a.0 b.0) [
            | inl lt ↦ inl (inr (e, omega (arith, u, v, lt)))
            | inr ge ↦ elim (cases_lt b.0 a.0) [
              | inl gt ↦ inr (inr (sym e, omega (arith, u, v, gt)))
              | inr le ↦ absurd (differ (
                  let same : b.0 ≡ a.0 = omega (arith, ge, le) in
                  (stamping_right config events k x.stamp.epoch).one x y shard a.0 (closed_stamped config events k x i)
                  (subst (λ epoch. In y (stamping_of config (at k).stampings epoch).stamped) (epoch_equal y.stamp.epoch x.stamp.epoch (sym e)) (closed_stamped config events k y j))
                  a.1 (subst (λ n. HasNumber y shard n) same b.1)))
            ]
          ]

  below_once : (k : ℕ) (epoch : Epoch) → IsDistinct same_packet (closed_below epoch (at k).coordinator.closed)
  unfolding closed_below
  below_once k epoch = distinct-filter (λ (p : Packet). nat_lt p.stamp.epoch.0 epoch.0) (at k).coordinator.closed (closed_once k)

  -- THE LOG OF WHAT IS CLOSED BELOW AN EPOCH strictly ascends
  pub prior_ascends : (k : ℕ) (epoch : Epoch) (shard : ShardId) → Ascends shard (shard_log (closed_below epoch (at k).coordinator.closed) shard)
  prior_ascends k epoch shard = log_ascends shard (closed_below epoch (at k).coordinator.closed) (below_once k epoch)
      (λ x y i j f g differ. closed_apart k shard x y (below-In config events epoch (at k).coordinator.closed x i) (below-In config events epoch (at k).coordinator.closed y j) f g differ)
