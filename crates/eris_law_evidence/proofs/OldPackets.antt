-- Later means after: the order at a moment begins with those of its packets that were stamped by an earlier moment, in
-- an epoch that was current by then at most; what was stamped later stands behind them all. For the stamping list of
-- an epoch only grows at its end, and nothing of an epoch that was left behind comes into the order any more.
use Rattle.std.proofs.Common.{◌≡◌, inl, inr, ℕ, zero, suc, ◌≤◌, ◌<◌, List, [], ◌∷◌, ◌++◌, Bool, true, refl, sym, ap, ◌∙◌, subst, append_assoc, arith}
use Rattle.std.specs.List.{filter}
use Rattle.std.specs.Prelude.{slice_get}
use Rattle.std.proofs.lemmas.Bool.{cases_lt}
use Rattle.std.proofs.lemmas.List.Elements.{filter-append}
use Rattle.eris_base.specs.declared.ids.Epoch.{Epoch}
use Rattle.eris_base.specs.declared.ids.Phase.{Phase}
use Rattle.eris_base.specs.declared.ids.ShardId.{ShardId}
use Rattle.eris_base.specs.declared.ids.TxnId.{TxnId}
use Rattle.eris_base.specs.ConfigLimits.{ConfigValue}
use Rattle.eris_base.proofs.IdLaws.{epoch_equal}
use Rattle.eris_txn.specs.declared.answer.Answer.{Answer}
use Rattle.eris_txn.specs.declared.packet.Packet.{Packet}
use Rattle.eris_locks.specs.Law.{HasPacket}
use Rattle.eris_locks.specs.Shards.{names_shard, on_shard}
use Rattle.eris_law_lock.proofs.SaidFrom.{said_from}
use Rattle.eris_event.specs.declared.event.Event.{Event}
use Rattle.eris_sequencer.specs.declared.stamping.Stamping.{Stamping}
use Rattle.eris_sequencer.specs.Sequencers.{new_stamping}
use Rattle.eris_rules.specs.WorldOrders.{order, order_on, stamping_list, survives}
use Rattle.eris_serial.specs.Evidence.{IsIn, StandsBehind}
use Rattle.eris_serial.specs.Times.{IsOwn}
use Rattle.eris_serial.proofs.CountedStands.{own_from_shard}
use Rattle.eris_serial.proofs.StampedLater.{behind_old, own_packet, own_there}
use Rattle.eris_law_epoch.specs.Members.{In}
use Rattle.eris_law_epoch.proofs.Members.{Each-by_In, In-append, In-filtered, In-left, In-right, filtered-In}
use Rattle.eris_law_agreement.specs.Alone.{stamping_of, stamping_or}
use Rattle.eris_law_agreement.specs.EpochRuns.{servers_at}
use Rattle.eris_law_agreement.specs.Servers.{Servers}
use Rattle.eris_law_agreement.specs.WorldMoments.{world_at}
use Rattle.eris_law_agreement.proofs.Growth.{current_rises}
use Rattle.eris_law_order.proofs.LaterStamps.{stamped_by}
use Rattle.eris_law_order.proofs.OrderFronts.{survive_below, survive_cases}
use Rattle.eris_law_order.proofs.OrderMembers.{list-In, stamping_right}
use Rattle.eris_law_order.proofs.SpokenClosed.{closed_below_current}
use Rattle.eris_law_order.proofs.StampFronts.{Begins, stamping_front}
use Rattle.eris_law_evidence.specs.Fronts.{IsSaidFrom, IsUnstamped}

-- ---- a stamping list taken apart at an epoch
-- what the sequencer of this index has stamped, and all before it, and all behind it
abbrev list_at : List Stamping → ℕ → List Packet
list_at [] n = []
list_at (s ∷ stampings) zero = s.stamped
list_at (s ∷ stampings) (suc n) = list_at stampings n

abbrev below_at : List Stamping → ℕ → List Packet
below_at [] n = []
below_at (s ∷ stampings) zero = []
below_at (s ∷ stampings) (suc n) = s.stamped ++ below_at stampings n

abbrev above_at : List Stamping → ℕ → List Packet
above_at [] n = []
above_at (s ∷ stampings) zero = stamping_list stampings
above_at (s ∷ stampings) (suc n) = above_at stampings n

taken_apart : (stampings : List Stamping) (n : ℕ) → stamping_list stampings ≡ below_at stampings n ++ (list_at stampings n ++ above_at stampings n)
unfolding stamping_list
taken_apart [] n = refl
taken_apart (s ∷ stampings) zero = refl
taken_apart (s ∷ stampings) (suc n) =
    ap (λ list. s.stamped ++ list) (taken_apart stampings n) ∙ sym (append_assoc s.stamped (below_at stampings n) (list_at stampings n ++ above_at stampings n))

stamped_at : (none : Stamping) → none.stamped ≡ [] → (stampings : List Stamping) (n : ℕ) → (stamping_or none (slice_get stampings n)).stamped ≡ list_at stampings n
stamped_at none e [] n = e
stamped_at none e (s ∷ stampings) zero = refl
stamped_at none e (s ∷ stampings) (suc n) = stamped_at none e stampings n

in_below : (stampings : List Stamping) (n : ℕ) (packet : Packet) → In packet (below_at stampings n) → (d : ℕ) × (d < n) × In packet (list_at stampings d)
in_below [] n packet i = absurd i
in_below (s ∷ stampings) zero packet i = absurd i
in_below (s ∷ stampings) (suc n) packet i = elim (In-append packet s.stamped (below_at stampings n) i) [
  | inl here ↦ (0, omega arith, here)
  | inr later ↦ (let rest = in_below stampings n packet later in (suc rest.0, omega (arith, rest.1), rest.2))
]

below_in : (stampings : List Stamping) (n d : ℕ) (packet : Packet) → d < n → In packet (list_at stampings d) → In packet (below_at stampings n)
below_in [] n d packet lt i = i
below_in (s ∷ stampings) zero d packet lt i = absurd (omega arith)
below_in (s ∷ stampings) (suc n) zero packet lt i = In-left packet s.stamped (below_at stampings n) i
below_in (s ∷ stampings) (suc n) (suc d) packet lt i = In-right packet s.stamped (below_at stampings n) (below_in stampings n d packet (omega arith) i)

-- ---- members, in the two words for them
pub to_In : {X : Type 0} (x : X) (xs : List X) → IsIn x xs → In x xs
to_In x [] i = i
to_In x (y ∷ ys) (inl e) = inl (sym e)
to_In x (y ∷ ys) (inr i) = inr (to_In x ys i)

pub from_In : {X : Type 0} (x : X) (xs : List X) → In x xs → IsIn x xs
from_In x [] i = i
from_In x (y ∷ ys) (inl e) = inl (sym e)
from_In x (y ∷ ys) (inr i) = inr (from_In x ys i)

module _ (config : ConfigValue) (events : List Event) where
  abbrev at : ℕ → Servers
  at k = servers_at config events k

  -- ---- the order by membership
  pub order_In : (k : ℕ) (packet : Packet) → In packet (order (world_at config events k)) → In packet (stamping_list (world_at config events k).stampings) × (survives (world_at config events k) packet ≡ true)
  unfolding order
  order_In k packet i = In-filtered (survives (world_at config events k)) (stamping_list (world_at config events k).stampings) packet i

  -- A PACKET OF THE ORDER was stamped, in an epoch that is current at most
  pub order_stamped : (k : ℕ) (packet : Packet) → In packet (order (world_at config events k)) → In packet (stamping_of config (at k).stampings packet.stamp.epoch).stamped
  order_stamped k packet i = list-In config events k packet (order_In k packet i).0

  pub order_low : (k : ℕ) (packet : Packet) → In packet (order (world_at config events k)) → packet.stamp.epoch.0 ≤ (at k).coordinator.current.0
  order_low k packet i = elim (survive_cases config events k packet (order_In k packet i).1) [
    | inl closed ↦ (let lt = closed_below_current config events k packet closed in omega (arith, lt))
    | inr current ↦ (let e = ap (λ (x : Epoch). x.0) current.0 in omega (arith, e))
  ]

  on_order : (k : ℕ) (shard : ShardId) (packet : Packet) → In packet (order_on shard (world_at config events k)) → In packet (order (world_at config events k))
  unfolding order_on
  on_order k shard packet i = (In-filtered (names_shard shard) (order (world_at config events k)) packet i).0

  -- ---- the order at a moment k, by what was stamped by an earlier moment j
  module _ (j k : ℕ) (le : j ≤ k) where
    abbrev current : Epoch
    current = (at j).coordinator.current

    abbrev stampings : List Stamping
    stampings = (world_at config events k).stampings

    abbrev test : Packet → Bool
    test = survives (world_at config events k)

    abbrev then : List Packet
    then = (stamping_of config (at j).stampings current).stamped

    front : Begins then (stamping_of config (at k).stampings current).stamped
    front = stamping_front config events current j k le

    is_list : (epoch : Epoch) → (stamping_of config (at k).stampings epoch).stamped ≡ list_at stampings epoch.0
    unfolding stamping_of new_stamping
    is_list epoch = stamped_at (new_stamping config epoch) refl stampings epoch.0

    abbrev old : List Packet
    old = below_at stampings current.0 ++ then

    abbrev new : List Packet
    new = front.more ++ above_at stampings current.0

    list_is : stamping_list stampings ≡ old ++ new
    list_is =
        taken_apart stampings current.0
        ∙ ap (λ list. below_at stampings current.0 ++ (list ++ above_at stampings current.0)) (sym (is_list current) ∙ front.is)
        ∙ ap (λ list. below_at stampings current.0 ++ list) (append_assoc then front.more (above_at stampings current.0))
        ∙ sym (append_assoc (below_at stampings current.0) then new)

    order_is : order (world_at config events k) ≡ filter test old ++ filter test new
    unfolding order
    order_is = ap (filter test) list_is ∙ filter-append test old new

    of_list : (packet : Packet) (d : ℕ) → In packet (list_at stampings d) → packet.stamp.epoch ≡ record { 0 = d }
    of_list packet d i = ((stamping_right config events k (record { 0 = d })).each packet (subst (λ list. In packet list) (sym (is_list (record { 0 = d }))) i)).epoch_is

    -- what stands in the old part was stamped by then
    early : (packet : Packet) → In packet (filter test old) → In packet (stamping_of config (at j).stampings packet.stamp.epoch).stamped
    early packet i =
        let passed = In-filtered test old packet i in
        elim (In-append packet (below_at stampings current.0) then passed.0) [
          | inl below ↦ (
              let found = in_below stampings current.0 packet below in
              let e : packet.stamp.epoch.0 ≡ found.0 = ap (λ (x : Epoch). x.0) (of_list packet found.0 found.2) in
              let lt : packet.stamp.epoch.0 < current.0 = omega (arith, e, found.1) in
              let up = current_rises config events j k le in
              stamped_by config events j k le packet lt (survive_below config events k packet passed.1 (omega (arith, lt, up))))
          | inr now ↦ (
              let e : packet.stamp.epoch ≡ current = ((stamping_right config events j current).each packet now).epoch_is in
              subst (λ (x : Epoch). In packet (stamping_of config (at j).stampings x).stamped) (sym e) now)
        ]

    -- and a packet of the order that was stamped by then, in an epoch that was current at most, stands in it
    back : (packet : Packet) → In packet (order (world_at config events k)) → In packet (stamping_of config (at j).stampings packet.stamp.epoch).stamped → packet.stamp.epoch.0 ≤ current.0 → In packet (filter test old)
    back packet i stamped low =
        filtered-In test old packet (elim (cases_lt packet.stamp.epoch.0 current.0) [
          | inl lt ↦ In-left packet (below_at stampings current.0) then (below_in stampings current.0 packet.stamp.epoch.0 packet lt (subst (λ list. In packet list) (is_list packet.stamp.epoch) (order_stamped k packet i)))
          | inr ge ↦ In-right packet (below_at stampings current.0) then (subst (λ (x : Epoch). In packet (stamping_of config (at j).stampings x).stamped) (epoch_equal packet.stamp.epoch current (omega (arith, low, ge))) stamped)
        ]) (order_In k packet i).1

    -- where an own packet of the first id stands in the order at both moments, and none of the second was stamped by
    -- the first one, the second stands behind the first
    behind_by : (first second : TxnId) (packet : Packet) → In packet (order (world_at config events j)) → In packet (order (world_at config events k)) → IsOwn first packet
        → IsUnstamped config events j second → StandsBehind (order (world_at config events k)) first second
    behind_by first second packet i now own none =
        let there = back packet now (order_stamped j packet i) (order_low j packet i) in
        subst (λ list. StandsBehind list first second) (sym order_is)
        (behind_old first second (filter test old) (filter test new) (own_there first (filter test old) packet (from_In packet (filter test old) there) own)
        (Each-by_In (λ other. IsOwn second other → ⊥) (filter test old) (λ other h is. none other.stamp.epoch other (early other h) is)))

    -- LATER MEANS AFTER
    pub behind : (shard : ShardId) (first second : TxnId) (phase : Phase) (answer : Answer) → IsSaidFrom config events j shard first phase answer → (phase ≡ Phase.Conclude → ⊥)
        → IsUnstamped config events j second → StandsBehind (order (world_at config events k)) first second
    behind shard first second phase answer said not none =
        let has : HasPacket first phase (on_shard shard said.log) = said_from first phase answer (on_shard shard said.log) said.said in
        let own = own_packet first said.log (own_from_shard shard first phase said.log not has) in
        let in_log = to_In own.0 said.log own.1 in
        let then_front = said.begins j (omega arith) in
        let now_front = said.begins k le in
        behind_by first second own.0
        (on_order j shard own.0 (subst (λ list. In own.0 list) (sym then_front.joined) (In-left own.0 said.log then_front.rest in_log)))
        (on_order k shard own.0 (subst (λ list. In own.0 list) (sym now_front.joined) (In-left own.0 said.log now_front.rest in_log))) own.2 none
