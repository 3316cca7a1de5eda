-- A replica's settled log at any moment is how the order begins on its shard, then and at every later moment: what is
-- closed below its epoch never changes; up to its settled number its entries are dropped exactly where the coordinator
-- drops them, by then or ever; and what it kept there was spoken past by a quorum, so that it is closed with its epoch.
use Rattle.std.proofs.Common.{◌≡◌, inl, inr, ℕ, zero, suc, ◌+◌, ◌≤◌, ◌<◌, List, ◌++◌, Bool, true, false, cond, not, ◌==◌, Option, Some, None, refl, sym, ap, ◌∙◌, subst, arith}
use Rattle.std.specs.Prelude.{slice_get}
use Rattle.std.proofs.lemmas.Bool.{cases_lt, cases_eq, and_from, not-true}
use Rattle.std.proofs.lemmas.Bool.Decides.{nat_tests}
use Rattle.eris_base.specs.declared.ids.Epoch.{Epoch}
use Rattle.eris_base.specs.declared.ids.ReplicaId.{ReplicaId}
use Rattle.eris_base.specs.declared.ids.ShardId.{ShardId}
use Rattle.eris_base.specs.ConfigLimits.{ConfigValue}
use Rattle.eris_base.proofs.IdLaws.{epoch_equal}
use Rattle.eris_txn.specs.declared.packet.Packet.{Packet}
use Rattle.eris_log.specs.declared.entry.Entry.TheVariants.{Dropped, Txn, Gap}
use Rattle.eris_log.specs.Entries.{entry_of, is_dropped, is_txn, is_held_and}
use Rattle.eris_log.specs.Held.{packet_at}
use Rattle.eris_log.specs.Parts.{empty_part}
use Rattle.eris_log.specs.PartValues.{PartValue}
use Rattle.eris_log.specs.Places.{any_among}
use Rattle.eris_epoch.specs.Closing.{shard_log}
use Rattle.eris_epoch.specs.SamePackets.{same_packet}
use Rattle.eris_epoch.proofs.SameLaws.{same_packet-refl}
use Rattle.eris_event.specs.declared.event.Event.{Event}
use Rattle.eris_sequencer.specs.declared.stamping.Stamping.{Stamping}
use Rattle.eris_rules.specs.Good.{is_kept, kept_at, kept_upto, settled_log, BeginsWith, AreSettledRight}
use Rattle.eris_rules.specs.ReplicaAnswers.{open_packet}
use Rattle.eris_rules.specs.ReplicaStates.{ReplicaState, EpochReplica, first_state, begun, fresh}
use Rattle.eris_rules.specs.WorldOrders.{survives, order_on, is_held_at, has_packet, is_held_by, is_held_in}
use Rattle.eris_rules.specs.Worlds.{in_row, replica_at}
use Rattle.eris_law_epoch.specs.EpochWorlds.{EpochSystem, EpochWorld, EpochEvent}
use Rattle.eris_law_epoch.specs.Fine.{known_in, IsFineHeld}
use Rattle.eris_law_epoch.specs.Members.{In}
use Rattle.eris_law_epoch.specs.Stamped.{HasNumber}
use Rattle.eris_law_epoch.proofs.FineParts.{held_fine}
use Rattle.eris_law_epoch.proofs.FineWorlds.{all_fine}
use Rattle.eris_law_epoch.proofs.Members.{In-append, In-left, In-right, In-get, any_from}
use Rattle.eris_law_epoch.proofs.Moments.{later}
use Rattle.eris_law_epoch.proofs.StampList.{stamps}
use Rattle.eris_law_key.proofs.Settles.{settled_by, settled_same, settled_held, past_more}
use Rattle.eris_law_agreement.specs.Alone.{or_first, state_of, stamping_of}
use Rattle.eris_law_agreement.specs.ClosedBelow.{closed_below}
use Rattle.eris_law_agreement.specs.EpochRuns.{servers_at, system_of}
use Rattle.eris_law_agreement.specs.Servers.{Servers}
use Rattle.eris_law_agreement.specs.WorldMoments.{world_at}
use Rattle.eris_law_agreement.proofs.Cells.{state_of-some}
use Rattle.eris_law_agreement.proofs.EpochInvariants.{holds_at}
use Rattle.eris_law_agreement.proofs.Growth.{closed_kept, current_rises, epoch_rises}
use Rattle.eris_law_agreement.proofs.Reduction.{own_events}
use Rattle.eris_law_order.proofs.Closings.{alone, then, is_alone, own_shard}
use Rattle.eris_law_order.proofs.OrderFronts.{IsUpto, IsEntry, epoch_now, survive_clear, closed_survives, held_survives, front_cut}
use Rattle.eris_law_order.proofs.ShardLists.{Before, Ascends, Ascends-append, Cut, number_on-is}
use Rattle.eris_law_order.proofs.SpokenClosed.{spoken_closed}

-- ---- the kept packets of a part
kept_test : (d t : Bool) → is_kept (cond d Dropped (cond t Txn Gap)) ≡ not d
kept_test true t = refl
kept_test false true = refl
kept_test false false = refl

kept-is : (part : PartValue) (number : ℕ) → is_kept (entry_of part number) ≡ not (is_dropped part number)
unfolding entry_of
kept-is part number = kept_test (is_dropped part number) (is_txn part number)

open-In : (b : Bool) (o : Option Packet) (packet : Packet) → In packet (open_packet b o) → (b ≡ true) × (o ≡ Some packet)
open-In true (Some p) packet (inl e) = (refl, ap Some (sym e))
open-In true (Some p) packet (inr i) = absurd i
open-In true None packet i = absurd i
open-In false o packet i = absurd i

In-open : (b : Bool) (o : Option Packet) (packet : Packet) → b ≡ true → o ≡ Some packet → In packet (open_packet b o)
In-open b o packet e h = subst (λ c. In packet (open_packet c o)) (sym e) (subst (λ found. In packet (open_packet true found)) (sym h) (inl refl))

open-ascends : (shard : ShardId) (b : Bool) (o : Option Packet) → Ascends shard (open_packet b o)
open-ascends shard true (Some p) = (tt, tt)
open-ascends shard true None = tt
open-ascends shard false o = tt

-- the packet stands at a number up to this one, and its entry isn't dropped
pub record IsKeptUpto (part : PartValue) (n : ℕ) (packet : Packet) : Type 0 where
  pub number : ℕ
  pub low : 1 ≤ number
  pub high : number ≤ n
  pub held : packet_at part.held number ≡ Some packet
  pub kept : is_dropped part number ≡ false

at-In : (part : PartValue) (n : ℕ) (packet : Packet) → In packet (kept_at part (n + 1)) → IsKeptUpto part (suc n) packet
unfolding kept_at
at-In part n packet i =
    let o = open-In (is_kept (entry_of part (n + 1))) (packet_at part.held (n + 1)) packet i in
    record { number = n + 1; low = omega arith; high = omega arith; held = o.1; kept = not-true _ (sym (kept-is part (n + 1)) ∙ o.0) }

more_kept : (part : PartValue) (n : ℕ) (packet : Packet) → IsKeptUpto part n packet → IsKeptUpto part (suc n) packet
more_kept part n packet k = let h = k.high in record { number = k.number; low = k.low; high = omega (arith, h); held = k.held; kept = k.kept }

pub kept-In : (part : PartValue) (n : ℕ) (packet : Packet) → In packet (kept_upto part n) → IsKeptUpto part n packet
unfolding kept_upto
kept-In part zero packet i = absurd i
kept-In part (suc n) packet i = elim (In-append packet (kept_upto part n) (kept_at part (n + 1)) i) [
  | inl j ↦ more_kept part n packet (kept-In part n packet j)
  | inr j ↦ at-In part n packet j
]

In-at : (part : PartValue) (number : ℕ) (packet : Packet) → packet_at part.held number ≡ Some packet → is_dropped part number ≡ false → In packet (kept_at part number)
unfolding kept_at
In-at part number packet held kept = In-open _ _ packet (kept-is part number ∙ ap not kept) held

pub In-kept : (part : PartValue) (n number : ℕ) (packet : Packet) → 1 ≤ number → number ≤ n → packet_at part.held number ≡ Some packet → is_dropped part number ≡ false → In packet (kept_upto part n)
unfolding kept_upto
In-kept part zero number packet low high held kept = absurd (omega (arith, low, high))
In-kept part (suc n) number packet low high held kept = elim (cases_eq number (n + 1)) [
  | inl e ↦ In-right packet (kept_upto part n) (kept_at part (n + 1)) (subst (λ m. In packet (kept_at part m)) e (In-at part number packet held kept))
  | inr differ ↦ In-left packet (kept_upto part n) (kept_at part (n + 1)) (In-kept part n number packet low (omega arith) held kept)
]

at-held : (part : PartValue) (number : ℕ) (packet : Packet) → In packet (kept_at part number) → packet_at part.held number ≡ Some packet
unfolding kept_at
at-held part number packet i = (open-In (is_kept (entry_of part number)) (packet_at part.held number) packet i).1

at-ascends : (shard : ShardId) (part : PartValue) (number : ℕ) → Ascends shard (kept_at part number)
unfolding kept_at
at-ascends shard part number = open-ascends shard _ _

pub kept-ascends : (shard : ShardId) (epoch : Epoch) (part : PartValue) (n : ℕ) → ((number : ℕ) (packet : Packet) → packet_at part.held number ≡ Some packet → (packet.stamp.epoch ≡ epoch) × HasNumber packet shard number)
    → Ascends shard (kept_upto part n)
unfolding kept_upto
kept-ascends shard epoch part zero h = tt
kept-ascends shard epoch part (suc n) h =
    Ascends-append shard (kept_upto part n) (kept_at part (n + 1)) (kept-ascends shard epoch part n h) (at-ascends shard part (n + 1))
    (λ x y i j. ordered x y (kept-In part n x i) (at-held part (n + 1) y j))
  where
    ordered : (x y : Packet) → IsKeptUpto part n x → packet_at part.held (n + 1) ≡ Some y → Before shard x y
    ordered x y k held =
        let a = h k.number x k.held in
        let b = h (n + 1) y held in
        let u = number_on-is shard k.number x a.1 in
        let v = number_on-is shard (n + 1) y b.1 in
        let high = k.high in
        inr (ap (λ (e : Epoch). e.0) (a.0 ∙ sym b.0), omega (arith, u, v, high))

-- ---- who holds a packet makes it survive
row-in : (rows : List (List ReplicaState)) (shard : ShardId) (replica : ReplicaId) (state : ReplicaState) → replica_at rows shard replica ≡ Some state → (row : List ReplicaState) × In row rows × In state row
unfolding replica_at
row-in rows shard replica state h = by_row (slice_get rows shard.0) refl h
  where
    by_row : (o : Option (List ReplicaState)) → slice_get rows shard.0 ≡ o → in_row o replica.0 ≡ Some state → (row : List ReplicaState) × In row rows × In state row
    by_row None e h = absurd (cc)
    by_row (Some row) e h = (row, In-get row rows shard.0 e, In-get state row replica.0 h)

has-it : (part : PartValue) (number : ℕ) (packet : Packet) → HasNumber packet part.shard number → packet_at part.held number ≡ Some packet → has_packet part packet ≡ true
has-it part number packet has held =
    ap (is_held_at part packet) has ∙ ap (is_held_and (λ other. same_packet packet other)) held ∙ same_packet-refl packet

by-it : (epoch : Epoch) (state : ReplicaState) (number : ℕ) (packet : Packet) → state.epoch ≡ epoch → HasNumber packet state.inner.part.shard number → packet_at state.inner.part.held number ≡ Some packet → is_held_by epoch packet state ≡ true
unfolding is_held_by
by-it epoch state number packet same has held =
    let e : state.epoch.0 ≡ epoch.0 = ap (λ (x : Epoch). x.0) same in
    let test : state.epoch.0 == epoch.0 ≡ true = grind (arith, nat_tests) in
    and_from _ _ test (has-it state.inner.part number packet has held)

none_first : (shard : ShardId) (number : ℕ) → packet_at (first_state shard).inner.part.held number ≡ None
unfolding first_state begun fresh empty_part packet_at
none_first shard number = refl

pub held_in : (rows : List (List ReplicaState)) (shard : ShardId) (replica : ReplicaId) (epoch : Epoch) (number : ℕ) (packet : Packet) → (state_of rows shard replica).epoch ≡ epoch
    → HasNumber packet (state_of rows shard replica).inner.part.shard number → packet_at (state_of rows shard replica).inner.part.held number ≡ Some packet → is_held_in epoch rows packet ≡ true
unfolding state_of is_held_in
held_in rows shard replica epoch number packet = by_found (replica_at rows shard replica) refl
  where
    by_found : (o : Option ReplicaState) → replica_at rows shard replica ≡ o → (or_first shard o).epoch ≡ epoch → HasNumber packet (or_first shard o).inner.part.shard number → packet_at (or_first shard o).inner.part.held number ≡ Some packet
        → is_held_in epoch rows packet ≡ true
    by_found None e same has held = absurd (let none = none_first shard number in cc)
    by_found (Some state) e same has held =
        let r = row-in rows shard replica state e in
        any_from _ rows r.0 r.1 (any_from (is_held_by epoch packet) r.0 state r.2 (by-it epoch state number packet same has held))

-- ---- the settled log
module _ (config : ConfigValue) (events : List Event) (j k : ℕ) (le : j ≤ k) (shard : ShardId) (replica : ReplicaId) where
  abbrev at : ℕ → Servers
  at m = servers_at config events m

  abbrev state : ReplicaState
  state = state_of (at j).replicas shard replica

  abbrev epoch : Epoch
  epoch = state.epoch

  -- the replica's epoch by itself, up to the later moment
  abbrev system : EpochSystem
  system = system_of config events k epoch

  abbrev own : List EpochEvent
  own = own_events config events k epoch

  abbrev world : ℕ → EpochWorld
  world m = alone config events k epoch m

  abbrev inner : ℕ → EpochReplica
  inner m = then config events k epoch m shard replica

  low_then : epoch.0 ≤ (at j).coordinator.current.0
  low_then = ((holds_at config events j).replicas shard replica).epoch

  low : epoch.0 ≤ (at k).coordinator.current.0
  low = let a = low_then in let b = current_rises config events j k le in omega (arith, a, b)

  fine : (m number : ℕ) (packet : Packet) → packet_at (inner m).part.held number ≡ Some packet → IsFineHeld epoch (known_in (world m)) shard (number, packet)
  fine m number packet held =
      let replicas = (all_fine system own m).replicas shard replica in
      subst (λ s. IsFineHeld epoch (known_in (world m)) s (number, packet)) replicas.own (held_fine epoch (known_in (world m)) (inner m).part number packet replicas.part held)

  abbrev entries : List Packet
  entries = kept_upto (inner j).part (inner j).settled

  entries-ascend : Ascends shard entries
  entries-ascend = kept-ascends shard epoch (inner j).part (inner j).settled (λ number packet held. let f = fine j number packet held in (f.packet.of_epoch.epoch_is, f.number))

  stamped_now : (packet : Packet) → In packet (world k).stamping.stamped → In packet (stamping_of config (at k).stampings epoch).stamped
  stamped_now packet i = subst (λ (s : Stamping). In packet s.stamped) (is_alone config events k epoch k (omega arith)).stamping i

  now_stamped : (packet : Packet) → In packet (stamping_of config (at k).stampings epoch).stamped → In packet (world k).stamping.stamped
  now_stamped packet i = subst (λ (s : Stamping). In packet s.stamped) (sym (is_alone config events k epoch k (omega arith)).stamping) i

  -- a kept packet of an epoch that was left behind is closed
  in_closed : (packet : Packet) (m : ℕ) → 1 ≤ m → m ≤ (inner j).settled → In packet (world k).stamping.stamped → HasNumber packet shard m → any_among (world k).coordinator.dropped packet.stamp ≡ false
      → epoch.0 < (at k).coordinator.current.0 → In packet (at k).coordinator.closed
  in_closed packet m one high stamped number clear up =
      let by = settled_by system own j shard replica (omega (arith, one, high)) in
      spoken_closed config events k epoch k (omega arith) shard by.view (inner j).settled m packet
      (past_more system own j k shard by.view (inner j).settled (inner j).settled le (omega arith) by.past) one high
      ((stamps system own k).known packet shard m stamped number) stamped number clear up

  -- a kept packet of the current epoch is held there
  still_held : (packet : Packet) (m : ℕ) → packet_at (inner j).part.held m ≡ Some packet → HasNumber packet shard m → epoch ≡ (at k).coordinator.current → is_held_in (at k).coordinator.current (at k).replicas packet ≡ true
  still_held packet m held number current =
      let up = epoch_rises config events shard replica j k le in
      let top = ((holds_at config events k).replicas shard replica).epoch in
      let now : epoch.0 ≡ (at k).coordinator.current.0 = ap (λ (e : Epoch). e.0) current in
      let same : (state_of (at k).replicas shard replica).epoch ≡ epoch = epoch_equal _ _ (omega (arith, up, top, now)) in
      let is = (is_alone config events k epoch k (omega arith)).there shard replica same in
      let kept = ((later system own j k le).replicas shard replica).part.held.at m packet held in
      held_in (at k).replicas shard replica (at k).coordinator.current m packet (same ∙ current)
      (subst (λ s. HasNumber packet s m) (sym (own_shard config events k k (omega arith) shard replica)) number)
      (sym (ap (λ (x : EpochReplica). packet_at x.part.held m) is) ∙ kept)

  kept_survives : (packet : Packet) (m : ℕ) → 1 ≤ m → m ≤ (inner j).settled → packet_at (inner j).part.held m ≡ Some packet → In packet (world k).stamping.stamped → HasNumber packet shard m → packet.stamp.epoch ≡ epoch
      → any_among (world k).coordinator.dropped packet.stamp ≡ false → survives (world_at config events k) packet ≡ true
  kept_survives packet m one high held stamped number of_epoch clear = elim (cases_lt epoch.0 (at k).coordinator.current.0) [
    | inl up ↦ closed_survives config events k packet (in_closed packet m one high stamped number clear up)
    | inr ge ↦ (
        let bound = low in
        let current : epoch ≡ (at k).coordinator.current = epoch_equal _ _ (omega (arith, ge, bound)) in
        held_survives config events k packet (of_epoch ∙ current)
        (subst (λ e. any_among (epoch_now config events k e).coordinator.dropped packet.stamp ≡ false) (sym of_epoch) clear)
        (still_held packet m held number current))
  ]

  each_entry : (packet : Packet) → In packet entries → IsEntry config events k shard epoch (inner j).settled packet
  each_entry packet i =
      let kept = kept-In (inner j).part (inner j).settled packet i in
      let f = fine j kept.number packet kept.held in
      let stamped = (later system own j k le).stamped packet f.packet.stamped in
      let clear : any_among (world k).coordinator.dropped packet.stamp ≡ false = sym (settled_same system own k j shard replica kept.number packet le stamped f.number kept.high) ∙ kept.kept in
      record {
        of_epoch = f.packet.of_epoch.epoch_is;
        stamped = stamped_now packet stamped;
        survives_is = kept_survives packet kept.number kept.low kept.high kept.held stamped f.number f.packet.of_epoch.epoch_is clear;
        number = kept.number;
        has = f.number;
        upto = kept.high;
      }

  back_entry : (packet : Packet) → IsEntry config events k shard epoch (inner j).settled packet → In packet entries
  back_entry packet e =
      let stamped = now_stamped packet e.stamped in
      let clear = subst (λ one. any_among (epoch_now config events k one).coordinator.dropped packet.stamp ≡ false) e.of_epoch (survive_clear config events k packet e.survives_is) in
      let kept : is_dropped (inner j).part e.number ≡ false = settled_same system own k j shard replica e.number packet le stamped e.has e.upto ∙ clear in
      In-kept (inner j).part (inner j).settled e.number packet ((stamps system own k).low packet shard e.number stamped e.has) e.upto
      (settled_held system own k j shard replica e.number packet le stamped e.has e.upto kept) kept

  prior_now : state.prior ≡ shard_log (closed_below epoch (at k).coordinator.closed) shard
  prior_now = ((holds_at config events j).replicas shard replica).prior ∙ ap (λ closed. shard_log closed shard) (sym (closed_kept config events epoch j k le low_then))

  log_now : settled_log state ≡ shard_log (closed_below epoch (at k).coordinator.closed) shard ++ entries
  unfolding settled_log
  log_now = ap (λ list. list ++ kept_upto state.inner.part state.inner.settled) prior_now
      ∙ ap (λ (x : EpochReplica). shard_log (closed_below epoch (at k).coordinator.closed) shard ++ kept_upto x.part x.settled) (sym ((is_alone config events k epoch j le).there shard replica refl))

  -- THE PREFIX CLAUSE: the settled log at a moment is how the order begins on the shard at any later one, and nothing
  -- behind it is of an earlier epoch, or of this one with a number up to the settled one
  pub settled_cut : Cut (IsUpto shard epoch (inner j).settled) (settled_log state) (order_on shard (world_at config events k))
  settled_cut = subst (λ list. Cut (IsUpto shard epoch (inner j).settled) list (order_on shard (world_at config events k))) (sym log_now)
      (front_cut config events k shard epoch (inner j).settled entries low each_entry back_entry entries-ascend)

  pub settled_begins : BeginsWith (order_on shard (world_at config events k)) (settled_log state)
  settled_begins = record { rest = settled_cut.rest; joined = settled_cut.joined }

-- EVERY WORLD'S SETTLED LOGS ARE RIGHT
pub settled_right : (config : ConfigValue) (events : List Event) (k : ℕ) → AreSettledRight (world_at config events k)
settled_right config events k = record {
  at = λ shard replica state h. subst (λ one. BeginsWith (order_on shard (world_at config events k)) (settled_log one)) (state_of-some (world_at config events k).replicas shard replica state h)
      (settled_begins config events k k (omega arith) shard replica);
}
