-- What a tally of an epoch says of quorums, and what survives the epoch.
use Rattle.std.proofs.Common.{◌≡◌, ◌<◌, ℕ, Bool, true, false, not, ◌&&◌, ◌||◌, cond, List, [], ◌∷◌, ◌++◌, refl, ap, sym, ◌∙◌, subst}
use Rattle.std.proofs.lemmas.Bool.{ltb-true}
use Rattle.std.specs.List.{AllByRecursion, IsDistinct, fold}
use Rattle.std.specs.Ordering.{is_lt}
use Rattle.std.specs.Prelude.{filter}
use Rattle.eris_base.specs.declared.ids.Epoch.{Epoch}
use Rattle.eris_base.specs.declared.ids.Place.{Place}
use Rattle.eris_base.specs.declared.ids.ReplicaId.{ReplicaId}
use Rattle.eris_base.specs.declared.ids.ShardId.{ShardId}
use Rattle.eris_base.specs.ConfigLimits.{ConfigValue}
use Rattle.eris_base.specs.Each.{Each}
use Rattle.eris_base.specs.Quorums.{different_replicas}
use Rattle.eris_base.proofs.Booleans.{or_none}
use Rattle.eris_txn.specs.declared.packet.Packet.{Packet}
use Rattle.eris_log.specs.PartValues.{PartValue}
use Rattle.eris_log.specs.Places.{any_among}
use Rattle.eris_log.specs.Sorted.{placed}
use Rattle.eris_log.specs.Laws.Sorted.{ascends-with_item, all-with_item}
use Rattle.eris_epoch.specs.declared.noted.NotedPart.{NotedPart}
use Rattle.eris_epoch.specs.Closing.{held_in, undropped, with_new, each_once, by_places, close, names, turn_on, shard_log}
use Rattle.eris_epoch.specs.ClosingFacts.{IsClosing, IsShardLog}
use Rattle.eris_epoch.specs.ClosingSteps.{with_packet, with_packets}
use Rattle.eris_epoch.specs.EpochTallies.{EpochTallyValue, no_notes, with_noted, note_state, sender_of, sender_cmp, replicas_of, is_heard, is_ready}
use Rattle.eris_epoch.specs.SamePackets.{same_packet, is_listed}
use Rattle.eris_epoch.specs.Sorting.{places_cmp, turn_cmp}
use Rattle.eris_epoch.specs.TallyFacts.{IsEpochTally}
use Rattle.eris_epoch.proofs.Additions.{places_of, places_cmp-total, turn_cmp-total, is_listed-by_places, survivors-by_places}
use Rattle.eris_epoch.proofs.Heard.{sender_cmp-total, heard_at}
use Rattle.eris_epoch.proofs.SameLaws.{same_packet-true, same_packet-refl}
use Rattle.eris_epoch.proofs.SortLaws.{InOrder-sorted, list_any-sorted}
use Rattle.eris_epoch.proofs.Stable.{IsStable-sorted}

-- ---- the tally
pub no_notes_is_tally : (target : Epoch) (config : ConfigValue) → IsEpochTally (no_notes target config)
unfolding no_notes
no_notes_is_tally target config = record { ascend = refl }

pub note_state_is_tally : (tally : EpochTallyValue) (replica : ReplicaId) (part : PartValue) → IsEpochTally tally → IsEpochTally (note_state tally replica part)
unfolding note_state with_noted
note_state_is_tally tally replica part facts = record { ascend = ascends-with_item sender_of sender_cmp-total tally.noted _ facts.ascend }

each_to : (P : NotedPart → Type 0) (noted : List NotedPart) → Each P noted → AllByRecursion P noted
each_to P [] all = tt
each_to P (one ∷ noted) all = (all.0, each_to P noted all.1)

each_from : (P : NotedPart → Type 0) (noted : List NotedPart) → AllByRecursion P noted → Each P noted
each_from P [] all = tt
each_from P (one ∷ noted) all = (all.0, each_from P noted all.1)

-- what holds of each noted part and of one more holds after it is noted
pub each-with_noted : (P : NotedPart → Type 0) (noted : List NotedPart) (one : NotedPart) → Each P noted → P one → Each P (with_noted noted one)
unfolding with_noted
each-with_noted P noted one all more = each_from P _ (all-with_item sender_of sender_cmp P noted one (each_to P noted all) more)

-- a ready tally has at least f+1 different replicas of each shard
pub ready_has_quorum : (tally : EpochTallyValue) (shard : ℕ) → is_ready tally ≡ true → shard < tally.config.shards
    → tally.config.f < different_replicas (replicas_of tally.noted shard)
unfolding is_ready is_heard
ready_has_quorum tally shard ready lt = ltb-true _ _ (heard_at tally.noted tally.config.f shard tally.config.shards ready lt)

-- ---- what is listed
module _ (packet : Packet) where
  is_listed-append : (some others : List Packet) → is_listed (some ++ others) packet ≡ (is_listed some packet || is_listed others packet)
  unfolding is_listed
  is_listed-append [] others = refl
  is_listed-append (other ∷ some) others = ap (λ b. same_packet packet other || b) (is_listed-append some others) ∙ or_assoc (same_packet packet other) _ _
    where
      or_assoc : (a b c : Bool) → (a || (b || c)) ≡ ((a || b) || c)
      or_assoc true b c = refl
      or_assoc false b c = refl

  is_listed-one : (other : Packet) → is_listed (other ∷ []) packet ≡ same_packet packet other
  unfolding is_listed
  is_listed-one other = or_none (same_packet packet other)

  -- one more, which was listed before or not
  is_listed-with_new : (packets : List Packet) (other : Packet) → is_listed (with_new packets other) packet ≡ (is_listed packets packet || same_packet packet other)
  unfolding with_new
  is_listed-with_new packets other = by_test (is_listed packets other) refl
    where
      both : (a b : Bool) → (b ≡ true → a ≡ true) → a ≡ (a || b)
      both true b h = refl
      both false true h = h refl
      both false false h = refl

      by_test : (t : Bool) → is_listed packets other ≡ t → is_listed (cond t packets (packets ++ other ∷ [])) packet ≡ (is_listed packets packet || same_packet packet other)
      by_test true there = both _ _ (λ same. ap (λ one. is_listed packets one) (same_packet-true packet other same) ∙ there)
      by_test false new = is_listed-append packets (other ∷ []) ∙ ap (λ b. is_listed packets packet || b) (is_listed-one other)

  is_listed-collected : (made packets : List Packet) → is_listed (fold (λ made other. with_new made other) made packets) packet ≡ (is_listed made packet || is_listed packets packet)
  unfolding is_listed
  is_listed-collected made [] = sym (or_none (is_listed made packet))
  is_listed-collected made (other ∷ packets) =
      is_listed-collected (with_new made other) packets ∙ ap (λ b. b || is_listed packets packet) (is_listed-with_new made other) ∙ or_right_first (is_listed made packet) _ _
    where
      or_right_first : (a b c : Bool) → ((a || b) || c) ≡ (a || (b || c))
      or_right_first true b c = refl
      or_right_first false b c = refl

  -- each once, and yet all of them
  is_listed-each_once : (packets : List Packet) → is_listed (each_once packets) packet ≡ is_listed packets packet
  unfolding each_once is_listed
  is_listed-each_once packets = is_listed-collected [] packets

  -- those that pass a test
  is_listed-filter : (test : Packet → Bool) (packets : List Packet) → is_listed (filter test packets) packet ≡ (is_listed packets packet && test packet)
  unfolding is_listed
  is_listed-filter test [] = refl
  is_listed-filter test (other ∷ packets) = by_tests (test other) refl (same_packet packet other) refl (is_listed-filter test packets)
    where
      rest : List Packet
      rest = filter test packets

      and_true : (b c : Bool) → c ≡ true → (b || c) ≡ true
      and_true true c h = refl
      and_true false c h = h

      lost : (b c : Bool) → c ≡ false → (b && c) ≡ false
      lost true c h = h
      lost false c h = refl

      by_tests : (t : Bool) → test other ≡ t → (s : Bool) → same_packet packet other ≡ s → is_listed rest packet ≡ (is_listed packets packet && test packet)
          → is_listed (cond t (other ∷ rest) rest) packet ≡ ((same_packet packet other || is_listed packets packet) && test packet)
      by_tests true is true same more =
          let passes = ap test (same_packet-true packet other same) ∙ is in
          ap (λ b. b || is_listed rest packet) same ∙ sym (ap (λ b. (b || is_listed packets packet) && test packet) same ∙ passes)
      by_tests true is false same more =
          ap (λ b. b || is_listed rest packet) same ∙ more ∙ sym (ap (λ b. (b || is_listed packets packet) && test packet) same)
      by_tests false is true same more =
          let fails = ap test (same_packet-true packet other same) ∙ is in
          more ∙ lost (is_listed packets packet) (test packet) fails ∙ sym (ap (λ b. (b || is_listed packets packet) && test packet) same ∙ fails)
      by_tests false is false same more = more ∙ sym (ap (λ b. (b || is_listed packets packet) && test packet) same)

-- ---- each once
same_packet-turned : (some other : Packet) → same_packet some other ≡ false → same_packet other some ≡ false
same_packet-turned some other apart = by_test (same_packet other some) refl
  where
    by_test : (t : Bool) → same_packet other some ≡ t → same_packet other some ≡ false
    by_test true same = let clash = sym apart ∙ ap (λ one. same_packet one other) (sym (same_packet-true other some same)) ∙ same_packet-refl other in cc
    by_test false h = h

apart_from_unlisted : (packet : Packet) (packets : List Packet) → is_listed packets packet ≡ false → AllByRecursion (λ other. same_packet packet other ≡ false) packets
unfolding is_listed
apart_from_unlisted packet [] h = tt
apart_from_unlisted packet (other ∷ packets) h = by_test (same_packet packet other) refl h (λ more. apart_from_unlisted packet packets more)
  where
    by_test : (t : Bool) → same_packet packet other ≡ t → (t || is_listed packets packet) ≡ false → (is_listed packets packet ≡ false → AllByRecursion (λ other. same_packet packet other ≡ false) packets)
        → (same_packet packet other ≡ false) × AllByRecursion (λ other. same_packet packet other ≡ false) packets
    by_test true same h more = cc
    by_test false same h more = (same, more h)

all-placed : (P : Packet → Type 0) (items : List Packet) (item : Packet) → AllByRecursion P items → P item → AllByRecursion P (placed places_of places_cmp items item)
unfolding placed
all-placed P [] item all one = (one, tt)
all-placed P (other ∷ items) item all one = by_test (is_lt (places_cmp (places_of item) (places_of other))) (all-placed P items item all.1 one)
  where
    by_test : (t : Bool) → AllByRecursion P (placed places_of places_cmp items item) → AllByRecursion P (cond t (item ∷ other ∷ items) (other ∷ placed places_of places_cmp items item))
    by_test true more = (one, all)
    by_test false more = (all.0, more)

distinct-placed : (items : List Packet) (item : Packet) → IsDistinct same_packet items → AllByRecursion (λ other. same_packet item other ≡ false) items → IsDistinct same_packet (placed places_of places_cmp items item)
unfolding placed IsDistinct
distinct-placed [] item h apart = (tt, tt)
distinct-placed (other ∷ items) item h apart = by_test (is_lt (places_cmp (places_of item) (places_of other))) (distinct-placed items item h.1 apart.1)
  where
    by_test : (t : Bool) → IsDistinct same_packet (placed places_of places_cmp items item) → IsDistinct same_packet (cond t (item ∷ other ∷ items) (other ∷ placed places_of places_cmp items item))
    by_test true more = (apart, h)
    by_test false more = (all-placed (λ one. same_packet other one ≡ false) items item h.0 (same_packet-turned item other apart.0), more)

distinct-with_packets : (closed packets : List Packet) → IsDistinct same_packet closed → IsDistinct same_packet (with_packets closed packets)
unfolding with_packets with_packet
distinct-with_packets closed [] h = h
distinct-with_packets closed (packet ∷ packets) h = distinct-with_packets (with_packet closed packet) packets (by_test (is_listed closed packet) refl)
  where
    by_test : (t : Bool) → is_listed closed packet ≡ t → IsDistinct same_packet (cond t closed (placed places_of places_cmp closed packet))
    by_test true there = h
    by_test false new = distinct-placed closed packet h (apart_from_unlisted packet closed new)

-- ---- what survives an epoch, and a shard's log
pub IsClosing-close : (tally : EpochTallyValue) (last : Epoch) (found : List Packet) (dropped : List Place) → IsClosing tally last found dropped (close tally last found dropped)
unfolding close undropped by_places IsDistinct
IsClosing-close tally last found dropped = record {
  members = λ packet.
      is_listed-by_places (each_once kept) packet ∙ is_listed-each_once packet kept
      ∙ is_listed-filter packet (λ packet. not (any_among dropped packet.stamp)) (held_in last tally.noted ++ found);
  once = subst (λ (packets : List Packet). IsDistinct same_packet packets) (sym (survivors-by_places kept)) (distinct-with_packets [] kept tt);
  order = InOrder-sorted places_of places_cmp-total (each_once kept);
  stable = IsStable-sorted places_of places_cmp-total (each_once kept);
}
  where
    kept : List Packet
    kept = undropped dropped (held_in last tally.noted ++ found)

pub IsShardLog-shard_log : (closed : List Packet) (shard : ShardId) → IsShardLog closed shard (shard_log closed shard)
unfolding shard_log is_listed
IsShardLog-shard_log closed shard = record {
  members = λ packet. list_any-sorted (turn_on shard) turn_cmp (λ other. same_packet packet other) (filter (names shard) closed) ∙ is_listed-filter packet (names shard) closed;
  order = InOrder-sorted (turn_on shard) turn_cmp-total (filter (names shard) closed);
  stable = IsStable-sorted (turn_on shard) turn_cmp-total (filter (names shard) closed);
}

pub ruleset closing_rules = (IsClosing-close, IsShardLog-shard_log)
