-- A part that is in its ranges stays in them as the rows change it, and what stands in it can be sent; used for the
-- state of a replica.
use Rattle.std.proofs.Common.{◌≡◌, ◌<◌, ◌≤◌, ◌^◌, ◌&&◌, ◌||◌, ◌==◌, ℕ, zero, suc, Bool, true, false, cond, Option, Some, None, List, [], ◌∷◌, ◌++◌, length, find, map, nat_lt, is_some, refl, ap, sym, ◌∙◌, subst, arith}
use Rattle.std.specs.List.{AllByRecursion}
use Rattle.std.specs.Option.{option_map}
use Rattle.std.proofs.lemmas.Bool.{lt-ltb, ltb-true, cond_both, and_from}
use Rattle.eris_base.specs.declared.ids.Epoch.{Epoch}
use Rattle.eris_base.specs.declared.ids.Place.{Place}
use Rattle.eris_base.specs.declared.ids.ReplicaId.{ReplicaId}
use Rattle.eris_base.specs.declared.ids.ShardId.{ShardId}
use Rattle.eris_base.specs.declared.stamp.Stamp.{Stamp}
use Rattle.eris_base.specs.Each.{Each}
use Rattle.eris_base.specs.Places.{number_in, is_later, ascends_from as shards_ascend, are_stamp_places}
use Rattle.eris_base.specs.Quorums.{same_replica}
use Rattle.eris_base.proofs.Booleans.{left_of, right_of}
use Rattle.eris_txn.specs.declared.packet.Packet.{Packet}
use Rattle.eris_log.specs.Entries.{length_of, own_place, is_covered, covers}
use Rattle.eris_log.specs.Held.{packet_at}
use Rattle.eris_log.specs.PartFacts.{IsPart}
use Rattle.eris_log.specs.PartValues.{PartValue}
use Rattle.eris_log.specs.Parts.{hold, mark_temp, mark_found, mark_dropped, merge}
use Rattle.eris_log.specs.Places.{contains_place, with_place, with_places, places_of, pairs_of}
use Rattle.eris_log.specs.Sorted.{union}
use Rattle.eris_log.specs.Laws.Entries.{covers-length_of, covers-at}
use Rattle.eris_log.specs.Laws.Held.{all-packet_at}
use Rattle.eris_log.specs.Laws.Parts.{IsPart-hold, IsPart-mark_temp, IsPart-mark_found, IsPart-mark_dropped, IsPart-merge, hold-others, all-hold, all-merge}
use Rattle.eris_log.specs.Laws.Places.{all-with_place, all-with_places, all-contains_place}
use Rattle.eris_locks.specs.Shards.{names_shard}
use Rattle.eris_in_place.specs.MessageRanges.{PlaceFits, PartFits, PairsFit}
use Rattle.eris_in_place.proofs.MessageRangeLaws.{marks_fit}
use Rattle.eris_codec.specs.Codecs.{items_fit}
use Rattle.eris_codec.specs.Fields as f
use Rattle.eris_codec.specs.Ranges.{PairInRange, PlaceInRange, HeldInRange}
use Rattle.eris_codec.proofs.FieldLaws.{at_least}
use Rattle.eris_codec.proofs.RangeLaws.{next_shard}
use Rattle.eris_codec.proofs.Sizes.{items_have}
use Rattle.eris_rules.specs.Settling.{mark_all_dropped}
use Rattle.eris_view.specs.ViewTallies.{with_part, union_of}
use Rattle.eris_law_range.specs.Answering.{PacketIsRight}
use Rattle.eris_law_range.specs.Fitting.{PacketIsOf, PartIsRight, PlaceIsRight, HeldIsRight}

-- ---- numbers
pub number_from : (number : ℕ) → 1 ≤ number → number < 2 ^ 32 → f.number.fits number ≡ true
unfolding f.number f.word
number_from number some few = and_from (nat_lt number (2 ^ 32)) (nat_lt 0 number) (lt-ltb number (2 ^ 32) few) (lt-ltb 0 number (omega arith))

pub number_below : (number : ℕ) → f.number.fits number ≡ true → number < 2 ^ 32
unfolding f.number f.word
number_below number h = ltb-true number (2 ^ 32) (left_of (nat_lt number (2 ^ 32)) (nat_lt 0 number) h)

-- ---- places and stamps
pub place_in_range : (place : Place) → PlaceFits place → PlaceInRange place
unfolding f.place
place_in_range place h =
    let behind = right_of (f.epoch.fits place.epoch) (f.shard.fits place.shard && f.number.fits place.number) h in
    (left_of (f.shard.fits place.shard) (f.number.fits place.number) behind, right_of (f.shard.fits place.shard) (f.number.fits place.number) behind)

pub place_from : (place : Place) → f.epoch.fits place.epoch ≡ true → f.shard.fits place.shard ≡ true → f.number.fits place.number ≡ true → PlaceFits place
unfolding f.place
place_from place e s n = and_from (f.epoch.fits place.epoch) (f.shard.fits place.shard && f.number.fits place.number) e (and_from (f.shard.fits place.shard) (f.number.fits place.number) s n)

stamp_item : (before : List (ShardId × ℕ)) (pair : ShardId × ℕ) → (f.stamp_place before).fits pair ≡ true → PairInRange pair × (is_later (f.shard_before before) pair.0 ≡ true)
unfolding f.stamp_place
stamp_item before pair h =
    let front = left_of (f.shard.fits pair.0 && is_later (f.shard_before before) pair.0) (f.number.fits pair.1) h in (
      (left_of (f.shard.fits pair.0) (is_later (f.shard_before before) pair.0) front, right_of (f.shard.fits pair.0 && is_later (f.shard_before before) pair.0) (f.number.fits pair.1) h),
      right_of (f.shard.fits pair.0) (is_later (f.shard_before before) pair.0) front,
    )

stamp_ascends : (before list : List (ShardId × ℕ)) → items_fit f.stamp_place before list ≡ true → shards_ascend (f.shard_before before) list ≡ true
stamp_ascends before [] h = refl
stamp_ascends before (pair ∷ list) h =
    let here = stamp_item before pair (left_of ((f.stamp_place before).fits pair) (items_fit f.stamp_place (before ++ pair ∷ []) list) h) in
    let more = stamp_ascends (before ++ pair ∷ []) list (right_of ((f.stamp_place before).fits pair) (items_fit f.stamp_place (before ++ pair ∷ []) list) h) in
    and_from _ _ here.1 (subst (λ (z : Option ShardId). shards_ascend z list ≡ true) (next_shard before pair) more)

-- what a stamp that fits has
pub record StampIsRight (stamp : Stamp) : Type 0 where
  pub epoch : f.epoch.fits stamp.epoch ≡ true
  pub places : are_stamp_places stamp.places ≡ true
  pub pairs : AllByRecursion PairInRange stamp.places

pub stamp_right : (stamp : Stamp) → f.stamp.fits stamp ≡ true → StampIsRight stamp
unfolding f.stamp f.shard_before
stamp_right stamp h =
    let behind = right_of (f.epoch.fits stamp.epoch) ((f.from_to 1 64).fits (length stamp.places) && items_fit f.stamp_place [] stamp.places) h in
    let items = right_of ((f.from_to 1 64).fits (length stamp.places)) (items_fit f.stamp_place [] stamp.places) behind in
    let some = at_least 1 64 (length stamp.places) (left_of ((f.from_to 1 64).fits (length stamp.places)) (items_fit f.stamp_place [] stamp.places) behind) in
    record {
      epoch = left_of (f.epoch.fits stamp.epoch) ((f.from_to 1 64).fits (length stamp.places) && items_fit f.stamp_place [] stamp.places) h;
      places = and_from _ _ (lt-ltb 0 (length stamp.places) (omega arith)) (stamp_ascends [] stamp.places items);
      pairs = items_have f.stamp_place PairInRange (λ before pair k. (stamp_item before pair k).0) [] stamp.places items;
    }

stamp_places : (epoch : Epoch) (pairs : List (ShardId × ℕ)) → AllByRecursion PairInRange pairs
    → AllByRecursion PlaceInRange (map (λ (pair : ShardId × ℕ). record { epoch = epoch; shard = pair.0; number = pair.1 }) pairs)
stamp_places epoch [] h = tt
stamp_places epoch (pair ∷ pairs) h = (h.0, stamp_places epoch pairs h.1)

-- the places of a stamp
pub places_in_range : (stamp : Stamp) → AllByRecursion PairInRange stamp.places → AllByRecursion PlaceInRange (places_of stamp)
unfolding places_of
places_in_range stamp h = stamp_places stamp.epoch stamp.places h

number_of_pair : (pairs : List (ShardId × ℕ)) (shard : ShardId) (number : ℕ) → AllByRecursion PairInRange pairs → number_in pairs shard ≡ Some number → f.number.fits number ≡ true
number_of_pair [] shard number h e = absurd cc
number_of_pair (pair ∷ pairs) shard number h e = by_test (pair.0.0 == shard.0) e (number_of_pair pairs shard number h.1)
  where
    by_test : (t : Bool) → option_map (λ (place : ShardId × ℕ). place.1) (cond t (Some pair) (find (λ place. place.0.0 == shard.0) pairs)) ≡ Some number
        → (number_in pairs shard ≡ Some number → f.number.fits number ≡ true) → f.number.fits number ≡ true
    by_test true k more = let same : pair.1 ≡ number = cc in subst (λ n. f.number.fits n ≡ true) same h.0.1
    by_test false k more = more k

-- what a packet that fits has
pub packet_stamp : (packet : Packet) → f.packet.fits packet ≡ true → f.stamp.fits packet.stamp ≡ true
unfolding f.packet
packet_stamp packet h = left_of (f.stamp.fits packet.stamp) (f.id.fits packet.id && (f.client.fits packet.asker && f.body.fits packet.body)) h

pub packet_id : (packet : Packet) → f.packet.fits packet ≡ true → f.id.fits packet.id ≡ true
unfolding f.packet
packet_id packet h =
    left_of (f.id.fits packet.id) (f.client.fits packet.asker && f.body.fits packet.body)
    (right_of (f.stamp.fits packet.stamp) (f.id.fits packet.id && (f.client.fits packet.asker && f.body.fits packet.body)) h)

-- ---- the parts
module _ (epoch : Epoch) (shard : ShardId) where
  abbrev Right : PartValue → Type 0
  Right part = PartIsRight epoch shard part

  -- other marks
  marked : (part : PartValue) (temp fnd perm : List Place) → Right part → IsPart (record part { temp = temp; fnd = fnd; perm = perm })
      → AllByRecursion PlaceInRange temp → AllByRecursion PlaceInRange fnd → AllByRecursion PlaceInRange perm → Right (record part { temp = temp; fnd = fnd; perm = perm })
  marked part temp fnd perm h is t f p = record {
    own = record { in_epoch = h.own.in_epoch; on_shard = h.own.on_shard };
    fits = record {
      is = is;
      ranges = record {
        of_shard = h.fits.ranges.of_shard;
        of_epoch = h.fits.ranges.of_epoch;
        held = h.fits.ranges.held;
        temp = t;
        fnd = f;
        perm = p;
      };
    };
    held = h.held;
  }

  pub mark_temp-right : (part : PartValue) (place : Place) → Right part → PlaceIsRight epoch place → Right (mark_temp part place)
  unfolding mark_temp
  mark_temp-right part place h k =
      marked part (with_place part.temp place) part.fnd part.perm h (IsPart-mark_temp part place h.fits.is (k.of_epoch ∙ sym h.own.in_epoch))
      (all-with_place PlaceInRange part.temp place h.fits.ranges.temp (place_in_range place k.fits)) h.fits.ranges.fnd h.fits.ranges.perm

  pub mark_found-right : (part : PartValue) (packet : Packet) → Right part → PacketIsOf epoch packet → Right (mark_found part packet.stamp)
  unfolding mark_found
  mark_found-right part packet h k =
      let stamp = stamp_right packet.stamp (packet_stamp packet k.right.fits) in
      marked part part.temp (with_places part.fnd (places_of packet.stamp)) part.perm h
      (IsPart-mark_found part packet.stamp h.fits.is (k.of_epoch ∙ sym h.own.in_epoch) stamp.places)
      h.fits.ranges.temp (all-with_places PlaceInRange part.fnd (places_of packet.stamp) h.fits.ranges.fnd (places_in_range packet.stamp stamp.pairs)) h.fits.ranges.perm

  pub mark_dropped-right : (part : PartValue) (place : Place) → Right part → PlaceIsRight epoch place → Right (mark_dropped part place)
  unfolding mark_dropped
  mark_dropped-right part place h k =
      marked part part.temp part.fnd (with_place part.perm place) h (IsPart-mark_dropped part place h.fits.is (k.of_epoch ∙ sym h.own.in_epoch))
      h.fits.ranges.temp h.fits.ranges.fnd (all-with_place PlaceInRange part.perm place h.fits.ranges.perm (place_in_range place k.fits))

  -- place by place
  pub mark_all_dropped-right : (part : PartValue) (places : List Place) → Right part → Each (PlaceIsRight epoch) places → Right (mark_all_dropped part places)
  unfolding mark_all_dropped mark_dropped with_places with_place union
  mark_all_dropped-right part [] h k = h
  mark_all_dropped-right part (place ∷ places) h k =
      mark_all_dropped-right (mark_dropped part place) places (mark_dropped-right part place h k.0) k.1

  pub hold-right : (part : PartValue) (packet : Packet) → Right part → PacketIsRight packet → Right (hold part packet)
  hold-right part packet h k =
      let stamp = stamp_right packet.stamp (packet_stamp packet k.fits) in
      let on_own : (number : ℕ) → number_in packet.stamp.places part.shard ≡ Some number → names_shard shard packet ≡ true = λ number e.
      subst (λ (own : ShardId). names_shard own packet ≡ true) h.own.on_shard (ap (λ (found : Option ℕ). is_some found) e) in
      subst Right (sym (hold-others part packet)) (record {
        own = record { in_epoch = h.own.in_epoch; on_shard = h.own.on_shard };
        fits = record {
          is = subst IsPart (hold-others part packet) (IsPart-hold part packet h.fits.is);
          ranges = record {
            of_shard = h.fits.ranges.of_shard;
            of_epoch = h.fits.ranges.of_epoch;
            held = all-hold HeldInRange part packet h.fits.ranges.held (λ number e some. (number_of_pair packet.stamp.places part.shard number stamp.pairs e, k.fits));
            temp = h.fits.ranges.temp;
            fnd = h.fits.ranges.fnd;
            perm = h.fits.ranges.perm;
          };
        };
        held = all-hold (HeldIsRight shard) part packet h.held (λ number e some. (k.exact, on_own number e));
      })

  pub merge-right : (some other : PartValue) → Right some → Right other → Right (merge some other)
  unfolding merge
  merge-right some other h k = record {
    own = record { in_epoch = h.own.in_epoch; on_shard = h.own.on_shard };
    fits = record {
      is = IsPart-merge some other h.fits.is k.fits.is (k.own.in_epoch ∙ sym h.own.in_epoch);
      ranges = record {
        of_shard = h.fits.ranges.of_shard;
        of_epoch = h.fits.ranges.of_epoch;
        held = all-merge HeldInRange some other h.fits.ranges.held k.fits.ranges.held;
        temp = all-with_places PlaceInRange some.temp other.temp h.fits.ranges.temp k.fits.ranges.temp;
        fnd = all-with_places PlaceInRange some.fnd other.fnd h.fits.ranges.fnd k.fits.ranges.fnd;
        perm = all-with_places PlaceInRange some.perm other.perm h.fits.ranges.perm k.fits.ranges.perm;
      };
    };
    held = all-merge (HeldIsRight shard) some other h.held k.held;
  }

  pub union_of-right : (noted : List (ReplicaId × PartValue)) (part : PartValue) → Each (λ one. Right one.1) noted → Right part → Right (union_of noted part)
  unfolding union_of
  union_of-right [] part h k = k
  union_of-right (one ∷ noted) part h k = union_of-right noted (merge part one.1) h.1 (merge-right part one.1 k h.0)

  pub with_part-right : (noted : List (ReplicaId × PartValue)) (replica : ReplicaId) (part : PartValue) → Each (λ one. Right one.1) noted → Right part → Each (λ one. Right one.1) (with_part noted replica part)
  unfolding with_part
  with_part-right [] replica part h k = (k, tt)
  with_part-right (other ∷ noted) replica part h k =
      cond_both (nat_lt replica.0 other.0.0) ((replica, part) ∷ other ∷ noted)
      (cond (same_replica replica other.0) ((replica, part) ∷ noted) (other ∷ with_part noted replica part)) (Each (λ (one : ReplicaId × PartValue). Right one.1))
      (λ _. (k, h))
      (λ _. cond_both (same_replica replica other.0) ((replica, part) ∷ noted) (other ∷ with_part noted replica part) (Each (λ (one : ReplicaId × PartValue). Right one.1))
      (λ _. (k, h.1))
      (λ _. (h.0, with_part-right noted replica part h.1 k)))

-- the packet that is held at a number, and the number
pub held_there : (part : PartValue) (number : ℕ) (packet : Packet) → PartFits part → packet_at part.held number ≡ Some packet → HeldInRange (number, packet)
held_there part number packet h e = all-packet_at HeldInRange part.held number packet h.ranges.held e

-- ---- how far it goes
covered_below : (part : PartValue) (number : ℕ) (found : Option Packet) → packet_at part.held number ≡ found → PartFits part → (is_some found || contains_place part.perm (own_place part number)) ≡ true → number < 2 ^ 32
covered_below part number (Some packet) e h k = number_below number (held_there part number packet h e).0
covered_below part number None e h k = number_below number (all-contains_place PlaceInRange part.perm (own_place part number) h.ranges.perm k).1

is_covered-below : (part : PartValue) (number : ℕ) → PartFits part → is_covered part number ≡ true → number < 2 ^ 32
unfolding is_covered
is_covered-below part number h k = covered_below part number (packet_at part.held number) refl h k

up_to_below : (part : PartValue) (number : ℕ) → PartFits part → covers part number ≡ true → number < 2 ^ 32
up_to_below part zero h k = omega arith
up_to_below part (suc number) h k = is_covered-below part (suc number) h (covers-at part (suc number) (suc number) k (omega arith) (omega arith))

pub length_of-below : (part : PartValue) → PartFits part → length_of part < 2 ^ 32
length_of-below part h = up_to_below part (length_of part) h (covers-length_of part)

-- ---- marks as they are sent
pub perm-fits : (part : PartValue) → PartFits part → PairsFit (pairs_of part.perm)
perm-fits part h = marks_fit part.epoch part.perm h.is.perm h.ranges.perm
