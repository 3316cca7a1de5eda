-- A FIELD OF A MESSAGE in its range is in that of a report.
use Rattle.std.proofs.Common.{◌≡◌, ◌<◌, ◌≤◌, ◌&&◌, ◌+◌, ◌-◌, ◌^◌, ◌==◌, ℕ, Bool, true, false, cond, nat_le, nat_lt, length, Option, Some, None, List, [], ◌∷◌, ◌++◌, refl, subst, arith}
use Rattle.std.specs.List.{AllByRecursion, list_all}
use Rattle.std.specs.Ordering.{is_lt, nat_cmp}
use Rattle.std.specs.declared.cmp.Ordering.TheVariants.{Less, Equal, Greater}
use Rattle.std.proofs.lemmas.Bool.{and_from, and_parts, le-leb, leb-true, lt-ltb, ltb-true}
use Rattle.eris_base.specs.declared.ids.ClientId.{ClientId}
use Rattle.eris_base.specs.declared.ids.ShardId.{ShardId}
use Rattle.eris_base.specs.declared.ids.TxnId.{TxnId}
use Rattle.eris_base.specs.Places.{are_stamp_places, ascends_from, is_later}
use Rattle.eris_base.specs.Stamps.{StampValue}
use Rattle.eris_txn.specs.declared.packet.Packet.{Packet}
use Rattle.eris_log.specs.PartValues.{PartValue}
use Rattle.eris_log.specs.Sorted as sorted
use Rattle.eris_codec.specs.Codecs.{items_fit}
use Rattle.eris_codec.specs.Fields as f
use Rattle.eris_codec.specs.Ranges.{HeldInRange, stamp_fits}
use Rattle.eris_codec.proofs.RangeLaws.{next_shard}
use Rattle.eris_event.specs.EventRanges.{fits_count}
use Rattle.eris_in_place.specs.MessageRanges.{PartFits}
use Rattle.eris_report_range.specs.ReportRanges.{is_ranged_client, is_ranged_id, is_ranged_number, is_ranged_place}

pub count_ranged : (n : ℕ) → n < 2 ^ 32 → fits_count n ≡ true
count_ranged n lt = le-leb n (2 ^ 32 - 1) (omega (arith, lt))

pub word_ranged : (n : ℕ) → f.word.fits n ≡ true → fits_count n ≡ true
unfolding f.word
word_ranged n h = count_ranged n (ltb-true n (2 ^ 32) h)

number_below : (n : ℕ) → f.number.fits n ≡ true → n < 2 ^ 32
unfolding f.number f.word
number_below n h = ltb-true n (2 ^ 32) (and_parts (nat_lt n (2 ^ 32)) (nat_lt 0 n) h).0

number_some : (n : ℕ) → f.number.fits n ≡ true → 0 < n
unfolding f.number f.word
number_some n h = ltb-true 0 n (and_parts (nat_lt n (2 ^ 32)) (nat_lt 0 n) h).1

number_ranged : (n : ℕ) → f.number.fits n ≡ true → is_ranged_number n ≡ true
unfolding f.number f.word
number_ranged n h =
    let parts = and_parts (nat_lt n (2 ^ 32)) (nat_lt 0 n) h in
    and_from (nat_lt 0 n) (fits_count n) parts.1 (count_ranged n (ltb-true n (2 ^ 32) parts.0))

at_most : (n most : ℕ) → (nat_le 0 n && nat_le n most) ≡ true → n ≤ most
at_most n most h = leb-true n most (and_parts (nat_le 0 n) (nat_le n most) h).1

pub client_ranged : (client : ClientId) → f.client.fits client ≡ true → is_ranged_client client ≡ true
unfolding f.client f.from_to f.byte
client_ranged client h =
    let le = at_most client.0 127 (and_parts (nat_lt client.0 256) (nat_le 0 client.0 && nat_le client.0 127) h).1 in lt-ltb client.0 128 (omega (arith, le))

shard_ranged : (shard : ShardId) → f.shard.fits shard ≡ true → nat_lt shard.0 64 ≡ true
unfolding f.shard f.from_to f.byte
shard_ranged shard h =
    let le = at_most shard.0 63 (and_parts (nat_lt shard.0 256) (nat_le 0 shard.0 && nat_le shard.0 63) h).1 in lt-ltb shard.0 64 (omega (arith, le))

pub id_ranged : (id : TxnId) → f.id.fits id ≡ true → is_ranged_id id ≡ true
unfolding f.id
id_ranged id h =
    let parts = and_parts (f.client.fits id.client) (f.number.fits id.number) h in
    and_from (is_ranged_client id.client) (is_ranged_number id.number) (client_ranged id.client parts.0) (number_ranged id.number parts.1)

-- ---- stamps
abbrev PlacesRanged : Option ShardId → List (ShardId × ℕ) → Type 0
PlacesRanged before places = (ascends_from before places ≡ true) × (list_all is_ranged_place places ≡ true)

places_ranged : (before places : List (ShardId × ℕ)) → items_fit f.stamp_place before places ≡ true → PlacesRanged (f.shard_before before) places
unfolding f.stamp_place
places_ranged before [] h = (refl, refl)
places_ranged before (place ∷ places) h =
    let later = is_later (f.shard_before before) place.0 in
    let parts = and_parts ((f.shard.fits place.0 && later) && f.number.fits place.1) (items_fit f.stamp_place (before ++ place ∷ []) places) h in
    let one = and_parts (f.shard.fits place.0 && later) (f.number.fits place.1) parts.0 in
    let shard = and_parts (f.shard.fits place.0) later one.0 in
    let more = subst (λ (b : Option ShardId). PlacesRanged b places) (next_shard before place) (places_ranged (before ++ place ∷ []) places parts.1) in (
      and_from later (ascends_from (Some place.0) places) shard.1 more.0,
      and_from (is_ranged_place place) (list_all is_ranged_place places)
          (and_from (nat_lt place.0.0 64) (is_ranged_number place.1) (shard_ranged place.0 shard.0) (number_ranged place.1 one.1)) more.1,
    )

-- what is asked of a stamp
abbrev pub stamp_test : StampValue → Bool
stamp_test stamp = fits_count stamp.epoch.0 && (are_stamp_places stamp.places && list_all is_ranged_place stamp.places)

pub stamp_ranged : (stamp : StampValue) → stamp_fits stamp ≡ true → stamp_test stamp ≡ true
unfolding f.stamp f.epoch f.word f.from_to f.byte f.shard_before
stamp_ranged stamp h =
    let parts = and_parts (nat_lt stamp.epoch.0 (2 ^ 32)) _ h in
    let listed = and_parts _ (items_fit f.stamp_place [] stamp.places) parts.1 in
    let many = and_parts (nat_lt (length stamp.places) 256) (nat_le 1 (length stamp.places) && nat_le (length stamp.places) 64) listed.0 in
    let some = leb-true 1 (length stamp.places) (and_parts (nat_le 1 (length stamp.places)) (nat_le (length stamp.places) 64) many.1).0 in
    let places = places_ranged [] stamp.places listed.1 in
    and_from (fits_count stamp.epoch.0) (are_stamp_places stamp.places && list_all is_ranged_place stamp.places)
    (count_ranged stamp.epoch.0 (ltb-true stamp.epoch.0 (2 ^ 32) parts.0))
    (and_from (are_stamp_places stamp.places) (list_all is_ranged_place stamp.places)
    (and_from (nat_lt 0 (length stamp.places)) (ascends_from None stamp.places) (lt-ltb 0 (length stamp.places) (omega (arith, some))) places.0) places.1)

-- ---- how many packets a part holds: their numbers ascend
less : (a b : ℕ) → is_lt (nat_cmp a b) ≡ true → a < b
less a b h = ltb-true a b (by_tests (nat_lt a b) (a == b) h)
  where
    by_tests : (below same : Bool) → is_lt (cond below Less (cond same Equal Greater)) ≡ true → below ≡ true
    by_tests true same h = refl
    by_tests false true h = absurd cc
    by_tests false false h = absurd cc

held_above : (before : ℕ) (held : List (ℕ × Packet)) → sorted.ascends_from (λ (pair : ℕ × Packet). pair.0) nat_cmp (Some before) held ≡ true → AllByRecursion HeldInRange held → before < 2 ^ 32
    → length held + before < 2 ^ 32
held_above before [] h k lt = omega (arith, lt)
held_above before (pair ∷ held) h k lt =
    let parts = and_parts (is_lt (nat_cmp before pair.0)) (sorted.ascends_from (λ (pair : ℕ × Packet). pair.0) nat_cmp (Some pair.0) held) h in
    let above = less before pair.0 parts.0 in
    let rest = held_above pair.0 held parts.1 k.1 (number_below pair.0 k.0.0) in
    omega (arith, above, rest)

held_below : (held : List (ℕ × Packet)) → sorted.ascends_from (λ (pair : ℕ × Packet). pair.0) nat_cmp None held ≡ true → AllByRecursion HeldInRange held → length held < 2 ^ 32
held_below [] h k = omega arith
held_below (pair ∷ held) h k = omega (arith, number_some pair.0 k.0.0, held_above pair.0 held h k.1 (number_below pair.0 k.0.0))

pub holds_few : (part : PartValue) → PartFits part → length part.held < 2 ^ 32
holds_few part h = held_below part.held h.is.held.ascend h.ranges.held
