-- Stamps and parts that fit, by their fields one by one.
use Rattle.std.proofs.Common.{◌≡◌, ℕ, ◌+◌, ◌-◌, ◌<◌, ◌≤◌, ◌^◌, ◌&&◌, ◌||◌, ◌==◌, Bool, true, false, cond, nat_lt, List, [], ◌∷◌, ◌++◌, length, Option, None, Some, refl, sym, ap, subst, ◌∙◌, arith}
use Rattle.std.specs.List.{AllByRecursion}
use Rattle.std.specs.Option.{option_map}
use Rattle.std.specs.Ordering.{nat_cmp, ordering_then, is_lt}
use Rattle.std.specs.declared.cmp.Ordering.{Ordering}
use Rattle.std.specs.declared.cmp.Ordering.TheVariants.{Less, Equal, Greater}
use Rattle.std.proofs.lemmas.Bool.{ltb-true, lt-ltb, le-leb, eqb-true, and_from}
use Rattle.std.proofs.lemmas.Cmp.{nat_cmp_total, tied_itself}
use Rattle.eris_base.specs.declared.ids.Epoch.{Epoch}
use Rattle.eris_base.specs.declared.ids.Place.{Place}
use Rattle.eris_base.specs.declared.ids.ShardId.{ShardId}
use Rattle.eris_base.specs.Places.{is_later, ascends_from as shards_ascend, are_stamp_places}
use Rattle.eris_base.specs.Stamps.{StampValue}
use Rattle.eris_base.proofs.Booleans.{left_of, right_of}
use Rattle.eris_txn.specs.declared.packet.Packet.{Packet}
use Rattle.eris_log.specs.PartFacts.{AreHeld, AreMarks, IsPart}
use Rattle.eris_log.specs.PartValues.{PartValue}
use Rattle.eris_log.specs.Places.{place_cmp, are_of_epoch, pair_of, place_at}
use Rattle.eris_log.specs.Sorted.{is_above, ascends_from}
use Rattle.eris_codec.specs.Codecs.{last_of, items_fit}
use Rattle.eris_codec.specs.Fields as f
use Rattle.eris_codec.specs.Parts as p
use Rattle.eris_codec.specs.Ranges.{PairInRange, PlaceInRange, HeldInRange, PartInRange, PartCounted, stamp_fits, part_fits}
use Rattle.eris_codec.proofs.FieldLaws.{tag_is}
use Rattle.eris_codec.proofs.LastItems.{last_added}
use Rattle.eris_codec.proofs.Sizes.{items_have, pairs_length, many_marks, held_many}

pub next_shard : (before : List (ShardId × ℕ)) (x : ShardId × ℕ) → f.shard_before (before ++ x ∷ []) ≡ Some x.0
unfolding f.shard_before
next_shard before x = ap (λ (z : Option (ShardId × ℕ)). option_map (λ q. q.0) z) (last_added before x)

above_zero : (n : ℕ) → nat_lt 0 n ≡ true → 1 ≤ n
above_zero n h = let lt = ltb-true 0 n h in omega arith

-- a count in its range
pub count_fits : (least most n : ℕ) → most < 256 → least ≤ n → n ≤ most → (f.from_to least most).fits n ≡ true
count_fits least most n small lo hi = tag_is least most n (lt-ltb n 256 (omega arith)) (and_from _ _ (le-leb least n lo) (le-leb n most hi))

pub word_fits : (n : ℕ) → n < 2 ^ 32 → f.word.fits n ≡ true
unfolding f.word
word_fits n lt = lt-ltb _ _ lt

abbrev some_place : Place → Option Place
some_place place = Some place

abbrev at_epoch_number : Place → ℕ → Place
at_epoch_number place n = record { epoch = record { 0 = n }; shard = place.shard; number = place.number }

pub pair_in_range : (before : List (ShardId × ℕ)) (q : ShardId × ℕ) → (p.listed_place before).fits q ≡ true → PairInRange q
unfolding p.listed_place
pair_in_range before q h =
    let both_fit = left_of (f.shard.fits q.0 && f.number.fits q.1) _ h in
    (left_of (f.shard.fits q.0) (f.number.fits q.1) both_fit, right_of (f.shard.fits q.0) (f.number.fits q.1) both_fit)

of_pairs : (list : List Place) → AllByRecursion PairInRange (p.pairs_of list) → AllByRecursion PlaceInRange list
unfolding p.pairs_of
of_pairs [] h = tt
of_pairs (place ∷ list) h = (h.0, of_pairs list h.1)

held_in : (before : List (ℕ × Packet)) (x : ℕ × Packet) → (p.held_packet before).fits x ≡ true → HeldInRange x
unfolding p.held_packet
held_in before x h =
    let number = left_of (f.number.fits x.0 && p.is_above (last_of before) x.0) (f.packet.fits x.1) h in
    (left_of (f.number.fits x.0) (p.is_above (last_of before) x.0) number, right_of (f.number.fits x.0 && p.is_above (last_of before) x.0) (f.packet.fits x.1) h)

-- ---- stamps
stamp_items : (before : List (ShardId × ℕ)) (list : List (ShardId × ℕ)) → shards_ascend (f.shard_before before) list ≡ true → AllByRecursion PairInRange list → items_fit f.stamp_place before list ≡ true
unfolding f.stamp_place
stamp_items before [] h k = refl
stamp_items before (x ∷ list) h k =
    let later = left_of (is_later (f.shard_before before) x.0) (shards_ascend (Some x.0) list) h in
    let more = right_of (is_later (f.shard_before before) x.0) (shards_ascend (Some x.0) list) h in
    let next : shards_ascend (f.shard_before (before ++ x ∷ [])) list ≡ true = subst (λ (z : Option ShardId). shards_ascend z list ≡ true) (sym (next_shard before x)) more in
    and_from _ _ (and_from _ _ (and_from _ _ k.0.0 later) k.0.1) (stamp_items (before ++ x ∷ []) list next k.1)

pub stamp_fits-from : (s : StampValue) → f.epoch.fits s.epoch ≡ true → are_stamp_places s.places ≡ true → length s.places ≤ 64 → AllByRecursion PairInRange s.places → stamp_fits s ≡ true
unfolding f.stamp f.shard_before
stamp_fits-from s e h few k =
    let some = left_of (nat_lt 0 (length s.places)) (shards_ascend None s.places) h in
    let ascend = right_of (nat_lt 0 (length s.places)) (shards_ascend None s.places) h in
    let count : (f.from_to 1 64).fits (length s.places) ≡ true = count_fits 1 64 (length s.places) (omega arith) (above_zero (length s.places) some) few in
    and_from _ _ e (and_from _ _ count (stamp_items [] s.places ascend k))

-- ---- places
pub after_tests : (t u v w : Bool) → is_lt (ordering_then (cond t Less (cond u Equal Greater)) (cond v Less (cond w Equal Greater))) ≡ true → (t || (u && v)) ≡ true
after_tests true u v w h = refl
after_tests false true true w h = refl
after_tests false true false true h = absurd cc
after_tests false true false false h = absurd cc
after_tests false false v w h = absurd cc

pub after_above : (e : Epoch) (before : Option (ShardId × ℕ)) (place : Place) → place.epoch.0 ≡ e.0 → is_above place_cmp (option_map (place_at e) before) place ≡ true → p.is_after before (pair_of place) ≡ true
after_above e None place same h = refl
after_above e (Some before) place same h =
    let tie : nat_cmp e.0 place.epoch.0 ≡ Equal = ap (λ (n : ℕ). nat_cmp e.0 n) same ∙ tied_itself nat_cmp_total e.0 in
    after_tests (nat_lt before.0.0 place.shard.0) (before.0.0 == place.shard.0) (nat_lt before.1 place.number) (before.1 == place.number)
    (subst (λ (o : Ordering). is_lt (ordering_then o (ordering_then (nat_cmp before.0.0 place.shard.0) (nat_cmp before.1 place.number))) ≡ true) tie h)

pub mark_items : (e : Epoch) (before : List (ShardId × ℕ)) (list : List Place) → ascends_from (λ place. place) place_cmp (option_map (place_at e) (last_of before)) list ≡ true → are_of_epoch e list ≡ true → AllByRecursion PlaceInRange list
    → items_fit p.listed_place before (p.pairs_of list) ≡ true
unfolding p.listed_place p.pairs_of
mark_items e before [] h o k = refl
mark_items e before (place ∷ list) h o k =
    let above = left_of (is_above place_cmp (option_map (place_at e) (last_of before)) place) (ascends_from (λ place. place) place_cmp (Some place) list) h in
    let more = right_of (is_above place_cmp (option_map (place_at e) (last_of before)) place) (ascends_from (λ place. place) place_cmp (Some place) list) h in
    let same : place.epoch.0 ≡ e.0 = eqb-true _ _ (left_of (place.epoch.0 == e.0) (are_of_epoch e list) o) in
    let here : place_at e (pair_of place) ≡ place = ap (λ (n : ℕ). at_epoch_number place n) (sym same) in
    let state : option_map (place_at e) (last_of (before ++ pair_of place ∷ [])) ≡ some_place place =
    ap (λ (z : Option (ShardId × ℕ)). option_map (place_at e) z) (last_added before (pair_of place)) ∙ ap some_place here in
    let next : ascends_from (λ place. place) place_cmp (option_map (place_at e) (last_of (before ++ pair_of place ∷ []))) list ≡ true =
    subst (λ (z : Option Place). ascends_from (λ place. place) place_cmp z list ≡ true) (sym state) more in
    and_from _ _ (and_from _ _ (and_from _ _ k.0.0 k.0.1) (after_above e (last_of before) place same above))
    (mark_items e (before ++ pair_of place ∷ []) list next (right_of (place.epoch.0 == e.0) (are_of_epoch e list) o) k.1)

marks_fit : (e : Epoch) (list : List Place) → AreMarks e list → AllByRecursion PlaceInRange list → length list < 2 ^ 32 → p.places.fits (p.pairs_of list) ≡ true
unfolding p.places
marks_fit e list marks k few =
    and_from _ _ (ap (λ (n : ℕ). f.word.fits n) (pairs_length list) ∙ word_fits (length list) few) (mark_items e [] list marks.ascend marks.of_epoch k)

-- ---- packets
above_test : (t u : Bool) → is_lt (cond t Less (cond u Equal Greater)) ≡ true → t ≡ true
above_test true u h = refl
above_test false true h = absurd cc
above_test false false h = absurd cc

above_held : (before : Option (ℕ × Packet)) (n : ℕ) → is_above nat_cmp (option_map (λ pair. pair.0) before) n ≡ true → p.is_above before n ≡ true
above_held None n h = refl
above_held (Some before) n h = above_test (nat_lt before.0 n) (before.0 == n) h

held_items : (before : List (ℕ × Packet)) (list : List (ℕ × Packet)) → ascends_from (λ pair. pair.0) nat_cmp (option_map (λ pair. pair.0) (last_of before)) list ≡ true → AllByRecursion HeldInRange list → items_fit p.held_packet before list ≡ true
unfolding p.held_packet
held_items before [] h k = refl
held_items before (x ∷ list) h k =
    let above = left_of (is_above nat_cmp (option_map (λ pair. pair.0) (last_of before)) x.0) (ascends_from (λ pair. pair.0) nat_cmp (Some x.0) list) h in
    let more = right_of (is_above nat_cmp (option_map (λ pair. pair.0) (last_of before)) x.0) (ascends_from (λ pair. pair.0) nat_cmp (Some x.0) list) h in
    let next : ascends_from (λ pair. pair.0) nat_cmp (option_map (λ pair. pair.0) (last_of (before ++ x ∷ []))) list ≡ true =
    subst (λ (z : Option (ℕ × Packet)). ascends_from (λ pair. pair.0) nat_cmp (option_map (λ pair. pair.0) z) list ≡ true) (sym (last_added before x)) more in
    and_from _ _ (and_from _ _ (and_from _ _ k.0.0 (above_held (last_of before) x.0 above)) k.0.1) (held_items (before ++ x ∷ []) list next k.1)

held_fits : (list : List (ℕ × Packet)) → AreHeld list → AllByRecursion HeldInRange list → length list < 2 ^ 32 → p.held.fits list ≡ true
unfolding p.held
held_fits list held k few = and_from _ _ (word_fits (length list) few) (held_items [] list held.ascend k)

-- ---- parts
pub part_fits-from : (part : PartValue) → IsPart part → PartInRange part → PartCounted part → part_fits part ≡ true
unfolding p.part p.part_of_epoch
part_fits-from part is ranges counted =
    and_from _ _ (and_from _ _ (and_from _ _ is.temp.of_epoch is.fnd.of_epoch) is.perm.of_epoch)
    (and_from _ _ ranges.of_shard (and_from _ _ ranges.of_epoch (and_from _ _ (held_fits part.held is.held ranges.held counted.held)
    (and_from _ _ (marks_fit part.epoch part.temp is.temp ranges.temp counted.temp)
    (and_from _ _ (marks_fit part.epoch part.fnd is.fnd ranges.fnd counted.fnd) (marks_fit part.epoch part.perm is.perm ranges.perm counted.perm))))))

places_in_range : (list : List Place) → p.places.fits (p.pairs_of list) ≡ true → AllByRecursion PlaceInRange list
unfolding p.places p.pairs_of
places_in_range list h = of_pairs list (items_have p.listed_place PairInRange pair_in_range [] (p.pairs_of list) (right_of _ (items_fit p.listed_place [] (p.pairs_of list)) h))

held_in_range : (list : List (ℕ × Packet)) → p.held.fits list ≡ true → AllByRecursion HeldInRange list
unfolding p.held
held_in_range list h = items_have p.held_packet HeldInRange held_in [] list (right_of _ (items_fit p.held_packet [] list) h)

-- a part that fits has its fields in their ranges, and is counted
pub record PartParts (part : PartValue) : Type 0 where
  pub ranges : PartInRange part
  pub counted : PartCounted part

pub part_parts : (part : PartValue) → part_fits part ≡ true → PartParts part
unfolding p.part
part_parts part h =
    let fields = right_of (p.part_of_epoch part) _ h in
    let a = right_of (f.shard.fits part.shard) _ fields in
    let b = right_of (f.epoch.fits part.epoch) _ a in
    let c = right_of (p.held.fits part.held) _ b in
    let d = right_of (p.places.fits (p.pairs_of part.temp)) _ c in
    let held = left_of (p.held.fits part.held) _ b in
    let temp = left_of (p.places.fits (p.pairs_of part.temp)) _ c in
    let fnd = left_of (p.places.fits (p.pairs_of part.fnd)) _ d in
    let perm = right_of (p.places.fits (p.pairs_of part.fnd)) _ d in
    record {
      ranges = record {
        of_shard = left_of (f.shard.fits part.shard) _ fields;
        of_epoch = left_of (f.epoch.fits part.epoch) _ a;
        held = held_in_range part.held held;
        temp = places_in_range part.temp temp;
        fnd = places_in_range part.fnd fnd;
        perm = places_in_range part.perm perm;
      };
      counted = record { held = held_many part.held held; temp = many_marks part.temp temp; fnd = many_marks part.fnd fnd; perm = many_marks part.perm perm };
    }
