-- What holds of ascending places.
use Rattle.std.proofs.Common.{◌≡◌, ◌<◌, ◌≤◌, ℕ, Bool, true, false, ◌&&◌, ◌||◌, ◌==◌, nat_lt, cond, Option, Some, None, Result, Ok, Err, OnOk, OnErr, IfOk, is_some, List, [], ◌∷◌, map, refl, ap, sym, ◌∙◌, subst, arith, inl, inr}
use Rattle.std.proofs.lemmas.Bool.{and_parts, and_from, or_cases, cond-true, cond-false, eqb-true, eq-eqb, ne_eqb, ltb-true}
use Rattle.std.proofs.lemmas.Cmp.{nat_cmp_total, on_total, then_total, tied_itself}
use Rattle.std.specs.Cmp.{IsTotalOrder}
use Rattle.std.specs.List.{list_any, AllByRecursion}
use Rattle.std.specs.Option.{option_or, option_map}
use Rattle.std.specs.Ordering.{nat_cmp, ordering_then, is_eq, is_lt}
use Rattle.std.specs.declared.cmp.Ordering.{Ordering}
use Rattle.std.specs.declared.cmp.Ordering.TheVariants.{Less, Equal, Greater}
use Rattle.std.specs.Prelude.{find}
use Rattle.eris_base.specs.declared.ids.Epoch.{Epoch}
use Rattle.eris_base.specs.declared.ids.Place.{Place}
use Rattle.eris_base.specs.declared.ids.ShardId.{ShardId}
use Rattle.eris_base.specs.declared.stamp.Stamp.{Stamp}
use Rattle.eris_base.specs.Places.{is_later, ascends_from as shards_ascend_from, are_stamp_places, number_in}
use Rattle.eris_base.specs.StampPlaces.{has_place, is_number}
use Rattle.eris_base.proofs.Orders.{equal_from, nat_tie}
use Rattle.eris_log.specs.PartFacts.{AreMarks}
use Rattle.eris_log.specs.Places.{place_cmp, same_place, contains_place, places_ascend, are_of_epoch, with_place, with_places, places_of}
use Rattle.eris_log.specs.Sorted.{is_above, ascends, ascends_from, item_at, with_item, union}
use Rattle.eris_log.specs.Laws.Sorted.{item_at-with_item, item_at-union, ascends-with_item, ascends-union, all-with_item, all-union, union-assoc, union-idem, union-comm}

pub place_cmp-total : IsTotalOrder place_cmp
place_cmp-total =
    then_total (on_total (λ (place : Place). place.epoch.0) nat_cmp_total)
    (then_total (on_total (λ (place : Place). place.shard.0) nat_cmp_total) (on_total (λ (place : Place). place.number) nat_cmp_total))

tests : (a b c : Bool) (o p q : Ordering) → a ≡ is_eq o → b ≡ is_eq p → c ≡ is_eq q → ((a && b) && c) ≡ is_eq (ordering_then o (ordering_then p q))
tests a b c Less p q e f g = rw e refl
tests a b c Equal Less q e f g = rw (e, f) refl
tests a b c Equal Equal q e f g = rw (e, f, g) refl
tests a b c Equal Greater q e f g = rw (e, f) refl
tests a b c Greater p q e f g = rw e refl

pub same_place-order : (some other : Place) → same_place some other ≡ is_eq (place_cmp some other)
unfolding same_place
same_place-order some other =
    tests _ _ _ (nat_cmp some.epoch.0 other.epoch.0) (nat_cmp some.shard.0 other.shard.0) (nat_cmp some.number other.number)
    (nat_tie some.epoch.0 other.epoch.0) (nat_tie some.shard.0 other.shard.0) (nat_tie some.number other.number)

-- places that the test takes for the same are equal
pub same_place-true : (some other : Place) → same_place some other ≡ true → some ≡ other
unfolding same_place
same_place-true some other h =
    let parts = and_parts _ _ h in
    let front = and_parts _ _ parts.0 in
    let epochs : some.epoch.0 ≡ other.epoch.0 = eqb-true _ _ front.0 in
    let shards : some.shard.0 ≡ other.shard.0 = eqb-true _ _ front.1 in
    let numbers : some.number ≡ other.number = eqb-true _ _ parts.1 in
    λ i. record { epoch = record { 0 = epochs i }; shard = record { 0 = shards i }; number = numbers i }

pub same_place-refl : (place : Place) → same_place place place ≡ true
unfolding same_place
same_place-refl place =
    and_from _ _
    (and_from _ _ (eq-eqb place.epoch.0 place.epoch.0 refl) (eq-eqb place.shard.0 place.shard.0 refl))
    (eq-eqb place.number place.number refl)

pub place_cmp-exact : (some other : Place) → place_cmp some other ≡ Equal → some ≡ other
place_cmp-exact some other h = same_place-true some other (same_place-order some other ∙ ap is_eq h)

-- the one place with the key, if it is there
one_place : (places : List Place) (place found : Place) → item_at (λ other. other) place_cmp places place ≡ Some found → found ≡ place
unfolding item_at
one_place [] place found h = cc
one_place (other ∷ places) place found h =
    by_test (is_eq (place_cmp other place)) refl (find (λ item. is_eq (place_cmp item place)) places) h (one_place places place found)
  where
    by_test : (b : Bool) → is_eq (place_cmp other place) ≡ b → (rest : Option Place) → cond b (Some other) rest ≡ Some found → (rest ≡ Some found → found ≡ place) → found ≡ place
    by_test true e rest h more = let g = place_cmp-exact other place (equal_from _ e) in cc
    by_test false e rest h more = more h

-- the search by the order tells exactly what the list contains
pub contains_place-item_at : (places : List Place) (place : Place) → contains_place places place ≡ is_some (item_at (λ other. other) place_cmp places place)
unfolding contains_place item_at
contains_place-item_at [] place = refl
contains_place-item_at (other ∷ places) place =
    by_test _ (is_eq (place_cmp other place)) (same_place-order other place) _ _ (contains_place-item_at places place)
  where
    by_test : (a b : Bool) → a ≡ b → (c : Bool) (rest : Option Place) → c ≡ is_some rest → (a || c) ≡ is_some (cond b (Some other) rest)
    by_test true true e c rest h = refl
    by_test true false e c rest h = cc
    by_test false true e c rest h = cc
    by_test false false e c rest h = h

some_or : (a b : Option Place) → is_some (option_or a b) ≡ (is_some a || is_some b)
some_or None b = refl
some_or (Some x) b = refl

some_cond : (b : Bool) (x : Place) → is_some (cond b (Some x) None) ≡ b
some_cond true x = refl
some_cond false x = refl

-- what is marked, and what was, and nothing else
pub contains_place-with_place : (places : List Place) (place other : Place) → contains_place (with_place places place) other ≡ (contains_place places other || same_place place other)
unfolding with_place
contains_place-with_place places place other =
    contains_place-item_at (with_item (λ p. p) place_cmp places place) other
    ∙ ap is_some (item_at-with_item (λ p. p) place_cmp-total places place other)
    ∙ some_or (item_at (λ p. p) place_cmp places other) (cond (is_eq (place_cmp place other)) (Some place) None)
    ∙ ap (λ b. is_some (item_at (λ p. p) place_cmp places other) || b) (some_cond (is_eq (place_cmp place other)) place ∙ sym (same_place-order place other))
    ∙ ap (λ b. b || same_place place other) (sym (contains_place-item_at places other))

pub contains_place-with_places : (places others : List Place) (other : Place) → contains_place (with_places places others) other ≡ (contains_place places other || contains_place others other)
unfolding with_places
contains_place-with_places places others other =
    contains_place-item_at (union (λ p. p) place_cmp places others) other
    ∙ ap is_some (item_at-union (λ p. p) place_cmp-total places others other)
    ∙ some_or (item_at (λ p. p) place_cmp places other) (item_at (λ p. p) place_cmp others other)
    ∙ ap (λ b. is_some (item_at (λ p. p) place_cmp places other) || b) (sym (contains_place-item_at others other))
    ∙ ap (λ b. b || contains_place others other) (sym (contains_place-item_at places other))

-- ---- the order and the epoch are kept
all_of : (epoch : Epoch) (places : List Place) → are_of_epoch epoch places ≡ true → AllByRecursion (λ place. (place.epoch.0 == epoch.0) ≡ true) places
all_of epoch [] h = tt
all_of epoch (place ∷ places) h = let parts = and_parts _ _ h in (parts.0, all_of epoch places parts.1)

of_all : (epoch : Epoch) (places : List Place) → AllByRecursion (λ place. (place.epoch.0 == epoch.0) ≡ true) places → are_of_epoch epoch places ≡ true
of_all epoch [] h = refl
of_all epoch (place ∷ places) h = and_from _ _ h.0 (of_all epoch places h.1)

pub AreMarks-with_place : (epoch : Epoch) (places : List Place) (place : Place) → AreMarks epoch places → place.epoch ≡ epoch → AreMarks epoch (with_place places place)
unfolding with_place
AreMarks-with_place epoch places place marks same = record {
  ascend = ascends-with_item (λ p. p) place_cmp-total places place marks.ascend;
  of_epoch =
      of_all epoch _ (all-with_item (λ p. p) place_cmp (λ p. (p.epoch.0 == epoch.0) ≡ true) places place (all_of epoch places marks.of_epoch)
      (eq-eqb _ _ (ap (λ (e : Epoch). e.0) same)));
}

pub AreMarks-with_places : (epoch : Epoch) (places others : List Place) → AreMarks epoch places → AreMarks epoch others → AreMarks epoch (with_places places others)
unfolding with_places
AreMarks-with_places epoch places others marks more = record {
  ascend = ascends-union (λ p. p) place_cmp-total places others marks.ascend;
  of_epoch =
      of_all epoch _ (all-union (λ p. p) place_cmp (λ p. (p.epoch.0 == epoch.0) ≡ true) places others (all_of epoch places marks.of_epoch) (all_of epoch others more.of_epoch));
}

-- what adding a place leaves, whether there was memory or not
pub marks_kept : {A E : Type 0} (r : Result A E) (old new : List Place) (place : Place) → OnOk r (new ≡ with_place old place) → OnErr r (new ≡ old)
    → (epoch : Epoch) → AreMarks epoch old → place.epoch ≡ epoch → AreMarks epoch new
marks_kept (Ok a) old new place made same epoch marks of = subst (AreMarks epoch) (sym made) (AreMarks-with_place epoch old place marks of)
marks_kept (Err e) old new place made same epoch marks of = subst (AreMarks epoch) (sym same) marks

pub marks_added : {A E : Type 0} (r : Result A E) (old new others : List Place) → OnOk r (new ≡ with_places old others) → OnErr r (new ≡ old)
    → (epoch : Epoch) → AreMarks epoch old → AreMarks epoch others → AreMarks epoch new
marks_added (Ok a) old new others made same epoch marks more = subst (AreMarks epoch) (sym made) (AreMarks-with_places epoch old others marks more)
marks_added (Err e) old new others made same epoch marks more = subst (AreMarks epoch) (sym same) marks

pub marks_joined : {E : Type 0} (r : Result (List Place) E) (places others : List Place) → IfOk r (λ made. made ≡ with_places places others)
    → IfOk r (λ made. (epoch : Epoch) → AreMarks epoch places → AreMarks epoch others → AreMarks epoch made)
marks_joined (Ok made) places others is = λ epoch marks more. subst (AreMarks epoch) (sym is) (AreMarks-with_places epoch places others marks more)
marks_joined (Err e) places others is = tt

-- ---- what holds of each place
pub all-with_place : (P : Place → Type 0) (places : List Place) (place : Place) → AllByRecursion P places → P place → AllByRecursion P (with_place places place)
unfolding with_place
all-with_place P places place all one = all-with_item (λ p. p) place_cmp P places place all one

pub all-with_places : (P : Place → Type 0) (places others : List Place) → AllByRecursion P places → AllByRecursion P others → AllByRecursion P (with_places places others)
unfolding with_places
all-with_places P places others all more = all-union (λ p. p) place_cmp P places others all more

pub all-contains_place : (P : Place → Type 0) (places : List Place) (place : Place) → AllByRecursion P places → contains_place places place ≡ true → P place
unfolding contains_place
all-contains_place P [] place all h = cc
all-contains_place P (other ∷ places) place all h = elim (or_cases (same_place other place) (contains_place places place) h) [
  | inl same ↦ subst P (same_place-true other place same) all.0
  | inr more ↦ all-contains_place P places place all.1 more
]

-- ---- unions of places
pub with_places-assoc : (some others more : List Place) → places_ascend some ≡ true → with_places (with_places some others) more ≡ with_places some (with_places others more)
unfolding with_places
with_places-assoc some others more h = union-assoc (λ p. p) place_cmp-total some others more h

pub with_places-idem : (places : List Place) → places_ascend places ≡ true → with_places places places ≡ places
unfolding with_places
with_places-idem places h = union-idem (λ p. p) place_cmp-total places h

pub with_places-comm : (some others : List Place) → places_ascend some ≡ true → places_ascend others ≡ true → with_places some others ≡ with_places others some
unfolding with_places
with_places-comm some others g h =
    union-comm (λ p. p) place_cmp-total some others g h (λ k x y e f. one_place some k x e ∙ sym (one_place others k y f))

-- ---- the places of a stamp
module _ (epoch : Epoch) where
  shard_less : (some other : ShardId) (m n : ℕ) → nat_lt some.0 other.0 ≡ true
      → is_lt (place_cmp (record { epoch = epoch; shard = some; number = m }) (record { epoch = epoch; shard = other; number = n })) ≡ true
  shard_less some other m n h =
      ap (λ o. is_lt (ordering_then o (ordering_then (nat_cmp some.0 other.0) (nat_cmp m n)))) (tied_itself nat_cmp_total epoch.0)
      ∙ ap (λ o. is_lt (ordering_then o (nat_cmp m n))) (cond-true (nat_lt some.0 other.0) Less _ h)

  stamp_above : (before : Option ShardId) (number : ℕ) (place : ShardId × ℕ) → is_later before place.0 ≡ true
      → is_above place_cmp (option_map (λ (shard : ShardId). record { epoch = epoch; shard = shard; number = number }) before) (record { epoch = epoch; shard = place.0; number = place.1 }) ≡ true
  stamp_above None number place h = refl
  stamp_above (Some shard) number place h = shard_less shard place.0 number place.1 h

  stamp_ascends : (before : Option ShardId) (number : ℕ) (places : List (ShardId × ℕ)) → shards_ascend_from before places ≡ true
      → ascends_from (λ (p : Place). p) place_cmp (option_map (λ (shard : ShardId). record { epoch = epoch; shard = shard; number = number }) before) (map (λ (place : ShardId × ℕ). record { epoch = epoch; shard = place.0; number = place.1 }) places) ≡ true
  stamp_ascends before number [] h = refl
  stamp_ascends before number (place ∷ places) h =
      let parts = and_parts _ _ h in
      and_from _ _ (stamp_above before number place parts.0) (stamp_ascends (Some place.0) place.1 places parts.1)

  stamp_of_epoch : (places : List (ShardId × ℕ)) → are_of_epoch epoch (map (λ (place : ShardId × ℕ). record { epoch = epoch; shard = place.0; number = place.1 }) places) ≡ true
  stamp_of_epoch [] = refl
  stamp_of_epoch (place ∷ places) = and_from _ _ (eq-eqb epoch.0 epoch.0 refl) (stamp_of_epoch places)

-- a stamp's places ascend and are of its epoch
pub AreMarks-places_of : (stamp : Stamp) → are_stamp_places stamp.places ≡ true → AreMarks stamp.epoch (places_of stamp)
unfolding places_of
AreMarks-places_of stamp h = record {
  ascend = stamp_ascends stamp.epoch None 0 stamp.places (and_parts _ _ h).1;
  of_epoch = stamp_of_epoch stamp.epoch stamp.places;
}

-- a shard that is no later than another isn't among those after it
not_behind : (before shard : ShardId) (places : List (ShardId × ℕ)) → shards_ascend_from (Some before) places ≡ true → shard.0 ≤ before.0 → number_in places shard ≡ None
not_behind before shard [] h le = refl
not_behind before shard (place ∷ places) h le =
    let parts = and_parts _ _ h in
    let lt : before.0 < place.0.0 = ltb-true before.0 place.0.0 parts.0 in
    ap (option_map (λ (p : ShardId × ℕ). p.1)) (cond-false (place.0.0 == shard.0) (Some place) _ (ne_eqb place.0.0 shard.0 (λ e. omega arith)))
    ∙ not_behind place.0 shard places parts.1 (omega arith)

any_place : (epoch : Epoch) (place : Place) (before : Option ShardId) (places : List (ShardId × ℕ)) → shards_ascend_from before places ≡ true
    → list_any (λ other. same_place other place) (map (λ (p : ShardId × ℕ). record { epoch = epoch; shard = p.0; number = p.1 }) places)
    ≡ (epoch.0 == place.epoch.0 && is_number (number_in places place.shard) place.number)
unfolding same_place
any_place epoch place before [] h = sym (and-false (epoch.0 == place.epoch.0))
  where
    and-false : (b : Bool) → (b && false) ≡ false
    and-false true = refl
    and-false false = refl
any_place epoch place before (p ∷ places) h =
    by_test (epoch.0 == place.epoch.0) (p.0.0 == place.shard.0) refl (any_place epoch place (Some p.0) places (and_parts _ _ h).1)
  where
    none : p.0.0 == place.shard.0 ≡ true → number_in places place.shard ≡ None
    none e = let same : p.0.0 ≡ place.shard.0 = eqb-true _ _ e in not_behind p.0 place.shard places (and_parts (is_later before p.0) (shards_ascend_from (Some p.0) places) h).1 (omega arith)

    or-false : (b : Bool) → (b || false) ≡ b
    or-false true = refl
    or-false false = refl

    by_test : (a b : Bool) → p.0.0 == place.shard.0 ≡ b → {rest : Bool} → rest ≡ (a && is_number (number_in places place.shard) place.number)
        → (((a && b) && p.1 == place.number) || rest) ≡ (a && is_number (option_map (λ (q : ShardId × ℕ). q.1) (cond b (Some p) (find (λ q. q.0.0 == place.shard.0) places))) place.number)
    by_test true true e h = ap (λ r. (p.1 == place.number) || r) (h ∙ ap (λ found. is_number found place.number) (none e)) ∙ or-false _
    by_test true false e h = h
    by_test false b e h = h

-- the stamp has exactly its places
pub contains_place-places_of : (stamp : Stamp) (place : Place) → are_stamp_places stamp.places ≡ true → contains_place (places_of stamp) place ≡ has_place stamp place
unfolding contains_place places_of
contains_place-places_of stamp place h = any_place stamp.epoch place None stamp.places (and_parts _ _ h).1

pub ruleset place_rules = (contains_place-item_at, AreMarks-with_place, AreMarks-with_places, AreMarks-places_of)
