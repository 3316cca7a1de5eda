-- What holds of lists in the order of their keys.
use Rattle.std.proofs.Common.{◌≡◌, ◌<◌, ◌≤◌, ◌+◌, ◌-◌, ℕ, zero, suc, Bool, true, false, cond, Option, Some, None, Result, Ok, Err, IfOk, IfErr, is_some, List, [], ◌∷◌, length, get_or, take, drop, refl, ap, sym, ◌∙◌, subst, arith}
use Rattle.std.specs.Prelude.{slice_get, insert}
use Rattle.std.specs.Cmp.{IsTotalOrder}
use Rattle.std.specs.List.{AllByRecursion, AllWithin, HoldsAt}
use Rattle.std.specs.List.Sorted.{IsSearchInRange, IsBinarySearchResult, IsSortedBy}
use Rattle.std.specs.Option.{option_or}
use Rattle.std.specs.Ordering.{is_lt, is_eq, ordering_reverse}
use Rattle.std.specs.declared.cmp.Ordering.{Ordering}
use Rattle.std.specs.declared.cmp.Ordering.TheVariants.{Less, Equal, Greater}
use Rattle.std.proofs.lemmas.Bool.{and_parts, and_from, cond-true, cond-false, cond_both}
use Rattle.std.proofs.lemmas.Cmp.{tied_itself, tied_back, alike_right}
use Rattle.std.proofs.lemmas.List.Sorted.{searchable_from_sorted}
use Rattle.std.proofs.lemmas.Option.{slice_get-get_or}
use Rattle.eris_base.proofs.Orders.{equal_from, less_from}
use Rattle.eris_base.proofs.Booleans.{none_from}
use Rattle.eris_log.specs.Sorted.{is_above, ascends_from, ascends, item_at, placed, with_item, union, items_from, head_at, IsFoundAt, IsFreeAt, StartsUnion}

-- neither less nor equal
greater_from : (o : Ordering) → is_lt o ≡ false → is_eq o ≡ false → o ≡ Greater
greater_from Less h e = cc
greater_from Equal h e = cc
greater_from Greater h e = refl

is_some-cond : {A : Type 0} (b : Bool) (x : A) (o : Option A) → is_some (cond b (Some x) o) ≡ false → (b ≡ false) × (is_some o ≡ false)
is_some-cond true x o h = cc
is_some-cond false x o h = (refl, h)

module _ {X K : Type 0} (key : X → K) {cmp : K → K → Ordering} (o : IsTotalOrder cmp) where
  greater_turned : (a b : K) → cmp a b ≡ Greater → cmp b a ≡ Less
  greater_turned a b h = o.antisymm b a ∙ ap ordering_reverse h

  less_turned : (a b : K) → cmp a b ≡ Less → cmp b a ≡ Greater
  less_turned a b h = o.antisymm b a ∙ ap ordering_reverse h

  -- the key is below that of each item
  abbrev pub Below : K → List X → Type 0
  Below k items = AllByRecursion (λ item. cmp k (key item) ≡ Less) items

  pub below_lower : (a b : K) (items : List X) → cmp a b ≡ Less → Below b items → Below a items
  below_lower a b [] h below = tt
  below_lower a b (x ∷ items) h below = (o.trans a b (key x) h below.0, below_lower a b items h below.1)

  below_tied : (a b : K) (items : List X) → cmp a b ≡ Equal → Below b items → Below a items
  below_tied a b [] h below = tt
  below_tied a b (x ∷ items) h below = (o.congr a b (key x) h ∙ below.0, below_tied a b items h below.1)

  pub below_from : (k : K) (items : List X) → ascends_from key cmp (Some k) items ≡ true → Below k items
  below_from k [] h = tt
  below_from k (x ∷ items) h =
      let parts = and_parts _ _ h in
      let less = less_from _ parts.0 in
      (less, below_lower k (key x) items less (below_from (key x) items parts.1))

  below_at : (k : K) (items : List X) (i : ℕ) (d : X) → Below k items → i < length items → cmp k (key (get_or items i d)) ≡ Less
  below_at k [] i d below lt = absurd (omega arith)
  below_at k (x ∷ items) zero d below lt = below.0
  below_at k (x ∷ items) (suc i) d below lt = below_at k items i d below.1 (omega arith)

  -- what ascends after some key ascends
  pub ascends_alone : (before : Option K) (items : List X) → ascends_from key cmp before items ≡ true → ascends key cmp items ≡ true
  ascends_alone before [] h = refl
  ascends_alone before (x ∷ items) h = (and_parts _ _ h).1

  pub ascends_after : (k : K) (items : List X) → Below k items → ascends key cmp items ≡ true → ascends_from key cmp (Some k) items ≡ true
  ascends_after k [] below h = refl
  ascends_after k (x ∷ items) below h = and_from _ _ (ap is_lt below.0) h

  pub ascends_tail : (x : X) (items : List X) → ascends key cmp (x ∷ items) ≡ true → ascends key cmp items ≡ true
  ascends_tail x items h = ascends_alone (Some (key x)) items h

  -- no item has a key that is below all
  pub item_at-below : (k : K) (items : List X) → Below k items → item_at key cmp items k ≡ None
  unfolding item_at
  item_at-below k [] below = refl
  item_at-below k (x ∷ items) below =
      cond-false _ (Some x) _ (ap is_eq (less_turned k (key x) below.0)) ∙ item_at-below k items below.1

  -- keys that tie have the same item
  pub item_at-tied : (a b : K) (items : List X) → cmp a b ≡ Equal → item_at key cmp items a ≡ item_at key cmp items b
  unfolding item_at
  item_at-tied a b [] h = refl
  item_at-tied a b (x ∷ items) h = rw (alike_right o a b (key x) h, item_at-tied a b items h) refl

  -- ---- a search by halves
  adjacent : (items : List X) → ascends key cmp items ≡ true → IsSortedBy (λ x y. is_lt (cmp (key x) (key y))) items
  adjacent [] h i d low high = absurd (omega arith)
  adjacent (x ∷ []) h i d low high = absurd (omega arith)
  adjacent (x ∷ y ∷ items) h zero d low high = ap is_lt (less_turned (key x) (key y) (less_from _ (and_parts _ _ h).0))
  adjacent (x ∷ y ∷ items) h (suc i) d low high =
      let e : suc i + 1 ≡ suc (i + 1) = omega arith in
      rw e (adjacent (y ∷ items) (ascends_tail x (y ∷ items) h) i d (omega arith) (omega arith))

  pub item_at-found : (items : List X) (k : K) (at : ℕ) → ascends key cmp items ≡ true → at < length items → HoldsAt (λ y. cmp (key y) k ≡ Equal) items at → item_at key cmp items k ≡ slice_get items at
  unfolding item_at
  item_at-found [] k at h lt tied = absurd (omega arith)
  item_at-found (x ∷ items) k zero h lt tied = cond-true _ (Some x) _ (ap is_eq (tied x))
  item_at-found (x ∷ items) k (suc at) h lt tied =
      let less = below_at (key x) items at x (below_from (key x) items h) (omega arith) in
      cond-false _ (Some x) _ (ap is_eq (sym (alike_right o _ k (key x) (tied x)) ∙ less))
      ∙ item_at-found items k at (ascends_tail x items h) (omega arith) tied

  goes_at : (items : List X) (k : K) (at : ℕ) → at ≤ length items
      → AllWithin (λ y. cmp (key y) k ≡ Less) items 0 at → AllWithin (λ y. cmp (key y) k ≡ Greater) items at (length items)
      → (item : X) → key item ≡ k → placed key cmp items item ≡ insert items at item
  unfolding placed
  goes_at [] k zero le less greater item same = refl
  goes_at [] k (suc at) le less greater item same = absurd (omega arith)
  goes_at (x ∷ items) k zero le less greater item same =
      cond-true _ _ _ (ap is_lt (ap (λ q. cmp q (key x)) same ∙ greater_turned (key x) k (greater 0 x (omega arith) (omega arith))))
  goes_at (x ∷ items) k (suc at) le less greater item same =
      cond-false _ _ _ (ap is_lt (ap (λ q. cmp q (key x)) same ∙ less_turned (key x) k (less 0 x (omega arith) (omega arith))))
      ∙ ap (λ more. x ∷ more) (goes_at items k at (omega arith) (λ i d a b. less (suc i) d (omega arith) (omega arith)) (λ i d a b. greater (suc i) d (omega arith) (omega arith)) item same)

  none_at : (items : List X) (k : K) (at : ℕ) → at ≤ length items
      → AllWithin (λ y. cmp (key y) k ≡ Less) items 0 at → AllWithin (λ y. cmp (key y) k ≡ Greater) items at (length items)
      → item_at key cmp items k ≡ None
  unfolding item_at
  none_at [] k at le less greater = refl
  none_at (x ∷ items) k zero le less greater =
      cond-false _ (Some x) _ (ap is_eq (greater 0 x (omega arith) (omega arith)))
      ∙ none_at items k zero (omega arith) (λ i d a b. absurd (omega arith)) (λ i d a b. greater (suc i) d (omega arith) (omega arith))
  none_at (x ∷ items) k (suc at) le less greater =
      cond-false _ (Some x) _ (ap is_eq (less 0 x (omega arith) (omega arith)))
      ∙ none_at items k at (omega arith) (λ i d a b. less (suc i) d (omega arith) (omega arith)) (λ i d a b. greater (suc i) d (omega arith) (omega arith))

  behind_at : (items : List X) (k : K) (at : ℕ) → at ≤ length items
      → AllWithin (λ y. cmp (key y) k ≡ Less) items 0 at → AllWithin (λ y. cmp (key y) k ≡ Greater) items at (length items)
      → items_from key cmp items k ≡ drop at items
  unfolding items_from
  behind_at [] k zero le less greater = refl
  behind_at [] k (suc at) le less greater = absurd (omega arith)
  behind_at (x ∷ items) k zero le less greater = cond-false _ _ _ (ap is_lt (greater 0 x (omega arith) (omega arith)))
  behind_at (x ∷ items) k (suc at) le less greater =
      cond-true _ _ _ (ap is_lt (less 0 x (omega arith) (omega arith)))
      ∙ behind_at items k at (omega arith) (λ i d a b. less (suc i) d (omega arith) (omega arith)) (λ i d a b. greater (suc i) d (omega arith) (omega arith))

  behind_found : (items : List X) (k : K) (at : ℕ) → ascends key cmp items ≡ true → at < length items → HoldsAt (λ y. cmp (key y) k ≡ Equal) items at → items_from key cmp items k ≡ drop at items
  unfolding items_from
  behind_found [] k at h lt tied = absurd (omega arith)
  behind_found (x ∷ items) k zero h lt tied = cond-false _ _ _ (ap is_lt (tied x))
  behind_found (x ∷ items) k (suc at) h lt tied =
      let less = below_at (key x) items at x (below_from (key x) items h) (omega arith) in
      cond-true _ _ _ (ap is_lt (sym (alike_right o _ k (key x) (tied x)) ∙ less))
      ∙ behind_found items k at (ascends_tail x items h) (omega arith) tied

  -- a search by halves ends at the item with the key, or where one would stand
  pub searched : (items : List X) (k : K) (r : Result ℕ ℕ) → ascends key cmp items ≡ true → IsSearchInRange r (length items) → IsBinarySearchResult (λ y. cmp (key y) k) items r
      → IfOk r (IsFoundAt key cmp items k) × IfErr r (IsFreeAt key cmp items k)
  searched items k (Ok at) h in_range tied = (record { in_range = in_range; is = item_at-found items k at h in_range tied; behind = behind_found items k at h in_range tied }, tt)
  searched items k (Err at) h in_range parted =
      let parts = parted (searchable_from_sorted o key items k (adjacent items h)) in (
        tt,
        record {
          in_range = in_range;
          none = none_at items k at in_range parts.0 parts.1;
          goes = goes_at items k at in_range parts.0 parts.1;
          behind = behind_at items k at in_range parts.0 parts.1;
        },
      )

  -- ---- a walk from key to key
  pub head_at-items_from : (items : List X) (k : K) → ascends key cmp items ≡ true → head_at key cmp (items_from key cmp items k) k ≡ item_at key cmp items k
  unfolding head_at items_from item_at
  head_at-items_from [] k h = refl
  head_at-items_from (x ∷ items) k h = by_order (cmp (key x) k) refl (head_at-items_from items k (ascends_tail x items h))
    where
      by_order : (r : Ordering) → cmp (key x) k ≡ r → head_at key cmp (items_from key cmp items k) k ≡ item_at key cmp items k
          → head_at key cmp (cond (is_lt r) (items_from key cmp items k) (x ∷ items)) k ≡ cond (is_eq r) (Some x) (item_at key cmp items k)
      by_order Less e more = more
      by_order Equal e more = rw e refl
      by_order Greater e more =
          let less = greater_turned (key x) k e in
          rw e (sym (item_at-below k items (below_lower k (key x) items less (below_from (key x) items h))))

  -- the second key comes right behind the first
  pub record IsNext (k next : K) : Type 0 where
    pub above : cmp k next ≡ Less
    pub close : (a : K) → cmp a next ≡ Less → is_lt (cmp a k) ≡ false → cmp a k ≡ Equal

  pub items_from-next : (items : List X) (k next : K) → ascends key cmp items ≡ true → IsNext k next
      → items_from key cmp items next ≡ cond (is_some (head_at key cmp (items_from key cmp items k) k)) (drop 1 (items_from key cmp items k)) (items_from key cmp items k)
  unfolding head_at items_from
  items_from-next [] k next h close = refl
  items_from-next (x ∷ items) k next h close =
      by_order (cmp (key x) k) refl (cmp (key x) next) refl (items_from-next items k next (ascends_tail x items h) close)
    where
      all_from : (items : List X) → Below (key x) items → cmp (key x) k ≡ Equal → items_from key cmp items next ≡ items
      all_from [] below e = refl
      all_from (y ∷ items) below e = by_test (cmp (key y) next) refl
        where
          by_test : (r : Ordering) → cmp (key y) next ≡ r → cond (is_lt r) (items_from key cmp items next) (y ∷ items) ≡ y ∷ items
          by_test Less f =
              let greater : cmp (key y) k ≡ Greater = sym (alike_right o (key x) k (key y) e) ∙ less_turned (key x) (key y) below.0 in
              let tie = close.close (key y) f (ap is_lt greater) in cc
          by_test Equal f = refl
          by_test Greater f = refl

      by_order : (r : Ordering) → cmp (key x) k ≡ r → (s : Ordering) → cmp (key x) next ≡ s
          → items_from key cmp items next ≡ cond (is_some (head_at key cmp (items_from key cmp items k) k)) (drop 1 (items_from key cmp items k)) (items_from key cmp items k)
          → cond (is_lt s) (items_from key cmp items next) (x ∷ items)
          ≡ cond (is_some (head_at key cmp (cond (is_lt r) (items_from key cmp items k) (x ∷ items)) k)) (drop 1 (cond (is_lt r) (items_from key cmp items k) (x ∷ items))) (cond (is_lt r) (items_from key cmp items k) (x ∷ items))
      by_order Less e Less f more = more
      by_order Less e Equal f more = let less = o.trans (key x) k next e close.above in cc
      by_order Less e Greater f more = let less = o.trans (key x) k next e close.above in cc
      by_order Equal e Less f more = rw e (all_from items (below_from (key x) items h) e)
      by_order Equal e Equal f more = let less = o.congr (key x) k next e ∙ close.above in cc
      by_order Equal e Greater f more = let less = o.congr (key x) k next e ∙ close.above in cc
      by_order Greater e Less f more = let tie = close.close (key x) f (ap is_lt e) in cc
      by_order Greater e Equal f more = rw e refl
      by_order Greater e Greater f more = rw e refl

  -- ---- one more item
  pub with_item-there : (items : List X) (item : X) → is_some (item_at key cmp items (key item)) ≡ true → with_item key cmp items item ≡ items
  unfolding with_item
  with_item-there items item there = cond-true _ items _ there

  pub with_item-absent : (items : List X) (item : X) → is_some (item_at key cmp items (key item)) ≡ false → with_item key cmp items item ≡ placed key cmp items item
  unfolding with_item
  with_item-absent items item absent = cond-false _ items _ absent

  pub with_item-found : (items : List X) (item : X) (at : ℕ) → IsFoundAt key cmp items (key item) at → with_item key cmp items item ≡ items
  with_item-found items item at found =
      with_item-there items item (ap is_some (found.is ∙ slice_get-get_or items at item found.in_range))

  pub with_item-free : (items : List X) (item : X) (at : ℕ) → IsFreeAt key cmp items (key item) at → with_item key cmp items item ≡ insert items at item
  with_item-free items item at free = with_item-absent items item (ap is_some free.none) ∙ free.goes item refl

  ascends_from-placed : (before : Option K) (items : List X) (item : X) → ascends_from key cmp before items ≡ true → is_above cmp before (key item) ≡ true
      → is_some (item_at key cmp items (key item)) ≡ false → ascends_from key cmp before (placed key cmp items item) ≡ true
  unfolding placed item_at
  ascends_from-placed before [] item h above absent = and_from _ _ above refl
  ascends_from-placed before (x ∷ items) item h above absent =
      let parts = and_parts _ _ h in
      let apart = is_some-cond _ x _ absent in
      cond_both _ _ _ (λ made. ascends_from key cmp before made ≡ true)
      (λ less. and_from _ _ above (and_from _ _ less parts.1))
      (λ not_less. and_from _ _ parts.0 (ascends_from-placed (Some (key x)) items item parts.1 (ap is_lt (turned (key x) (key item) apart.0 not_less)) apart.1))
    where
      turned : (a b : K) → is_eq (cmp a b) ≡ false → is_lt (cmp b a) ≡ false → cmp a b ≡ Less
      turned a b apart not_less = by_case (cmp a b) refl apart
        where
          by_case : (r : Ordering) → cmp a b ≡ r → is_eq r ≡ false → r ≡ Less
          by_case Less e h = refl
          by_case Equal e h = cc
          by_case Greater e h = let less : is_lt (cmp b a) ≡ true = ap is_lt (greater_turned a b e) in cc

  pub ascends-with_item : (items : List X) (item : X) → ascends key cmp items ≡ true → ascends key cmp (with_item key cmp items item) ≡ true
  unfolding with_item
  ascends-with_item items item h =
      cond_both _ items _ (λ made. ascends key cmp made ≡ true)
      (λ there. h)
      (λ absent. ascends_from-placed None items item h refl absent)

  pub ascends-union : (items others : List X) → ascends key cmp items ≡ true → ascends key cmp (union key cmp items others) ≡ true
  unfolding union
  ascends-union items [] h = h
  ascends-union items (y ∷ others) h = ascends-union (with_item key cmp items y) others (ascends-with_item items y h)

  -- ---- two lists merged from the front
  with_item-behind : (x y : X) (items : List X) → cmp (key x) (key y) ≡ Less → with_item key cmp (x ∷ items) y ≡ x ∷ with_item key cmp items y
  unfolding with_item placed item_at
  with_item-behind x y items less =
      rw (less, less_turned (key x) (key y) less)
      (by_test (is_some (item_at key cmp items (key y))))
    where
      by_test : (b : Bool) → cond b (x ∷ items) (x ∷ placed key cmp items y) ≡ x ∷ cond b items (placed key cmp items y)
      by_test true = refl
      by_test false = refl

  pub union-behind : (x : X) (items others : List X) → Below (key x) others → union key cmp (x ∷ items) others ≡ x ∷ union key cmp items others
  unfolding union
  union-behind x items [] below = refl
  union-behind x items (y ∷ others) below =
      ap (λ made. union key cmp made others) (with_item-behind x y items below.0)
      ∙ union-behind x (with_item key cmp items y) others below.1

  pub union-less : (x y : X) (items others : List X) → ascends key cmp (y ∷ others) ≡ true → cmp (key x) (key y) ≡ Less
      → union key cmp (x ∷ items) (y ∷ others) ≡ x ∷ union key cmp items (y ∷ others)
  union-less x y items others h less =
      union-behind x items (y ∷ others) (less, below_lower (key x) (key y) others less (below_from (key y) others h))

  pub union-equal : (x y : X) (items others : List X) → ascends key cmp (y ∷ others) ≡ true → cmp (key x) (key y) ≡ Equal
      → union key cmp (x ∷ items) (y ∷ others) ≡ x ∷ union key cmp items others
  unfolding union item_at
  union-equal x y items others h equal =
      ap (λ made. union key cmp made others) (with_item-there (x ∷ items) y (ap is_some (cond-true _ (Some x) _ (ap is_eq equal))))
      ∙ union-behind x items others (below_tied (key x) (key y) others equal (below_from (key y) others h))

  pub union-greater : (x y : X) (items others : List X) → ascends key cmp (x ∷ items) ≡ true → ascends key cmp (y ∷ others) ≡ true → cmp (key x) (key y) ≡ Greater
      → union key cmp (x ∷ items) (y ∷ others) ≡ y ∷ union key cmp (x ∷ items) others
  unfolding union placed
  union-greater x y items others g h greater =
      let less = greater_turned (key x) (key y) greater in
      let below : Below (key y) (x ∷ items) = (less, below_lower (key y) (key x) items less (below_from (key x) items g)) in
      ap (λ made. union key cmp made others)
      (with_item-absent (x ∷ items) y (ap is_some (item_at-below (key y) (x ∷ items) below)) ∙ cond-true _ _ _ (ap is_lt less))
      ∙ union-behind y (x ∷ items) others (below_from (key y) others h)

  pub union-none : (others : List X) → ascends key cmp others ≡ true → union key cmp [] others ≡ others
  unfolding union with_item placed item_at
  union-none [] h = refl
  union-none (y ∷ others) h =
      union-behind y [] others (below_from (key y) others h)
      ∙ ap (λ made. y ∷ made) (union-none others (ascends_tail y others h))

  -- how a union starts
  pub starts_left : (left right more : List X) (x : X) → left ≡ x ∷ more → right ≡ [] → ascends key cmp left ≡ true → StartsUnion key cmp left right x more right
  unfolding union
  starts_left left right more x e f g =
      let h = subst (λ (items : List X). ascends key cmp items ≡ true) e g in
      rw (e, f) (record { starts = refl; more_ascends = ascends_tail x more h; rest_ascends = refl; fewer = omega arith })

  pub starts_right : (left right rest : List X) (y : X) → left ≡ [] → right ≡ y ∷ rest → ascends key cmp right ≡ true → StartsUnion key cmp left right y left rest
  starts_right left right rest y e f g =
      let h = subst (λ (items : List X). ascends key cmp items ≡ true) f g in
      rw (e, f) (record {
        starts = union-none (y ∷ rest) h ∙ ap (λ made. y ∷ made) (sym (union-none rest (ascends_tail y rest h)));
        more_ascends = refl;
        rest_ascends = ascends_tail y rest h;
        fewer = omega arith;
      })

  module _ (left right more rest : List X) (x y : X) (e : left ≡ x ∷ more) (f : right ≡ y ∷ rest) (g : ascends key cmp left ≡ true) (h : ascends key cmp right ≡ true) where
    left_ascends : ascends key cmp (x ∷ more) ≡ true
    left_ascends = subst (λ (items : List X). ascends key cmp items ≡ true) e g

    right_ascends : ascends key cmp (y ∷ rest) ≡ true
    right_ascends = subst (λ (items : List X). ascends key cmp items ≡ true) f h

    pub starts_less : cmp (key x) (key y) ≡ Less → StartsUnion key cmp left right x more right
    starts_less less =
        rw (e, f) (record { starts = union-less x y more rest right_ascends less; more_ascends = ascends_tail x more left_ascends; rest_ascends = right_ascends; fewer = omega arith })

    pub starts_equal : cmp (key x) (key y) ≡ Equal → StartsUnion key cmp left right x more rest
    starts_equal equal =
        rw (e, f) (record { starts = union-equal x y more rest right_ascends equal; more_ascends = ascends_tail x more left_ascends; rest_ascends = ascends_tail y rest right_ascends; fewer = omega arith })

    pub starts_greater : cmp (key x) (key y) ≡ Greater → StartsUnion key cmp left right y left rest
    starts_greater greater =
        rw (e, f) (record { starts = union-greater x y more rest left_ascends right_ascends greater; more_ascends = left_ascends; rest_ascends = ascends_tail y rest right_ascends; fewer = omega arith })

  -- ---- look-ups
  pub item_at-placed : (items : List X) (item : X) (k : K) → is_some (item_at key cmp items (key item)) ≡ false
      → item_at key cmp (placed key cmp items item) k ≡ cond (is_eq (cmp (key item) k)) (Some item) (item_at key cmp items k)
  unfolding item_at placed
  item_at-placed [] item k absent = refl
  item_at-placed (x ∷ items) item k absent =
      let apart = is_some-cond _ x _ absent in
      cond_both (is_lt (cmp (key item) (key x))) (item ∷ x ∷ items) (x ∷ placed key cmp items item) (λ made. item_at key cmp made k ≡ cond (is_eq (cmp (key item) k)) (Some item) (item_at key cmp (x ∷ items) k))
      (λ less. refl)
      (λ not_less.
      ap (λ found. cond (is_eq (cmp (key x) k)) (Some x) found) (item_at-placed items item k apart.1)
      ∙ swapped (is_eq (cmp (key x) k)) (is_eq (cmp (key item) k)) x item (item_at key cmp items k)
      (λ one two. joined (key x) (key item) k apart.0 one two))
    where
      swapped : (a b : Bool) (x y : X) (found : Option X) → (a ≡ true → b ≡ true → ⊥) → cond a (Some x) (cond b (Some y) found) ≡ cond b (Some y) (cond a (Some x) found)
      swapped true true x y found never = absurd (never refl refl)
      swapped true false x y found never = refl
      swapped false b x y found never = refl

      joined : (a b k : K) → is_eq (cmp a b) ≡ false → is_eq (cmp a k) ≡ true → is_eq (cmp b k) ≡ true → ⊥
      joined a b k apart one two =
          let tie : cmp a b ≡ Equal = o.congr a k b (equal_from _ one) ∙ tied_back o b k (equal_from _ two) in
          let tied : is_eq (cmp a b) ≡ true = ap is_eq tie in
          cc

  or-none : (found : Option X) → option_or found None ≡ found
  or-none None = refl
  or-none (Some x) = refl

  pub item_at-with_item : (items : List X) (item : X) (k : K)
      → item_at key cmp (with_item key cmp items item) k ≡ option_or (item_at key cmp items k) (cond (is_eq (cmp (key item) k)) (Some item) None)
  item_at-with_item items item k = by_test (is_some (item_at key cmp items (key item))) refl (is_eq (cmp (key item) k)) refl
    where
      by_test : (b : Bool) → is_some (item_at key cmp items (key item)) ≡ b → (t : Bool) → is_eq (cmp (key item) k) ≡ t
          → item_at key cmp (with_item key cmp items item) k ≡ option_or (item_at key cmp items k) (cond t (Some item) None)
      by_test true there t e = ap (λ made. item_at key cmp made k) (with_item-there items item there) ∙ kept t e
        where
          kept_some : (found : Option X) → is_some found ≡ true → found ≡ option_or found (Some item)
          kept_some None h = cc
          kept_some (Some x) h = refl

          kept : (t : Bool) → is_eq (cmp (key item) k) ≡ t → item_at key cmp items k ≡ option_or (item_at key cmp items k) (cond t (Some item) None)
          kept true e = kept_some _ (ap is_some (sym (item_at-tied (key item) k items (equal_from _ e))) ∙ there)
          kept false e = sym (or-none _)
      by_test false absent t e =
          ap (λ made. item_at key cmp made k) (with_item-absent items item absent)
          ∙ item_at-placed items item k absent
          ∙ ap (λ b. cond b (Some item) (item_at key cmp items k)) e
          ∙ added t e
        where
          added : (t : Bool) → is_eq (cmp (key item) k) ≡ t → cond t (Some item) (item_at key cmp items k) ≡ option_or (item_at key cmp items k) (cond t (Some item) None)
          added true e = rw (sym (item_at-tied (key item) k items (equal_from _ e)) ∙ none_from _ absent) refl
          added false e = sym (or-none _)

  pub item_at-union : (items others : List X) (k : K) → item_at key cmp (union key cmp items others) k ≡ option_or (item_at key cmp items k) (item_at key cmp others k)
  unfolding union item_at
  item_at-union items [] k = sym (or-none _)
  item_at-union items (y ∷ others) k =
      item_at-union (with_item key cmp items y) others k
      ∙ ap (λ found. option_or found (item_at key cmp others k)) (item_at-with_item items y k)
      ∙ joined (item_at key cmp items k) (is_eq (cmp (key y) k)) (item_at key cmp others k)
    where
      joined : (a : Option X) (t : Bool) (b : Option X) → option_or (option_or a (cond t (Some y) None)) b ≡ option_or a (cond t (Some y) b)
      joined None true b = refl
      joined None false b = refl
      joined (Some x) t b = refl

  -- ---- lists with the same look-ups
  pub same_items : (items others : List X) → ascends key cmp items ≡ true → ascends key cmp others ≡ true
      → ((k : K) → item_at key cmp items k ≡ item_at key cmp others k) → items ≡ others
  unfolding item_at
  same_items [] [] g h same = refl
  same_items [] (y ∷ others) g h same =
      let e = same (key y) ∙ cond-true _ (Some y) _ (ap is_eq (tied_itself o (key y))) in cc
  same_items (x ∷ items) [] g h same =
      let e = sym (same (key x)) ∙ cond-true _ (Some x) _ (ap is_eq (tied_itself o (key x))) in cc
  same_items (x ∷ items) (y ∷ others) g h same =
      by_order (λ f. same_items items others (ascends_tail x items g) (ascends_tail y others h) f) (cmp (key x) (key y)) refl
    where
      here : item_at key cmp (x ∷ items) (key x) ≡ Some x
      here = cond-true _ (Some x) _ (ap is_eq (tied_itself o (key x)))

      there : item_at key cmp (y ∷ others) (key y) ≡ Some y
      there = cond-true _ (Some y) _ (ap is_eq (tied_itself o (key y)))

      tails : cmp (key x) (key y) ≡ Equal → (k : K) → item_at key cmp items k ≡ item_at key cmp others k
      tails tie k = by_test (is_eq (cmp (key x) k)) refl
        where
          by_test : (t : Bool) → is_eq (cmp (key x) k) ≡ t → item_at key cmp items k ≡ item_at key cmp others k
          by_test true e =
              let back = tied_back o (key x) k (equal_from _ e) in
              item_at-below k items (below_tied k (key x) items back (below_from (key x) items g))
              ∙ sym (item_at-below k others (below_tied k (key y) others (sym (alike_right o (key x) (key y) k tie) ∙ back) (below_from (key y) others h)))
          by_test false e =
              sym (cond-false _ (Some x) _ e) ∙ same k ∙ cond-false _ (Some y) _ (ap is_eq (sym (o.congr (key x) (key y) k tie)) ∙ e)

      by_order : (((k : K) → item_at key cmp items k ≡ item_at key cmp others k) → items ≡ others) → (r : Ordering) → cmp (key x) (key y) ≡ r → x ∷ items ≡ y ∷ others
      by_order rest Less e =
          let none = item_at-below (key x) (y ∷ others) (e, below_lower (key x) (key y) others e (below_from (key y) others h)) in
          let clash = sym here ∙ same (key x) ∙ none in cc
      by_order rest Equal e =
          let one : Some x ≡ Some y = sym here ∙ same (key x) ∙ cond-true _ (Some y) _ (ap is_eq (tied_back o (key x) (key y) e)) in
          let more = rest (tails e) in cc
      by_order rest Greater e =
          let less = greater_turned (key x) (key y) e in
          let none = item_at-below (key y) (x ∷ items) (less, below_lower (key y) (key x) items less (below_from (key x) items g)) in
          let clash = sym there ∙ sym (same (key y)) ∙ none in cc

  or-assoc : (a b c : Option X) → option_or (option_or a b) c ≡ option_or a (option_or b c)
  or-assoc None b c = refl
  or-assoc (Some x) b c = refl

  pub union-assoc : (some others more : List X) → ascends key cmp some ≡ true
      → union key cmp (union key cmp some others) more ≡ union key cmp some (union key cmp others more)
  union-assoc some others more g =
      same_items _ _ (ascends-union _ more (ascends-union some others g)) (ascends-union some _ g)
      (λ k. item_at-union (union key cmp some others) more k
      ∙ ap (λ found. option_or found (item_at key cmp more k)) (item_at-union some others k)
      ∙ or-assoc (item_at key cmp some k) (item_at key cmp others k) (item_at key cmp more k)
      ∙ ap (λ found. option_or (item_at key cmp some k) found) (sym (item_at-union others more k))
      ∙ sym (item_at-union some (union key cmp others more) k))

  pub union-idem : (items : List X) → ascends key cmp items ≡ true → union key cmp items items ≡ items
  union-idem items g =
      same_items _ _ (ascends-union items items g) g
      (λ k. item_at-union items items k ∙ both (item_at key cmp items k))
    where
      both : (found : Option X) → option_or found found ≡ found
      both None = refl
      both (Some x) = refl

  -- no key has two items
  abbrev pub Agree : List X → List X → Type 0
  Agree some others = (k : K) (x y : X) → item_at key cmp some k ≡ Some x → item_at key cmp others k ≡ Some y → x ≡ y

  pub union-comm : (some others : List X) → ascends key cmp some ≡ true → ascends key cmp others ≡ true → Agree some others
      → union key cmp some others ≡ union key cmp others some
  union-comm some others g h agree =
      same_items _ _ (ascends-union some others g) (ascends-union others some h)
      (λ k. item_at-union some others k ∙ turned k (item_at key cmp some k) (item_at key cmp others k) refl refl ∙ sym (item_at-union others some k))
    where
      turned : (k : K) (a b : Option X) → item_at key cmp some k ≡ a → item_at key cmp others k ≡ b → option_or a b ≡ option_or b a
      turned k None None e f = refl
      turned k None (Some y) e f = refl
      turned k (Some x) None e f = refl
      turned k (Some x) (Some y) e f = ap Some (agree k x y e f)

-- ---- what a slice pattern takes apart
pub front : {X : Type 0} (xs : List X) (x : X) → 0 < length xs → x ≡ get_or xs 0 x → xs ≡ x ∷ take (length xs - 1) (drop 1 xs)
front {X = X} [] x lt is = absurd (omega arith)
front {X = X} (y ∷ xs) x lt is =
    let e : length (y ∷ xs) - 1 ≡ length xs = omega arith in
    rw e (rw (take_all xs) (ap (λ z. z ∷ xs) (sym is)))
  where
    take_all : (xs : List X) → take (length xs) xs ≡ xs
    take_all [] = refl
    take_all (x ∷ xs) = ap (λ more. x ∷ more) (take_all xs)

pub no_items : {X : Type 0} (xs : List X) → length xs < 1 → xs ≡ []
no_items [] lt = refl
no_items (x ∷ xs) lt = absurd (omega arith)

-- ---- what holds of each item
module _ {X K : Type 0} (key : X → K) (cmp : K → K → Ordering) where
  pub union-no_items : (items others : List X) → items ≡ [] → others ≡ [] → union key cmp items others ≡ []
  unfolding union
  union-no_items items others e f = rw (e, f) refl

  all-placed : (P : X → Type 0) (items : List X) (item : X) → AllByRecursion P items → P item → AllByRecursion P (placed key cmp items item)
  unfolding placed
  all-placed P [] item all one = (one, tt)
  all-placed P (x ∷ items) item all one =
      cond_both (is_lt (cmp (key item) (key x))) (item ∷ x ∷ items) (x ∷ placed key cmp items item) (AllByRecursion P) (λ less. (one, (all.0, all.1))) (λ not_less. (all.0, all-placed P items item all.1 one))

  pub all-with_item : (P : X → Type 0) (items : List X) (item : X) → AllByRecursion P items → P item → AllByRecursion P (with_item key cmp items item)
  unfolding with_item
  all-with_item P items item all one = cond_both _ items _ (AllByRecursion P) (λ there. all) (λ absent. all-placed P items item all one)

  pub all-union : (P : X → Type 0) (items others : List X) → AllByRecursion P items → AllByRecursion P others → AllByRecursion P (union key cmp items others)
  unfolding union
  all-union P items [] all more = all
  all-union P items (y ∷ others) all more = all-union P (with_item key cmp items y) others (all-with_item P items y all more.0) more.1
