-- Sorted lists: where an item goes, and what holds of the sorted list.
use Rattle.std.proofs.Common.{◌≡◌, ◌≤◌, ◌<◌, ℕ, zero, suc, Bool, true, false, not, ◌||◌, cond, List, [], ◌∷◌, ◌++◌, length, get_or, take, drop, insert, refl, ap, sym, ◌∙◌, arith}
use Rattle.std.proofs.lemmas.Bool.{cond-true, cond-false, not-true}
use Rattle.std.proofs.lemmas.Cmp.{tied_itself, alike_right}
use Rattle.std.specs.Cmp.{IsTotalOrder}
use Rattle.std.specs.List.{AllWithin, list_any, fold}
use Rattle.std.specs.List.Sorted.{IsPartitionedBy}
use Rattle.std.specs.Ordering.{is_lt, ordering_reverse}
use Rattle.std.specs.declared.cmp.Ordering.{Ordering}
use Rattle.std.specs.declared.cmp.Ordering.TheVariants.{Less, Equal, Greater}
use Rattle.eris_base.specs.Each.{Each}
use Rattle.eris_base.proofs.Orders.{less_from}
use Rattle.eris_log.specs.Sorted.{placed}
use Rattle.eris_epoch.specs.ClosingSteps.{IsEnd}
use Rattle.eris_epoch.specs.Sorting.{sorted, InOrder}

module _ {X K : Type 0} (key : X → K) {cmp : K → K → Ordering} (o : IsTotalOrder cmp) where
  -- the second isn't above the third, so what is below the second is below the third
  pub low_trans : (x a b : K) → is_lt (cmp b a) ≡ false → is_lt (cmp x a) ≡ true → is_lt (cmp x b) ≡ true
  low_trans x a b not_less less = by_order (cmp a b) refl
    where
      by_order : (r : Ordering) → cmp a b ≡ r → is_lt (cmp x b) ≡ true
      by_order Less e = ap is_lt (o.trans x a b (less_from _ less) e)
      by_order Equal e = ap is_lt (sym (alike_right o a b x e)) ∙ less
      by_order Greater e = let clash = sym not_less ∙ ap is_lt (o.antisymm b a ∙ ap ordering_reverse e) in cc

  -- and what is above the third is above the second
  pub high_trans : (x a b : K) → is_lt (cmp b a) ≡ false → is_lt (cmp b x) ≡ true → is_lt (cmp a x) ≡ true
  high_trans x a b not_less less = by_order (cmp a b) refl
    where
      by_order : (r : Ordering) → cmp a b ≡ r → is_lt (cmp a x) ≡ true
      by_order Less e = ap is_lt (o.trans a b x e (less_from _ less))
      by_order Equal e = ap is_lt (o.congr a b x e) ∙ less
      by_order Greater e = let clash = sym not_less ∙ ap is_lt (o.antisymm b a ∙ ap ordering_reverse e) in cc

  not_below_itself : (a : K) → is_lt (cmp a a) ≡ false
  not_below_itself a = ap is_lt (tied_itself o a)

  each_at : (P : X → Type 0) (items : List X) (i : ℕ) (d : X) → Each P items → i < length items → P (get_or items i d)
  each_at P [] i d all lt = absurd (omega arith)
  each_at P (item ∷ items) zero d all lt = all.0
  each_at P (item ∷ items) (suc i) d all lt = each_at P items i d all.1 (omega arith)

  not_above : (items : List X) (i j : ℕ) (d : X) → InOrder key cmp items → i ≤ j → j < length items → is_lt (cmp (key (get_or items j d)) (key (get_or items i d))) ≡ false
  not_above [] i j d h le lt = absurd (omega arith)
  not_above (item ∷ items) zero zero d h le lt = not_below_itself (key item)
  not_above (item ∷ items) zero (suc j) d h le lt = each_at (λ other. is_lt (cmp (key other) (key item)) ≡ false) items j d h.0 (omega arith)
  not_above (item ∷ items) (suc i) zero d h le lt = absurd (omega arith)
  not_above (item ∷ items) (suc i) (suc j) d h le lt = not_above items i j d h.1 (omega arith) (omega arith)

  -- ---- where a search by halves ends
  -- those above an item stand behind the others
  pub partitioned_above : (items : List X) (item : X) → InOrder key cmp items → IsPartitionedBy (λ other. not (is_lt (cmp (key item) (key other)))) items
  partitioned_above items item h i j d le lt passes = by_test (is_lt (cmp (key item) (key (get_or items i d)))) refl
    where
      by_test : (t : Bool) → is_lt (cmp (key item) (key (get_or items i d))) ≡ t → not (is_lt (cmp (key item) (key (get_or items i d)))) ≡ true
      by_test true less = let up = low_trans (key item) _ _ (not_above items i j d h le lt) less in let clash = sym (not-true _ passes) ∙ up in cc
      by_test false not_less = ap not not_less

  -- those below an item stand before the others
  pub partitioned_below : (items : List X) (item : X) → InOrder key cmp items → IsPartitionedBy (λ other. is_lt (cmp (key other) (key item))) items
  partitioned_below items item h i j d le lt passes = high_trans (key item) _ _ (not_above items i j d h le lt) passes

  pub placed-at : (items : List X) (item : X) (at : ℕ) → at ≤ length items
      → AllWithin (λ other. is_lt (cmp (key item) (key other)) ≡ false) items 0 at → AllWithin (λ other. is_lt (cmp (key item) (key other)) ≡ true) items at (length items)
      → placed key cmp items item ≡ insert items at item
  unfolding placed
  placed-at [] item zero le before behind = refl
  placed-at [] item (suc at) le before behind = absurd (omega arith)
  placed-at (other ∷ items) item zero le before behind = cond-true _ _ _ (behind 0 other (omega arith) (omega arith))
  placed-at (other ∷ items) item (suc at) le before behind =
      cond-false _ _ _ (before 0 other (omega arith) (omega arith))
      ∙ ap (λ more. other ∷ more) (placed-at items item at (omega arith) (λ i d low high. before (suc i) d (omega arith) (omega arith)) (λ i d low high. behind (suc i) d (omega arith) (omega arith)))

  pub IsEnd-at : (items : List X) (item : X) (at : ℕ) → at ≤ length items
      → AllWithin (λ other. not (is_lt (cmp (key item) (key other))) ≡ true) items 0 at → AllWithin (λ other. not (is_lt (cmp (key item) (key other))) ≡ false) items at (length items)
      → IsEnd key cmp items item at
  IsEnd-at items item at le before behind = record { in_range = le; above = above; goes = placed-at items item at le (λ i d low high. not-true _ (before i d low high)) above }
    where
      above : AllWithin (λ other. is_lt (cmp (key item) (key other)) ≡ true) items at (length items)
      above i d low high = is_true _ (behind i d low high)
        where
          is_true : (b : Bool) → not b ≡ false → b ≡ true
          is_true true h = refl
          is_true false h = sym h

  -- ---- the list stays in order
  each-placed : (P : X → Type 0) (items : List X) (item : X) → Each P items → P item → Each P (placed key cmp items item)
  unfolding placed
  each-placed P [] item all one = (one, tt)
  each-placed P (other ∷ items) item all one = by_test (is_lt (cmp (key item) (key other))) (each-placed P items item all.1 one)
    where
      by_test : (t : Bool) → Each P (placed key cmp items item) → Each P (cond t (item ∷ other ∷ items) (other ∷ placed key cmp items item))
      by_test true more = (one, all)
      by_test false more = (all.0, more)

  -- below the first, so below none
  below_all : (items : List X) (item other : X) → is_lt (cmp (key item) (key other)) ≡ true → Each (λ one. is_lt (cmp (key one) (key other)) ≡ false) items
      → Each (λ one. is_lt (cmp (key one) (key item)) ≡ false) items
  below_all [] item other less all = tt
  below_all (one ∷ items) item other less all = (by_test (is_lt (cmp (key one) (key item))) refl, below_all items item other less all.1)
    where
      by_test : (t : Bool) → is_lt (cmp (key one) (key item)) ≡ t → is_lt (cmp (key one) (key item)) ≡ false
      by_test true lower = let clash = sym all.0 ∙ ap is_lt (o.trans (key one) (key item) (key other) (less_from _ lower) (less_from _ less)) in cc
      by_test false not_lower = not_lower

  not_turned : (a b : K) → is_lt (cmp a b) ≡ true → is_lt (cmp b a) ≡ false
  not_turned a b less = ap is_lt (o.antisymm b a ∙ ap ordering_reverse (less_from _ less))

  pub InOrder-placed : (items : List X) (item : X) → InOrder key cmp items → InOrder key cmp (placed key cmp items item)
  unfolding placed
  InOrder-placed [] item h = (tt, tt)
  InOrder-placed (other ∷ items) item h = by_test (is_lt (cmp (key item) (key other))) refl (InOrder-placed items item h.1)
    where
      by_test : (t : Bool) → is_lt (cmp (key item) (key other)) ≡ t → InOrder key cmp (placed key cmp items item) → InOrder key cmp (cond t (item ∷ other ∷ items) (other ∷ placed key cmp items item))
      by_test true less more = ((not_turned _ _ less, below_all items item other less h.0), h)
      by_test false not_less more = (each-placed (λ one. is_lt (cmp (key one) (key other)) ≡ false) items item h.0 not_less, more)

  pub InOrder-take : (items : List X) (at : ℕ) → InOrder key cmp items → InOrder key cmp (take at items)
  InOrder-take [] zero h = tt
  InOrder-take [] (suc at) h = tt
  InOrder-take (item ∷ items) zero h = tt
  InOrder-take (item ∷ items) (suc at) h = (each-take items at h.0, InOrder-take items at h.1)
    where
      each-take : (items : List X) (at : ℕ) → Each (λ other. is_lt (cmp (key other) (key item)) ≡ false) items → Each (λ other. is_lt (cmp (key other) (key item)) ≡ false) (take at items)
      each-take [] zero all = tt
      each-take [] (suc at) all = tt
      each-take (other ∷ items) zero all = tt
      each-take (other ∷ items) (suc at) all = (all.0, each-take items at all.1)

  InOrder-fold : (made items : List X) → InOrder key cmp made → InOrder key cmp (fold (λ made item. placed key cmp made item) made items)
  InOrder-fold made [] h = h
  InOrder-fold made (item ∷ items) h = InOrder-fold (placed key cmp made item) items (InOrder-placed made item h)

  pub InOrder-sorted : (items : List X) → InOrder key cmp (sorted key cmp items)
  unfolding sorted
  InOrder-sorted items = InOrder-fold [] items tt

-- ---- one more item to sort
module _ {X K : Type 0} (key : X → K) (cmp : K → K → Ordering) where
  fold-more : (made items : List X) (item : X)
      → fold (λ made item. placed key cmp made item) made (items ++ item ∷ []) ≡ placed key cmp (fold (λ made item. placed key cmp made item) made items) item
  fold-more made [] item = refl
  fold-more made (other ∷ items) item = fold-more (placed key cmp made other) items item

  pub sorted-none : sorted key cmp [] ≡ []
  unfolding sorted
  sorted-none = refl

  pub sorted-more : (items : List X) (item : X) → sorted key cmp (items ++ item ∷ []) ≡ placed key cmp (sorted key cmp items) item
  unfolding sorted
  sorted-more items item = fold-more [] items item

  -- a test finds in the list with one more item what it finds there or in that item
  pub list_any-placed : (test : X → Bool) (items : List X) (item : X) → list_any test (placed key cmp items item) ≡ (test item || list_any test items)
  unfolding placed
  list_any-placed test [] item = refl
  list_any-placed test (other ∷ items) item = by_test (is_lt (cmp (key item) (key other))) (list_any-placed test items item)
    where
      turned : (a b c : Bool) → (a || (b || c)) ≡ (b || (a || c))
      turned true true c = refl
      turned true false c = refl
      turned false b c = refl

      by_test : (t : Bool) → list_any test (placed key cmp items item) ≡ (test item || list_any test items)
          → list_any test (cond t (item ∷ other ∷ items) (other ∷ placed key cmp items item)) ≡ (test item || (test other || list_any test items))
      by_test true more = refl
      by_test false more = ap (λ b. test other || b) more ∙ turned (test other) (test item) (list_any test items)

  list_any-fold : (test : X → Bool) (made items : List X) → list_any test (fold (λ made item. placed key cmp made item) made items) ≡ (list_any test made || list_any test items)
  list_any-fold test made [] = by_test (list_any test made)
    where
      by_test : (b : Bool) → b ≡ (b || false)
      by_test true = refl
      by_test false = refl
  list_any-fold test made (item ∷ items) =
      list_any-fold test (placed key cmp made item) items ∙ ap (λ b. b || list_any test items) (list_any-placed test made item) ∙ turned (test item) (list_any test made) (list_any test items)
    where
      turned : (a b c : Bool) → ((a || b) || c) ≡ (b || (a || c))
      turned true true c = refl
      turned true false c = refl
      turned false b c = refl

  -- a sorted list has what the list has
  pub list_any-sorted : (test : X → Bool) (items : List X) → list_any test (sorted key cmp items) ≡ list_any test items
  unfolding sorted
  list_any-sorted test items = list_any-fold test [] items

-- ---- a test that fails from an index on, or before it
pub list_any-front : {X : Type 0} (test : X → Bool) (items : List X) (at : ℕ) → AllWithin (λ item. test item ≡ false) items at (length items) → list_any test items ≡ list_any test (take at items)
list_any-front test [] zero none = refl
list_any-front test [] (suc at) none = refl
list_any-front test (item ∷ items) zero none =
    ap (λ b. b || list_any test items) (none 0 item (omega arith) (omega arith)) ∙ list_any-front test items zero (λ i d low high. none (suc i) d (omega arith) (omega arith))
list_any-front test (item ∷ items) (suc at) none =
    ap (λ b. test item || b) (list_any-front test items at (λ i d low high. none (suc i) d (omega arith) (omega arith)))

pub list_any-back : {X : Type 0} (test : X → Bool) (items : List X) (at : ℕ) → at ≤ length items → AllWithin (λ item. test item ≡ false) items 0 at → list_any test items ≡ list_any test (drop at items)
list_any-back test [] zero le none = refl
list_any-back test [] (suc at) le none = refl
list_any-back test (item ∷ items) zero le none = refl
list_any-back test (item ∷ items) (suc at) le none =
    ap (λ b. b || list_any test items) (none 0 item (omega arith) (omega arith))
    ∙ list_any-back test items at (omega arith) (λ i d low high. none (suc i) d (omega arith) (omega arith))
