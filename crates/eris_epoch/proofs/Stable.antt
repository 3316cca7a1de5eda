-- Sorting keeps the order of items that tie.
use Rattle.std.proofs.Common.{◌≡◌, Bool, true, false, not, ◌&&◌, cond, List, [], ◌∷◌, ◌++◌, refl, ap, sym, ◌∙◌, append_assoc}
use Rattle.std.proofs.lemmas.Bool.{and_parts, cond-false, not-true}
use Rattle.std.proofs.lemmas.List.{append-nil}
use Rattle.std.specs.Cmp.{IsTotalOrder}
use Rattle.std.specs.List.{fold, filter}
use Rattle.std.specs.List.Sorted.{ties, IsStableByKey}
use Rattle.std.specs.Ordering.{is_lt}
use Rattle.std.specs.declared.cmp.Ordering.{Ordering}
use Rattle.eris_base.specs.Each.{Each}
use Rattle.eris_log.specs.Sorted.{placed}
use Rattle.eris_epoch.specs.Sorting.{sorted, InOrder}
use Rattle.eris_epoch.proofs.SortLaws.{low_trans, high_trans, InOrder-placed}

module _ {X K : Type 0} (key : X → K) {cmp : K → K → Ordering} (o : IsTotalOrder cmp) where
  abbrev tied : X → X → Bool
  tied x item = ties (λ x y. is_lt (cmp (key x) (key y))) x item

  -- what ties with an item isn't above it, so what is above that isn't tied
  not_tied : (x item other : X) → tied x item ≡ true → is_lt (cmp (key item) (key other)) ≡ true → tied x other ≡ false
  not_tied x item other tie less =
      let parts = and_parts _ _ tie in
      let above = high_trans key o (key other) (key x) (key item) (not-true _ parts.1) less in
      ap (λ b. not b && not (is_lt (cmp (key other) (key x)))) above

  above_all : (item other : X) (items : List X) → is_lt (cmp (key item) (key other)) ≡ true → Each (λ one. is_lt (cmp (key one) (key other)) ≡ false) items
      → Each (λ one. is_lt (cmp (key item) (key one)) ≡ true) items
  above_all item other [] less all = tt
  above_all item other (one ∷ items) less all = (low_trans key o (key item) (key other) (key one) all.0 less, above_all item other items less all.1)

  none_tied : (x item : X) (items : List X) → tied x item ≡ true → Each (λ one. is_lt (cmp (key item) (key one)) ≡ true) items → filter (tied x) items ≡ []
  none_tied x item [] tie all = refl
  none_tied x item (one ∷ items) tie all = cond-false _ (one ∷ filter (tied x) items) _ (not_tied x item one tie all.0) ∙ none_tied x item items tie all.1

  -- one more item comes behind those that tie with it
  filter-placed : (x : X) (items : List X) (item : X) → InOrder key cmp items → filter (tied x) (placed key cmp items item) ≡ filter (tied x) items ++ cond (tied x item) (item ∷ []) []
  unfolding placed
  filter-placed x [] item h = refl
  filter-placed x (other ∷ items) item h = by_test (is_lt (cmp (key item) (key other))) refl (filter-placed x items item h.1)
    where
      first : (s : Bool) (rest : List X) → (s ≡ true → rest ≡ []) → cond s (item ∷ rest) rest ≡ rest ++ cond s (item ∷ []) []
      first true rest none = ap (λ more. item ∷ more) (none refl) ∙ sym (ap (λ more. more ++ item ∷ []) (none refl))
      first false rest none = sym (append-nil rest)

      later : (r : Bool) → filter (tied x) (placed key cmp items item) ≡ filter (tied x) items ++ cond (tied x item) (item ∷ []) []
          → cond r (other ∷ filter (tied x) (placed key cmp items item)) (filter (tied x) (placed key cmp items item)) ≡ cond r (other ∷ filter (tied x) items) (filter (tied x) items) ++ cond (tied x item) (item ∷ []) []
      later true more = ap (λ rest. other ∷ rest) more
      later false more = more

      by_test : (t : Bool) → is_lt (cmp (key item) (key other)) ≡ t → filter (tied x) (placed key cmp items item) ≡ filter (tied x) items ++ cond (tied x item) (item ∷ []) []
          → filter (tied x) (cond t (item ∷ other ∷ items) (other ∷ placed key cmp items item)) ≡ filter (tied x) (other ∷ items) ++ cond (tied x item) (item ∷ []) []
      by_test true less more = first (tied x item) (filter (tied x) (other ∷ items)) (λ tie. none_tied x item (other ∷ items) tie (less, above_all item other items less h.0))
      by_test false not_less more = later (tied x other) more

  stable-fold : (x : X) (made items : List X) → InOrder key cmp made → filter (tied x) (fold (λ made item. placed key cmp made item) made items) ≡ filter (tied x) made ++ filter (tied x) items
  stable-fold x made [] h = sym (append-nil (filter (tied x) made))
  stable-fold x made (item ∷ items) h =
      stable-fold x (placed key cmp made item) items (InOrder-placed key o made item h)
      ∙ ap (λ front. front ++ filter (tied x) items) (filter-placed x made item h)
      ∙ append_assoc (filter (tied x) made) _ (filter (tied x) items)
      ∙ ap (λ back. filter (tied x) made ++ back) (by_test (tied x item))
    where
      by_test : (t : Bool) → cond t (item ∷ []) [] ++ filter (tied x) items ≡ cond t (item ∷ filter (tied x) items) (filter (tied x) items)
      by_test true = refl
      by_test false = refl

  pub IsStable-sorted : (items : List X) → IsStableByKey key cmp items (sorted key cmp items)
  unfolding sorted
  IsStable-sorted items x = stable-fold x [] items tt
