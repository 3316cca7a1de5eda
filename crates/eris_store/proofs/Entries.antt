-- Ordered entries: one more behind all others; and what is put for an id.
use Rattle.std.proofs.Common.{◌≡◌, List, [], ◌∷◌, ◌++◌, append_assoc, refl, ap, sym, ◌∙◌, subst}
use Rattle.std.specs.BTreeMap.{insert_entry}
use Rattle.std.specs.Cmp.{IsTotalOrder}
use Rattle.std.specs.List.{AllByRecursion}
use Rattle.std.specs.List.Sorted.{IsStrictlySortedBy}
use Rattle.std.specs.Map.{keys_of}
use Rattle.std.specs.Ordering.{match_ordering, ordering_reverse}
use Rattle.std.specs.declared.cmp.Ordering.{Ordering}
use Rattle.std.specs.declared.cmp.Ordering.TheVariants.{Less}

module _ {K X : Type 0} (cmp : K → K → Ordering) (total : IsTotalOrder cmp) where
  -- the first key is below one that stands behind it
  below_it : (first key : K) (value : X) (before after : List (K × X)) → AllByRecursion (λ other. cmp first other ≡ Less) (keys_of (before ++ (key, value) ∷ after))
      → cmp first key ≡ Less
  below_it first key value [] after h = h.0
  below_it first key value (entry ∷ before) after h = below_it first key value before after h.1

  -- ONE MORE ENTRY, whose key is above all others, goes to the end
  pub put_last : (before after : List (K × X)) (key : K) (value : X) → IsStrictlySortedBy cmp (keys_of (before ++ (key, value) ∷ after))
      → insert_entry cmp before key value ≡ before ++ (key, value) ∷ []
  unfolding IsStrictlySortedBy
  put_last [] after key value sorted = refl
  put_last (entry ∷ before) after key value sorted =
      ap (λ (order : Ordering). match_ordering order ((key, value) ∷ entry ∷ before) ((entry.0, value) ∷ before) (entry ∷ insert_entry cmp before key value))
      (total.antisymm key entry.0 ∙ ap ordering_reverse (below_it entry.0 key value before after sorted.0))
      ∙ ap (λ (more : List (K × X)). entry ∷ more) (put_last before after key value sorted.1)

  -- one more entry is copied
  pub copied_on : (from made new rest left : List (K × X)) (key : K) (value copy : X) → IsStrictlySortedBy cmp (keys_of from)
      → made ++ rest ≡ from → rest ≡ (key, value) ∷ left → copy ≡ value → new ≡ insert_entry cmp made key copy → new ++ left ≡ from
  copied_on from made new rest left key value copy sorted so_far next same put =
      ap (λ (more : List (K × X)). more ++ left)
      (put ∙ put_last made left key copy (subst (λ (all : List (K × X)). IsStrictlySortedBy cmp (keys_of all)) (sym all_is) sorted))
      ∙ append_assoc made ((key, copy) ∷ []) left
      ∙ all_is
    where
      all_is : made ++ (key, copy) ∷ left ≡ from
      all_is = ap (λ (v : X). made ++ (key, v) ∷ left) same ∙ ap (λ (more : List (K × X)). made ++ more) (sym next) ∙ so_far
