-- A property of each item of a list, where the list is mapped, sorted or searched. The ranges of what the
-- coordinator keeps rest on it.
use Rattle.std.proofs.Common.{Bool, Option, Some, None, List, [], ◌∷◌, map, find, fold, is_some}
use Rattle.std.specs.Prelude.{⊤}
use Rattle.std.specs.List.{flat_map}
use Rattle.std.specs.Ordering.{is_lt}
use Rattle.std.specs.declared.cmp.Ordering.{Ordering}
use Rattle.std.proofs.lemmas.Bool.{cond_both}
use Rattle.eris_base.specs.Each.{Each}
use Rattle.eris_base.proofs.Each.{Each-append}
use Rattle.eris_log.specs.Sorted.{placed, with_item, item_at}
use Rattle.eris_epoch.specs.Sorting.{sorted}

module _ {X : Type 0} (P : X → Type 0) where
  pub Each-map : {Y : Type 0} (g : Y → X) (ys : List Y) → Each (λ y. P (g y)) ys → Each P (map g ys)
  Each-map g [] h = tt
  Each-map g (y ∷ ys) h = (h.0, Each-map g ys h.1)

  pub Each-flat_map : {Y : Type 0} (Q : Y → Type 0) (g : Y → List X) → ((y : Y) → Q y → Each P (g y)) → (ys : List Y) → Each Q ys → Each P (flat_map g ys)
  Each-flat_map Q g k [] h = tt
  Each-flat_map Q g k (y ∷ ys) h = Each-append P (g y) (flat_map g ys) (k y h.0) (Each-flat_map Q g k ys h.1)

  Each-placed : {K : Type 0} (key : X → K) (cmp : K → K → Ordering) (xs : List X) (x : X) → Each P xs → P x → Each P (placed key cmp xs x)
  unfolding placed
  Each-placed key cmp [] x h p = (p, tt)
  Each-placed key cmp (other ∷ xs) x h p =
      cond_both (is_lt (cmp (key x) (key other))) (x ∷ other ∷ xs) (other ∷ placed key cmp xs x) (Each P)
      (λ _. (p, h)) (λ _. (h.0, Each-placed key cmp xs x h.1 p))

  pub Each-with_item : {K : Type 0} (key : X → K) (cmp : K → K → Ordering) (xs : List X) (x : X) → Each P xs → P x → Each P (with_item key cmp xs x)
  unfolding with_item
  Each-with_item key cmp xs x h p =
      cond_both (is_some (item_at key cmp xs (key x))) xs (placed key cmp xs x) (Each P) (λ _. h) (λ _. Each-placed key cmp xs x h p)

  sorted_onto : {K : Type 0} (key : X → K) (cmp : K → K → Ordering) (made xs : List X) → Each P made → Each P xs → Each P (fold (λ front x. placed key cmp front x) made xs)
  sorted_onto key cmp made [] h k = h
  sorted_onto key cmp made (x ∷ xs) h k = sorted_onto key cmp (placed key cmp made x) xs (Each-placed key cmp made x h k.0) k.1

  pub Each-sorted : {K : Type 0} (key : X → K) (cmp : K → K → Ordering) (xs : List X) → Each P xs → Each P (sorted key cmp xs)
  unfolding sorted
  Each-sorted key cmp xs h = sorted_onto key cmp [] xs tt h

  -- the found item, if there is one
  abbrev pub OnFound : Option X → Type 0
  OnFound None = ⊤
  OnFound (Some x) = P x

  pub Each-find : (test : X → Bool) (xs : List X) → Each P xs → OnFound (find test xs)
  Each-find test [] h = tt
  Each-find test (x ∷ xs) h = cond_both (test x) (Some x) (find test xs) OnFound (λ _. h.0) (λ _. Each-find test xs h.1)
