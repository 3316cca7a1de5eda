-- Lists read at a place.
use Rattle.std.proofs.Common.{◌≡◌, ◌≢◌, ℕ, zero, suc, ◌+◌, ◌<◌, ◌≤◌, List, [], ◌∷◌, ◌++◌, map, length, get_or, refl, sym, ap, ◌∙◌, subst, arith, Some, slice_get}
use mathlib.Core.Logic.{dite}
use native.Mathlib.Decide.{ℕ_discrete}
use Rattle.eris_base.specs.Each.{Each}
use Rattle.eris_journal.proofs.Books.{none_is_not}
use Rattle.eris_journal.proofs.Calls.{some_same}

module _ {A : Type 0} where
  -- what is read with a default is what stands there
  pub get_is : (xs : List A) (k : ℕ) (d x : A) → slice_get xs k ≡ Some x → get_or xs k d ≡ x
  get_is [] k d x e = absurd (none_is_not x e)
  get_is (y ∷ ys) zero d x e = some_same y x e
  get_is (y ∷ ys) (suc k) d x e = get_is ys k d x e

  pub get_there : (xs : List A) (k : ℕ) (d : A) → k < length xs → slice_get xs k ≡ Some (get_or xs k d)
  get_there [] k d low = absurd (omega (arith, low))
  get_there (y ∷ ys) zero d low = refl
  get_there (y ∷ ys) (suc k) d low = get_there ys k d (omega (arith, low))

  pub get_below : (xs : List A) (k : ℕ) (x : A) → slice_get xs k ≡ Some x → k < length xs
  get_below [] k x e = absurd (none_is_not x e)
  get_below (y ∷ ys) zero x e = omega arith
  get_below (y ∷ ys) (suc k) x e = let low = get_below ys k x e in omega (arith, low)

  pub get_front : (xs ys : List A) (k : ℕ) → k < length xs → slice_get (xs ++ ys) k ≡ slice_get xs k
  get_front [] ys k low = absurd (omega (arith, low))
  get_front (x ∷ xs) ys zero low = refl
  get_front (x ∷ xs) ys (suc k) low = get_front xs ys k (omega (arith, low))

  pub each_at : (P : A → Type 0) (xs : List A) (k : ℕ) (x : A) → Each P xs → slice_get xs k ≡ Some x → P x
  each_at P [] k x each e = absurd (none_is_not x e)
  each_at P (y ∷ ys) zero x each e = subst P (some_same y x e) each.0
  each_at P (y ∷ ys) (suc k) x each e = each_at P ys k x each.1 e

module _ {A B : Type 0} (f : A → B) where
  pub map_at : (xs : List A) (k : ℕ) (x : A) → slice_get xs k ≡ Some x → slice_get (map f xs) k ≡ Some (f x)
  map_at [] k x e = absurd (none_is_not x e)
  map_at (y ∷ ys) zero x e = ap (λ (z : A). Some (f z)) (some_same y x e)
  map_at (y ∷ ys) (suc k) x e = map_at ys k x e

  pub map_from : (xs : List A) (k : ℕ) (y : B) → slice_get (map f xs) k ≡ Some y → (x : A) × (slice_get xs k ≡ Some x) × (f x ≡ y)
  map_from [] k y e = absurd (none_is_not y e)
  map_from (x ∷ xs) zero y e = (x, refl, some_same (f x) y e)
  map_from (x ∷ xs) (suc k) y e = map_from xs k y e

-- a list of pairs that is looked through for a node
module _ (pairs : List (ℕ × ℕ)) where
  pub at_node : (place node : ℕ) (d : ℕ × ℕ) → place < length pairs → (get_or pairs place d).0 ≡ node → (byte : ℕ) × (slice_get pairs place ≡ Some (node, byte))
  at_node place node d low is = ((get_or pairs place d).1, get_there pairs place d low ∙ (λ i. Some (is i, (get_or pairs place d).1)))

  abbrev pub NoneFrom : ℕ → ℕ → ℕ → Type 0
  NoneFrom from here node = (place : ℕ) (pair : ℕ × ℕ) → from ≤ place → place < here → slice_get pairs place ≡ Some pair → pair.0 ≢ node

  pub one_more : (from here node : ℕ) (d : ℕ × ℕ) → (get_or pairs here d).0 ≢ node → NoneFrom from here node → NoneFrom from (here + 1) node
  one_more from here node d apart before place pair above below is goes = dite (ℕ_discrete place here)
      (λ (same : place ≡ here). apart (ap (λ (x : ℕ × ℕ). x.0) (get_is pairs here d pair (ap (slice_get pairs) (sym same) ∙ is)) ∙ goes))
      (λ (other : place ≢ here). before place pair above (omega (arith, below, other)) is goes)

  pub none_there : (from here node : ℕ) → length pairs ≤ here → NoneFrom from here node → (place : ℕ) (pair : ℕ × ℕ) → from ≤ place → slice_get pairs place ≡ Some pair → pair.0 ≢ node
  none_there from here node end before place pair above is = let low = get_below pairs place pair is in before place pair above (omega (arith, low, end)) is
