-- A property of each item of a list.
use Rattle.eris_base.specs.Each.{Each}
use Rattle.std.proofs.Common.{Bool, List, [], cond, false, true, ◌++◌, ◌∷◌}
use Rattle.std.specs.List.{filter, AllByRecursion}

module _ {X : Type 0} (P : X → Type 0) where
  pub Each-left : (xs ys : List X) → Each P (xs ++ ys) → Each P xs
  Each-left [] ys h = tt
  Each-left (x ∷ xs) ys h = (h.0, Each-left xs ys h.1)

  pub Each-right : (xs ys : List X) → Each P (xs ++ ys) → Each P ys
  Each-right [] ys h = h
  Each-right (x ∷ xs) ys h = Each-right xs ys h.1

  pub Each-append : (xs ys : List X) → Each P xs → Each P ys → Each P (xs ++ ys)
  Each-append [] ys h k = k
  Each-append (x ∷ xs) ys h k = (h.0, Each-append xs ys h.1 k)

  -- one element changes
  pub Each-changed : (xs : List X) (x y : X) (ys : List X) → Each P (xs ++ x ∷ ys) → P y → Each P (xs ++ y ∷ ys)
  Each-changed [] x y ys h p = (p, h.1)
  Each-changed (z ∷ xs) x y ys h p = (h.0, Each-changed xs x y ys h.1 p)

  -- what holds of everything
  pub Each-any : ((x : X) → P x) → (xs : List X) → Each P xs
  Each-any holds [] = tt
  Each-any holds (x ∷ xs) = (holds x, Each-any holds xs)

  pub Each-weaker : (Q : X → Type 0) → ((x : X) → P x → Q x) → (xs : List X) → Each P xs → Each Q xs
  Each-weaker Q f [] h = tt
  Each-weaker Q f (x ∷ xs) h = (f x h.0, Each-weaker Q f xs h.1)

  pub Each-with : (Q R : X → Type 0) → ((x : X) → P x → Q x → R x) → (xs : List X) → Each P xs → Each Q xs → Each R xs
  Each-with Q R f [] h k = tt
  Each-with Q R f (x ∷ xs) h k = (f x h.0 k.0, Each-with Q R f xs h.1 k.1)

  pub Each-filter : (test : X → Bool) (xs : List X) → Each P xs → Each P (filter test xs)
  Each-filter test [] h = tt
  Each-filter test (x ∷ xs) h = by_test (test x) (Each-filter test xs h.1)
    where
      by_test : (t : Bool) → Each P (filter test xs) → Each P (cond t (x ∷ filter test xs) (filter test xs))
      by_test true k = (h.0, k)
      by_test false k = k

-- the same of lists that std's predicate speaks of
pub All-append : {X : Type 0} (P : X → Type 0) (xs ys : List X) → AllByRecursion P xs → AllByRecursion P ys → AllByRecursion P (xs ++ ys)
All-append P [] ys h k = k
All-append P (x ∷ xs) ys h k = (h.0, All-append P xs ys h.1 k)
