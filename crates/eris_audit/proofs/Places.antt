use Rattle.std.proofs.Common.{◌≡◌, List, [], ◌∷◌, ◌++◌, refl, ap, sym, subst, append_assoc}
use Rattle.std.proofs.lemmas.List.{append-nil}
use Rattle.eris_base.specs.Each.{Each, EachAfter}

-- The properties of each item, as properties of each place of a list: `front ++ x ∷ back`.

each_behind : {X : Type 0} (P : X → Type 0) (front back : List X) (x : X) → Each P (front ++ x ∷ back) → P x
each_behind P [] back x each = each.0
each_behind P (y ∷ front) back x each = each_behind P front back x each.1

pub Each-at : {X : Type 0} (P : X → Type 0) (xs : List X) → Each P xs
    → (front back : List X) (x : X) → xs ≡ front ++ x ∷ back → P x
Each-at P xs each front back x split = each_behind P front back x (subst (Each P) split each)

pub Each-from : {X : Type 0} (P : X → Type 0) (xs : List X)
    → ((front back : List X) (x : X) → xs ≡ front ++ x ∷ back → P x) → Each P xs
Each-from P [] places = tt
Each-from P (x ∷ xs) places =
    (places [] xs x refl, Each-from P xs (λ front back y split. places (x ∷ front) back y (ap (λ l. x ∷ l) split)))

after_behind : {X : Type 0} (P : List X → X → Type 0) (before front back : List X) (x : X)
    → EachAfter P before (front ++ x ∷ back) → P (before ++ front) x
after_behind P before [] back x each = subst (λ l. P l x) (sym (append-nil before)) each.0
after_behind P before (y ∷ front) back x each =
    subst (λ l. P l x) (append_assoc before (y ∷ []) front) (after_behind P (before ++ y ∷ []) front back x each.1)

pub EachAfter-at : {X : Type 0} (P : List X → X → Type 0) (before xs : List X) → EachAfter P before xs
    → (front back : List X) (x : X) → xs ≡ front ++ x ∷ back → P (before ++ front) x
EachAfter-at P before xs each front back x split = after_behind P before front back x (subst (EachAfter P before) split each)

pub EachAfter-from : {X : Type 0} (P : List X → X → Type 0) (before xs : List X)
    → ((front back : List X) (x : X) → xs ≡ front ++ x ∷ back → P (before ++ front) x) → EachAfter P before xs
EachAfter-from P before [] places = tt
EachAfter-from P before (x ∷ xs) places = (
  subst (λ l. P l x) (append-nil before) (places [] xs x refl),
  EachAfter-from P (before ++ x ∷ []) xs (λ front back y split.
      subst (λ l. P l y) (sym (append_assoc before (x ∷ []) front)) (places (x ∷ front) back y (ap (λ l. x ∷ l) split))),
)

-- A list that grows at its end.

pub Each-append : {X : Type 0} (P : X → Type 0) (xs ys : List X) → Each P xs → Each P ys → Each P (xs ++ ys)
Each-append P [] ys each more = more
Each-append P (x ∷ xs) ys each more = (each.0, Each-append P xs ys each.1 more)

pub EachAfter-append : {X : Type 0} (P : List X → X → Type 0) (before xs ys : List X)
    → EachAfter P before xs → EachAfter P (before ++ xs) ys → EachAfter P before (xs ++ ys)
EachAfter-append P before [] ys each more = subst (λ l. EachAfter P l ys) (append-nil before) more
EachAfter-append P before (x ∷ xs) ys each more = (
  each.0,
  EachAfter-append P (before ++ x ∷ []) xs ys each.1 (subst (λ l. EachAfter P l ys) (sym (append_assoc before (x ∷ []) xs)) more),
)
