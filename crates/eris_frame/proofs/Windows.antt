-- Parts of two lists joined, as parts of each.
use Rattle.std.proofs.Common.{◌≡◌, ℕ, ◌+◌, ◌-◌, ◌<◌, ◌≤◌, min, List, [], ◌∷◌, ◌++◌, length, get_or, take, drop, refl, sym, ap, subst, ◌∙◌, arith, inl, inr}
use Rattle.std.proofs.lemmas.Bool.{cases_lt}
use Rattle.std.proofs.lemmas.List.{take_all, take_min, drop_min, drop_all, take-append-le, drop-append-le, length-drop, append-nil, drop_more, length-append, take_rest}
use Rattle.std.proofs.Math.Seq.{take-append-add, drop-append-add}

pub window_is : {X : Type 0} (xs : List X) (from count : ℕ) → take (min count (length (drop (min from (length xs)) xs))) (drop (min from (length xs)) xs) ≡ take count (drop from xs)
window_is xs from count = take_min count (drop (min from (length xs)) xs) ∙ ap (λ ys. take count ys) (drop_min from xs)

take_both : {X : Type 0} (n : ℕ) (xs ys : List X) → take n (xs ++ ys) ≡ take n xs ++ take (n - length xs) ys
take_both {X = X} n xs ys =
    elim (cases_lt n (length xs)) [
      | inl lt ↦
          let none : n - length xs ≡ 0 = omega arith in
          take-append-le n xs ys (omega arith) ∙ sym (append-nil (take n xs)) ∙ ap (λ (k : ℕ). take n xs ++ take k ys) (sym none)
      | inr le ↦
          let more : length xs + (n - length xs) ≡ n = omega arith in
          ap (λ (k : ℕ). take k (xs ++ ys)) (sym more) ∙ take-append-add xs ys (n - length xs) ∙ ap (λ (zs : List X). zs ++ take (n - length xs) ys) (sym (take_all n xs le))
    ]

drop_both : {X : Type 0} (n : ℕ) (xs ys : List X) → drop n (xs ++ ys) ≡ drop n xs ++ drop (n - length xs) ys
drop_both {X = X} n xs ys =
    elim (cases_lt n (length xs)) [
      | inl lt ↦
          let none : n - length xs ≡ 0 = omega arith in
          drop-append-le n xs ys (omega arith) ∙ ap (λ (k : ℕ). drop n xs ++ drop k ys) (sym none)
      | inr le ↦
          let more : length xs + (n - length xs) ≡ n = omega arith in
          ap (λ (k : ℕ). drop k (xs ++ ys)) (sym more) ∙ drop-append-add xs ys (n - length xs) ∙ ap (λ (zs : List X). zs ++ drop (n - length xs) ys) (sym (drop_all n xs le))
    ]

-- some items of a joined list, from a place on
pub part_of_joined : {X : Type 0} (xs ys : List X) (from count : ℕ)
    → take count (drop from xs) ++ take (count - (length xs - from)) (drop (from - length xs) ys) ≡ take count (drop from (xs ++ ys))
part_of_joined {X = X} xs ys from count =
    ap (λ (k : ℕ). take count (drop from xs) ++ take (count - k) (drop (from - length xs) ys)) (sym (length-drop from xs))
    ∙ sym (take_both count (drop from xs) (drop (from - length xs) ys))
    ∙ ap (λ (zs : List X). take count zs) (sym (drop_both from xs ys))

drop_step : (xs : List ℕ) (at next : ℕ) → at < length xs → at + 1 ≡ next → drop at xs ≡ get_or xs at 0 ∷ drop next xs
drop_step xs at next lt e = subst (λ (n : ℕ). drop at xs ≡ get_or xs at 0 ∷ drop n xs) e (drop_more xs at 0 lt)

-- the first four items from a place on
pub four_from : (xs : List ℕ) (at : ℕ) → at + 4 ≤ length xs
    → take 4 (drop at xs) ≡ get_or xs at 0 ∷ get_or xs (at + 1) 0 ∷ get_or xs (at + 2) 0 ∷ get_or xs (at + 3) 0 ∷ []
four_from xs at h =
    let a = drop_step xs at (at + 1) (omega arith) refl in
    let b = drop_step xs (at + 1) (at + 2) (omega arith) (omega arith) in
    let c = drop_step xs (at + 2) (at + 3) (omega arith) (omega arith) in
    let d = drop_step xs (at + 3) (at + 4) (omega arith) (omega arith) in
    ap (λ (zs : List ℕ). take 4 zs) (a ∙ ap (λ (zs : List ℕ). get_or xs at 0 ∷ zs) (b ∙ ap (λ (zs : List ℕ). get_or xs (at + 1) 0 ∷ zs) (c ∙ ap (λ (zs : List ℕ). get_or xs (at + 2) 0 ∷ zs) d)))

-- all that is left from a place on
pub rest_whole : {X : Type 0} (xs ys : List X) (at : ℕ) → take (length xs + length ys - at) (drop at (xs ++ ys)) ≡ drop at (xs ++ ys)
rest_whole {X = X} xs ys at =
    ap (λ (n : ℕ). take (n - at) (drop at (xs ++ ys))) (sym (length-append xs ys)) ∙ take_rest (xs ++ ys) at
