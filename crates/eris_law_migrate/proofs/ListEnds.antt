-- Where a list of words ends, and what stands before and behind the last space of a line.
use Rattle.std.proofs.Common.{◌≡◌, ℕ, ◌+◌, ◌-◌, ◌<◌, Bool, true, false, not, List, [], ◌∷◌, ◌++◌, reverse, length, take, drop, sym, ap, subst, ◌∙◌, append_assoc, append-nil, length-append, take_at, drop_at, zero-add, arith, refl}
use Rattle.std.specs.List.{after_last, before_last, list_all, prefix_len, suffix_len}
use Rattle.std.proofs.lemmas.Bool.{and_from, cond-false, cond-true, not_from_true}
use Rattle.std.proofs.lemmas.List.{length_push, length-reverse, reverse-append}
use Rattle.eris_base.proofs.Booleans.{left_of, right_of}

module _ {X : Type 0} (p : X → Bool) where
  all-append : (xs ys : List X) → list_all p xs ≡ true → list_all p ys ≡ true → list_all p (xs ++ ys) ≡ true
  all-append [] ys left right = right
  all-append (x ∷ xs) ys left right =
      and_from (p x) (list_all p (xs ++ ys)) (left_of (p x) (list_all p xs) left) (all-append xs ys (right_of (p x) (list_all p xs) left) right)

  all-reverse : (xs : List X) → list_all p xs ≡ true → list_all p (reverse xs) ≡ true
  all-reverse [] all = refl
  all-reverse (x ∷ xs) all =
      ap (list_all p) (reverse-append (x ∷ []) xs)
      ∙ all-append (reverse xs) (x ∷ []) (all-reverse xs (right_of (p x) (list_all p xs) all)) (and_from (p x) true (left_of (p x) (list_all p xs) all) refl)

  prefix-append : (xs ys : List X) → list_all p xs ≡ true → prefix_len p (xs ++ ys) ≡ length xs + prefix_len p ys
  prefix-append [] ys all = sym (zero-add _)
  prefix-append (x ∷ xs) ys all =
      let more = prefix-append xs ys (right_of (p x) (list_all p xs) all) in
      cond-true (p x) _ 0 (left_of (p x) (list_all p xs) all) ∙ omega arith

  suffix_at : (xs : List X) (y : X) (ys : List X) → p y ≡ false → list_all p ys ≡ true → suffix_len p (xs ++ y ∷ ys) ≡ length ys
  suffix_at xs y ys stop all =
      let turned : reverse (xs ++ y ∷ ys) ≡ reverse ys ++ (y ∷ reverse xs) =
      reverse-append xs (y ∷ ys) ∙ ap (λ zs. zs ++ reverse xs) (reverse-append (y ∷ []) ys) ∙ append_assoc (reverse ys) (y ∷ []) (reverse xs) in
      let none : prefix_len p (y ∷ reverse xs) ≡ 0 = cond-false (p y) _ 0 stop in
      ap (prefix_len p) turned ∙ prefix-append (reverse ys) _ (all-reverse ys all) ∙ omega (arith, length-reverse ys)

module _ {X : Type 0} (p : X → Bool) where
  pub before_last_at : (xs : List X) (y : X) (ys : List X) → p y ≡ true → list_all (λ x. not (p x)) ys ≡ true → before_last p (xs ++ y ∷ ys) ≡ xs
  before_last_at xs y ys here all =
      take_at xs (y ∷ ys) _ (omega (arith, suffix_at (λ x. not (p x)) xs y ys (not_from_true _ here) all, length-append xs (y ∷ ys)))

  pub after_last_at : (xs : List X) (y : X) (ys : List X) → p y ≡ true → list_all (λ x. not (p x)) ys ≡ true → after_last p (xs ++ y ∷ ys) ≡ ys
  after_last_at xs y ys here all =
      let n = length (xs ++ y ∷ ys) - suffix_len (λ x. not (p x)) (xs ++ y ∷ ys) in
      ap (drop n) (sym (append_assoc xs (y ∷ []) ys))
      ∙ drop_at (xs ++ y ∷ []) ys n (omega (arith, suffix_at (λ x. not (p x)) xs y ys (not_from_true _ here) all, length-append xs (y ∷ ys), length_push xs y))
