-- Lists of pairs, of what is one node's.
use Rattle.std.proofs.Common.{true≢false, append-nil, append_assoc, lt_of_not-le, ◌≤◌, ◌≡◌, ◌≢◌, ◌⊎◌, ℕ, zero, suc, eqb, Bool, true, false, cond, List, [], ◌∷◌, ◌++◌, length, refl, sym, ap, ◌∙◌, subst, inl, inr, ⊎_elim, arith, eq-eqb, ne_eqb, Some, None}
use mathlib.Core.Option.{some, some-injective, some-ne-none}
use lib.ListN.{get_elem?, set}
use Rattle.atomic_table.proofs.Lists.{at_set}
use Rattle.eris_journal.specs.Lists.{own, own_one, Begins, NamesBelow}

module _ {A : Type 0} where
  -- a number at which a list one longer has something
  pub at_end : (l : List A) (a b : A) (j : ℕ) → get_elem? (l ++ a ∷ []) j ≡ some b → (get_elem? l j ≡ some b) ⊎ ((j ≡ length l) × (a ≡ b))
  at_end [] a b zero e = inr (refl, some-injective a b e)
  at_end [] a b (suc j) e = absurd (some-ne-none b (sym e))
  at_end (x ∷ xs) a b zero e = inl e
  at_end (x ∷ xs) a b (suc j) e = ⊎_elim (λ (t : get_elem? xs j ≡ some b). inl t) (λ (t : (j ≡ length xs) × (a ≡ b)). inr (ap suc t.0, t.1)) (at_end xs a b j e)

  -- what holds of each view after one changed
  pub each_set : (P : ℕ → A → Type 0) (views : List A) (id : ℕ) (w : A) → P id w → ((j : ℕ) (v : A) → j ≢ id → get_elem? views j ≡ some v → P j v)
      → (j : ℕ) (v : A) → get_elem? (set views id w) j ≡ some v → P j v
  each_set P views id w mine others j v e = ⊎_elim
      (λ (t : (j ≡ id) × (w ≡ v)). subst (λ (x : ℕ × A). P x.0 x.1) (λ i. (sym t.0 i, t.1 i)) mine)
      (λ (t : (j ≢ id) × (get_elem? views j ≡ some v)). others j v t.0 t.1)
      (at_set views id j w v e)

  -- a function of numbers that is changed at one
  abbrev pub changed : ℕ → A → (ℕ → A) → ℕ → A
  changed at x f n = cond (eqb n at) x (f n)

  pub changed_here : (at : ℕ) (x : A) (f : ℕ → A) (n : ℕ) → n ≡ at → changed at x f n ≡ x
  changed_here at x f n e = ap (λ (b : Bool). cond b x (f n)) (eq-eqb n at e)

  pub changed_else : (at : ℕ) (x : A) (f : ℕ → A) (n : ℕ) → n ≢ at → changed at x f n ≡ f n
  changed_else at x f n ne = ap (λ (b : Bool). cond b x (f n)) (ne_eqb n at ne)

  pub begins_self : (xs : List A) → Begins xs xs
  begins_self xs = ([], sym (append-nil xs))

  pub begins_then : (xs ys zs : List A) → Begins xs ys → Begins ys zs → Begins xs zs
  begins_then xs ys zs first then = (first.0 ++ then.0, then.1 ∙ ap (λ (l : List A). l ++ then.0) first.1 ∙ append_assoc xs first.0 then.0)

  pub begins_same : (xs ys : List A) → ys ≡ xs → Begins xs ys
  begins_same xs ys same = ([], same ∙ sym (append-nil xs))

abbrev filled : {E : Type 0} → List E → Bool
filled [] = false
filled (x ∷ xs) = true

module _ {E : Type 0} where
  own_first : (node : ℕ) (x : ℕ × E) (xs : List (ℕ × E)) (b : Bool) → eqb x.0 node ≡ b → own node (x ∷ xs) ≡ cond b (x.1 ∷ own node xs) (own node xs)
  own_first node x xs b is = ap (λ (c : Bool). cond c (x.1 ∷ own node xs) (own node xs)) is

  -- the node's own, where one more is the node's, or another's
  pub own_here : (node other : ℕ) (x : E) (xs : List (ℕ × E)) → other ≡ node → own node (xs ++ (other, x) ∷ []) ≡ own node xs ++ x ∷ []
  own_here node other x [] same = own_first node (other, x) [] true (eq-eqb other node same)
  own_here node other x (y ∷ ys) same = step (eqb y.0 node) (own_here node other x ys same)
    where
      step : (b : Bool) → own node (ys ++ (other, x) ∷ []) ≡ own node ys ++ x ∷ [] → cond b (y.1 ∷ own node (ys ++ (other, x) ∷ [])) (own node (ys ++ (other, x) ∷ [])) ≡ cond b (y.1 ∷ own node ys) (own node ys) ++ x ∷ []
      step true e = ap (λ (l : List E). y.1 ∷ l) e
      step false e = e

  pub own_else : (node other : ℕ) (x : E) (xs : List (ℕ × E)) → other ≢ node → own node (xs ++ (other, x) ∷ []) ≡ own node xs
  own_else node other x [] apart = own_first node (other, x) [] false (ne_eqb other node apart)
  own_else node other x (y ∷ ys) apart = step (eqb y.0 node) (own_else node other x ys apart)
    where
      step : (b : Bool) → own node (ys ++ (other, x) ∷ []) ≡ own node ys → cond b (y.1 ∷ own node (ys ++ (other, x) ∷ [])) (own node (ys ++ (other, x) ∷ [])) ≡ cond b (y.1 ∷ own node ys) (own node ys)
      step true e = ap (λ (l : List E). y.1 ∷ l) e
      step false e = e

  pub own_one_here : (node other : ℕ) (x : E) → other ≡ node → own_one node (Some (other, x)) ≡ Some x
  own_one_here node other x same = ap (λ (b : Bool). cond b (Some x) None) (eq-eqb other node same)

  pub own_one_else : (node other : ℕ) (x : E) → other ≢ node → own_one node (Some (other, x)) ≡ None
  own_one_else node other x apart = ap (λ (b : Bool). cond b (Some x) None) (ne_eqb other node apart)

  -- a list names only nodes below a number exactly where no other node has anything in it
  pub none_above : (nodes node : ℕ) (xs : List (ℕ × E)) → NamesBelow nodes xs → nodes ≤ node → own node xs ≡ []
  none_above nodes node [] below above = refl
  none_above nodes node (x ∷ xs) below above =
      own_first node x xs false (ne_eqb x.0 node (λ e. omega (arith, e, below.0, above))) ∙ none_above nodes node xs below.1 above

  pub names_below : (nodes : ℕ) (xs : List (ℕ × E)) → ((node : ℕ) → nodes ≤ node → own node xs ≡ []) → NamesBelow nodes xs
  names_below nodes [] empty = tt
  names_below nodes (x ∷ xs) empty = (
    lt_of_not-le (λ above. full x.1 (own x.0 xs) (sym (own_first x.0 x xs true (eq-eqb x.0 x.0 refl)) ∙ empty x.0 above)),
    names_below nodes xs (λ node above. rest node (eqb x.0 node) (empty node above)),
  )
    where
      full : (y : E) (ys : List E) → y ∷ ys ≡ [] → ⊥
      full y ys e = true≢false (ap filled e)

      rest : (node : ℕ) (b : Bool) → cond b (x.1 ∷ own node xs) (own node xs) ≡ [] → own node xs ≡ []
      rest node true e = absurd (full x.1 (own node xs) e)
      rest node false e = e
