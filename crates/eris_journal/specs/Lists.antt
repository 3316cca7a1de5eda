-- Lists of pairs of a node's number and what is the node's, in the order in which it came.
use Rattle.std.specs.Prelude.{◌≡◌, ◌==◌, ◌⊎◌, ℕ, zero, suc, ◌<◌, List, [], ◌∷◌, ◌++◌, Option, None, Some, if◌then◌else◌, ◌+◌}
use Rattle.eris_base.specs.Each.{Each}

-- what is the node's, in order
abbrev pub own : {E : Type 0} → ℕ → List (ℕ × E) → List E
own node [] = []
own node (x ∷ xs) = if x.0 == node then x.1 ∷ own node xs else own node xs

-- the one thing there is, where it is the node's
abbrev pub own_one : {E : Type 0} → ℕ → Option (ℕ × E) → Option E
own_one node None = None
own_one node (Some x) = if x.0 == node then Some x.1 else None

-- the item stands in the list
abbrev pub Has : {A : Type 0} → List A → A → Type 0
Has [] x = ⊥
Has (y ∷ ys) x = (y ≡ x) ⊎ Has ys x

-- the list begins with that one
abbrev pub Begins : {A : Type 0} → List A → List A → Type 0
Begins {A} first xs = (more : List A) × (xs ≡ first ++ more)

-- all of it is of nodes below the number
abbrev pub NamesBelow : {E : Type 0} → ℕ → List (ℕ × E) → Type 0
NamesBelow nodes xs = Each (λ x. x.0 < nodes) xs

-- the weights of all items, added up
abbrev pub weigh : {E : Type 0} → (E → ℕ) → List E → ℕ
weigh weight [] = 0
weigh weight (x ∷ xs) = weight x + weigh weight xs

-- a function's values below the number, added up
abbrev pub total : (ℕ → ℕ) → ℕ → ℕ
total f zero = 0
total f (suc n) = total f n + f n
