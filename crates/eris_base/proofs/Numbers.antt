-- Numbers up to a bound, and their list. Used where a run or a count goes one step on.
use Rattle.std.proofs.Common.{◌≡◌, ◌⊎◌, ◌≤◌, ◌+◌, ℕ, suc, [], ◌∷◌, ◌++◌, map-id, sym, ap, ◌∙◌, List, arith}
use Rattle.std.specs.List.{range_with_len}
use Rattle.std.proofs.lemmas.List.FromFn.{map-range_with_len_more}

-- a number up to the next is no greater than this one, or is the next
pub last_or : (j k : ℕ) → j ≤ suc k → (j ≤ k) ⊎ (j ≡ suc k)
last_or j k h = grind arith

-- the numbers from 0 on, with one more
pub range_more : (n : ℕ) → range_with_len 0 (n + 1) ≡ range_with_len 0 n ++ n ∷ []
range_more n =
    sym (map-id (range_with_len 0 (n + 1)))
    ∙ map-range_with_len_more (λ (number : ℕ). number) 0 n n (omega arith)
    ∙ ap (λ (numbers : List ℕ). numbers ++ n ∷ []) (map-id (range_with_len 0 n))
