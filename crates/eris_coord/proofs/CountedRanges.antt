-- What is said for each number of a range, with one number more.
use Rattle.std.proofs.Common.{◌≡◌, ◌+◌, ◌∷◌, [], ◌++◌, ℕ, List, ap, ◌∙◌}
use Rattle.std.specs.List.{flat_map, range_with_len}
use Rattle.std.proofs.lemmas.List.{append-nil}
use Rattle.std.proofs.lemmas.Grind.{flat_map-append}
use Rattle.eris_base.proofs.Numbers.{range_more}

pub flat_map-range_more : {X : Type 0} (f : ℕ → List X) (n : ℕ) → flat_map f (range_with_len 0 (n + 1)) ≡ flat_map f (range_with_len 0 n) ++ f n
flat_map-range_more f n =
    ap (flat_map f) (range_more n)
    ∙ flat_map-append f (range_with_len 0 n) (n ∷ [])
    ∙ ap (λ rest. flat_map f (range_with_len 0 n) ++ rest) (append-nil (f n))
