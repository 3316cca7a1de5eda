-- A property of each item that the numbers below n stand for.
use Rattle.std.proofs.Common.{◌<◌, ℕ, zero, suc, List, arith}
use Rattle.eris_base.specs.Each.{Each}
use Rattle.eris_base.proofs.Each.{Each-append}
use Rattle.eris_drill.specs.DrillLines.{below}

pub each_below : {X : Type 0} (P : X → Type 0) (items : ℕ → List X) (n : ℕ) → ((k : ℕ) → k < n → Each P (items k)) → Each P (below items n)
unfolding below
each_below P items zero each = tt
each_below P items (suc n) each = Each-append P (below items n) (items n) (each_below P items n (λ k low. each k (step k n low))) (each n (last n))
  where
    step : (k m : ℕ) → k < m → k < suc m
    step k m low = omega (arith, low)

    last : (m : ℕ) → m < suc m
    last m = omega arith
