-- A list of which no item passes a test, after one item is replaced. Used for nodes of which one may be spent.
use Rattle.std.proofs.Common.{◌≡◌, ◌<◌, ◌||◌, ℕ, zero, suc, Bool, true, false, List, [], ◌∷◌, length, refl, ap, ◌∙◌, arith}
use Rattle.std.specs.Prelude.{slice_set}
use Rattle.std.specs.List.{list_any}

neither : (a b : Bool) → (a || b) ≡ false → (a ≡ false) × (b ≡ false)
neither true b h = absurd cc
neither false b h = (refl, h)

alone : (a b : Bool) → b ≡ false → (a || b) ≡ a
alone true b h = refl
alone false b h = h

-- some item passes exactly where the new one does
pub any_set : {X : Type 0} (test : X → Bool) (items : List X) (i : ℕ) (next : X) → list_any test items ≡ false → i < length items → list_any test (slice_set items i next) ≡ test next
any_set test [] i next none lt = absurd (omega (arith, lt))
any_set test (one ∷ items) zero next none lt = alone (test next) (list_any test items) (neither (test one) (list_any test items) none).1
any_set test (one ∷ items) (suc i) next none lt =
    let none_is = neither (test one) (list_any test items) none in
    ap (λ (z : Bool). z || list_any test (slice_set items i next)) none_is.0 ∙ any_set test items i next none_is.1 (omega (arith, lt))
