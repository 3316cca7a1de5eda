-- What is drawn for a turn is in its bounds, and the turns of a drill one by one: used by the code that makes the script.
use Rattle.std.proofs.Common.{◌≡◌, ◌<◌, ◌+◌, ◌%◌, ℕ, List, ◌++◌, sym, refl, arith, subst, add-one}
use Rattle.eris_drill.specs.declared.turn.Turn.{Turn}
use Rattle.eris_drill.specs.Draws.{turn_at, turn_from}
use Rattle.eris_drill.specs.DrillLines.{below}

below_bound : (word : ℕ) → word % 16 < 16
below_bound word = omega arith

below_other : (word : ℕ) → word % 15 < 15
below_other word = omega arith

pub payer_fits : (number turn : ℕ) → (turn_at number turn).payer < 16
unfolding turn_at turn_from
payer_fits number turn = below_bound _

pub distance_fits : (number turn : ℕ) → (turn_at number turn).distance < 15
unfolding turn_at turn_from
distance_fits number turn = below_other _

-- the same of a turn that was drawn
pub drawn_payer : (drawn : Turn) (number turn : ℕ) → drawn ≡ turn_at number turn → drawn.payer < 16
drawn_payer drawn number turn is = subst (λ (one : Turn). one.payer < 16) (sym is) (payer_fits number turn)

pub drawn_distance : (drawn : Turn) (number turn : ℕ) → drawn ≡ turn_at number turn → drawn.distance < 15
drawn_distance drawn number turn is = subst (λ (one : Turn). one.distance < 15) (sym is) (distance_fits number turn)

-- one more
pub below_more : {X : Type 0} (lines : ℕ → List X) (n : ℕ) → below lines (n + 1) ≡ below lines n ++ lines n
unfolding below
below_more lines n = simp (add-one) refl
