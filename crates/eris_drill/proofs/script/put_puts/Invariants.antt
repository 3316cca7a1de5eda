use Rattle.std.proofs.Common.{◌≡◌, ◌++◌, ◌∷◌, [], ℕ}
use Rattle.eris_grammar.specs.declared.line.Line.TheVariants.{One}
use Rattle.eris_drill.specs.DrillLines.{below, opening_put}
use Rattle.eris_drill.proofs.script.put_puts.Given as goal

abbrev pub invariant-loop-number : goal.invariant-loop-number
invariant-loop-number l = l.lines ≡ l.fn.lines ++ below (λ (number : ℕ). One (opening_put number) ∷ []) l.number
