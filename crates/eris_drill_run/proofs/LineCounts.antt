-- A drill has no more lines than bytes. Used where its lines are counted.
use Rattle.std.proofs.Common.{◌≤◌, ℕ, List, [], ◌∷◌, ◌++◌, length, length-append, arith, codes, lit≤}
use Rattle.eris_grammar.specs.declared.line.Line.{Line}
use Rattle.eris_drill.specs.DrillLines.{drill_lines}
use Rattle.eris_drill.specs.DrillText.{drill_text, line_text, lines_text}
use Rattle.eris_law_drill.proofs.DrillSizes.{drill_short}

lines_counted : (said : List Line) → length said ≤ length (lines_text said)
lines_counted [] = lit≤ tt
lines_counted (line ∷ said) =
    let more = lines_counted said in
    let ended = length-append (line_text line) (10 ∷ []) in
    let whole = length-append (line_text line ++ 10 ∷ []) (lines_text said) in
    omega (arith, more, ended, whole)

pub lines_few : (number : ℕ) → number ≤ 500 → length (drill_lines number) ≤ 4194304
unfolding drill_text
lines_few number few =
    let counted = lines_counted (drill_lines number) in
    let short = drill_short number few in
    let whole = length-append (codes "eris 1 4 1 8" ++ 10 ∷ []) (lines_text (drill_lines number)) in
    omega (arith, counted, short, whole)
