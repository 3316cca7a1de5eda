use Rattle.std.proofs.Common.{◌≡◌, ◌++◌, ◌*◌}
use Rattle.eris_drill.specs.Draws.{after_words, generator}
use Rattle.eris_drill.specs.DrillLines.{below, turn_lines}
use Rattle.eris_drill.proofs.script.put_turns.Given as goal

abbrev pub invariant-loop-turn : goal.invariant-loop-turn
invariant-loop-turn l =
    (l.lines ≡ l.fn.lines ++ below (turn_lines l.number) l.turn) × (l.draws ≡ after_words (5 * l.turn) (generator l.number))
