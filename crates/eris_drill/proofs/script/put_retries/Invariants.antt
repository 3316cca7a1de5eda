use Rattle.std.proofs.Common.{◌≡◌, ◌++◌}
use Rattle.eris_drill.specs.DrillLines.{below, retry_lines}
use Rattle.eris_drill.proofs.script.put_retries.Given as goal

abbrev pub invariant-loop-turn : goal.invariant-loop-turn
invariant-loop-turn l = l.lines ≡ l.fn.lines ++ below retry_lines l.turn
