use Rattle.std.proofs.Common.{◌≡◌, ◌++◌, take}
use Rattle.eris_drill.specs.DrillText.{lines_text}
use Rattle.eris_drill.proofs.script.put_lines.Given as goal

abbrev pub invariant-loop-line : goal.invariant-loop-line
invariant-loop-line l = l.out ≡ l.fn.out ++ lines_text (take l.line-index l.lines)
