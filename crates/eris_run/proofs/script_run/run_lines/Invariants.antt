use Rattle.std.proofs.Common.{length}
use Rattle.eris_run.proofs.LineRuns.{HasRun}
use Rattle.eris_run.proofs.script_run.run_lines.Given as goal

abbrev pub invariant-loop-rest : goal.invariant-loop-rest
invariant-loop-rest l = HasRun l.version l.fn.world l.world l.text l.rest l.number

abbrev pub decreases-loop-rest : goal.decreases-loop-rest
decreases-loop-rest l = length l.rest
