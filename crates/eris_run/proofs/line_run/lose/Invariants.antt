use Rattle.std.proofs.Common.{replicate}
use Rattle.eris_event.specs.declared.event.Event.TheVariants.{Lose}
use Rattle.eris_run.specs.LineRuns.{Takes}
use Rattle.eris_run.proofs.line_run.lose.Given as goal

abbrev pub invariant-loop : goal.invariant-loop
invariant-loop l = Takes l.fn.world l.world (replicate l.counter Lose) 0
