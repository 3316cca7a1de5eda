use Rattle.std.proofs.Common.{[], take}
use Rattle.eris_base.specs.Each.{EachAfter}
use Rattle.eris_audit.specs.IsSerial.{EqualsRun}
use Rattle.eris_audit.specs.Verdicts.{alone}
use Rattle.eris_audit.proofs.run.first_off_run.Given as goal

abbrev pub invariant-loop-place : goal.invariant-loop-place
invariant-loop-place l = EachAfter (alone (EqualsRun l.history l.table)) [] (take l.place l.events)
