use Rattle.std.proofs.Common.{[], take}
use Rattle.eris_base.specs.Each.{EachAfter}
use Rattle.eris_audit.specs.IsSerial.{IsToldOutcome}
use Rattle.eris_audit.specs.Verdicts.{alone}
use Rattle.eris_audit.proofs.rules.first_wrong_told.Given as goal

abbrev pub invariant-loop-place : goal.invariant-loop-place
invariant-loop-place l = EachAfter (alone (IsToldOutcome l.table)) [] (take l.place l.events)
