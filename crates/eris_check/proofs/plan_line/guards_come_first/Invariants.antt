use Rattle.std.proofs.Common.{◌≡◌, length}
use Rattle.eris_check.specs.ReportForms.{guards_come_first}
use Rattle.eris_check.proofs.plan_line.guards_come_first.Given as goal

abbrev pub invariant-loop-word : goal.invariant-loop-word
invariant-loop-word l = guards_come_first l.words ≡ guards_come_first l.fn.words

abbrev pub decreases-loop-word : goal.decreases-loop-word
decreases-loop-word l = length l.words
