use Rattle.std.proofs.Common.{◌≡◌, length}
use Rattle.eris_check.specs.ReportForms.{have_no_guard}
use Rattle.eris_check.proofs.plan_line.have_no_guard.Given as goal

abbrev pub invariant-loop-word : goal.invariant-loop-word
invariant-loop-word l = have_no_guard l.words ≡ have_no_guard l.fn.words

abbrev pub decreases-loop-word : goal.decreases-loop-word
decreases-loop-word l = length l.words
