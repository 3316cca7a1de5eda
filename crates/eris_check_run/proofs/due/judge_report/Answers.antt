use Rattle.eris_check_run.proofs.Judging.{verdicts_due}
use Rattle.eris_check_run.proofs.due.judge_report.Goals as goal

pub returns : goal.returns
returns c = verdicts_due _ _ _ _ _ c.in_ok-verdict.ensures.verdict c.as_slice.ensures c.as_slice-2.ensures c.tell_verdict.ensures
