use Rattle.eris_check_run.proofs.Judging.{one_status}
use Rattle.eris_check_run.proofs.law.ranged_reports_pass.Goals as goal

pub returns-clause-one : goal.returns-clause-one
returns-clause-one c = one_status c.bytes_are_judged.ensures
