use Rattle.eris_law_report.proofs.Reports.{run_reported, script_reported}
use Rattle.eris_law_report.proofs.law.reports_are_in_range.Goals as goal

pub returns-clause-run : goal.returns-clause-run
returns-clause-run c = run_reported

pub returns-clause-script : goal.returns-clause-script
returns-clause-script c = script_reported
