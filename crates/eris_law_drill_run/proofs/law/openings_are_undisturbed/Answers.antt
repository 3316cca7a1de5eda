use Rattle.eris_law_script.proofs.Lines.{undisturbed_lines}
use Rattle.eris_drill.specs.DrillLines.{bank, opening}
use Rattle.eris_law_drill_run.proofs.Opening.{opening_answered, opening_undisturbed}
use Rattle.eris_law_drill_run.proofs.law.openings_are_undisturbed.Goals as goal

pub returns-clause-lines : goal.returns-clause-lines
returns-clause-lines c = opening_undisturbed

pub returns-clause-events : goal.returns-clause-events
returns-clause-events c = undisturbed_lines bank opening opening_undisturbed

pub returns-clause-answered : goal.returns-clause-answered
returns-clause-answered c = opening_answered
