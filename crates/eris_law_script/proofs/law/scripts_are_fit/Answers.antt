use Rattle.eris_law_script.proofs.Fit.{line_fits, script_fits}
use Rattle.eris_law_script.proofs.law.scripts_are_fit.Goals as goal

pub returns-clause-lines : goal.returns-clause-lines
returns-clause-lines c = line_fits

pub returns-clause-scripts : goal.returns-clause-scripts
returns-clause-scripts c = script_fits
