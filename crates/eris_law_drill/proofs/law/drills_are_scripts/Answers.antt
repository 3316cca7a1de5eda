use Rattle.eris_law_drill.proofs.DrillScripts.{drill_cut, drill_is_script}
use Rattle.eris_law_drill.proofs.DrillSizes.{drill_short}
use Rattle.eris_law_drill.proofs.law.drills_are_scripts.Goals as goal

pub returns-clause-lines : goal.returns-clause-lines
returns-clause-lines c = drill_cut

pub returns-clause-script : goal.returns-clause-script
returns-clause-script c = drill_is_script

pub returns-clause-short : goal.returns-clause-short
returns-clause-short c = drill_short
