use Rattle.eris_drill.specs.DrillLines.{bank}
use Rattle.eris_drill.specs.DrillText.{drill_text}
use Rattle.eris_law_drill.specs.Reading.{drill_events}
use Rattle.eris_law_drill_run.proofs.Outcomes.{drill_limit, drill_ran}
use Rattle.eris_law_drill.proofs.DrillScripts.{drill_is_script}
use Rattle.eris_run.proofs.Completeness.{script_runs}
use Rattle.eris_law_drill_run.proofs.law.drills_end.Goals as goal

pub returns-clause-ran : goal.returns-clause-ran
returns-clause-ran c = drill_ran

pub returns-clause-limit : goal.returns-clause-limit
returns-clause-limit c = drill_limit

pub returns-clause-accepted : goal.returns-clause-accepted
returns-clause-accepted c = λ number few world ran.
    script_runs (drill_text number) (record { config = bank; events = drill_events number }) world (drill_is_script number few) ran
