use Rattle.eris_drill.specs.DrillLines.{bank}
use Rattle.eris_law_drill.specs.Reading.{drill_events}
use Rattle.eris_law_drill_run.proofs.Money.{drill_taken}
use Rattle.eris_law_drill_run.proofs.Taken.{refused_by_limit, taken_accepted}
use Rattle.eris_law_drill_run.proofs.law.drills_are_taken.Goals as goal

pub returns-clause-taken : goal.returns-clause-taken
returns-clause-taken c = drill_taken

pub returns-clause-accepted : goal.returns-clause-accepted
returns-clause-accepted c = λ number. taken_accepted bank (drill_events number) (drill_taken number)

pub returns-clause-limits : goal.returns-clause-limits
returns-clause-limits c = λ number front event back world cut ran.
    refused_by_limit bank (drill_events number) front event back world (drill_taken number) cut ran
