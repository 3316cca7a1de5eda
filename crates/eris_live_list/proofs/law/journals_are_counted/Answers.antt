use Rattle.eris_live_list.proofs.Counts.{alarms-append, all_counted, others-append, submissions-append}
use Rattle.eris_live_list.proofs.law.journals_are_counted.Goals as goal

pub returns-clause-all : goal.returns-clause-all
returns-clause-all c = all_counted

pub returns-clause-others : goal.returns-clause-others
returns-clause-others c = others-append

pub returns-clause-alarms : goal.returns-clause-alarms
returns-clause-alarms c = alarms-append

pub returns-clause-submissions : goal.returns-clause-submissions
returns-clause-submissions c = submissions-append
