use Rattle.eris_law_course.proofs.Courses.{event_from, event_to, submits_agree}
use Rattle.eris_law_course.proofs.Merged.{history_with, is_new, submits_well}
use Rattle.eris_law_course.proofs.law.histories_are_merged.Goals as goal

pub returns-clause-from : goal.returns-clause-from
returns-clause-from c = event_from

pub returns-clause-to : goal.returns-clause-to
returns-clause-to c = event_to

pub returns-clause-agree : goal.returns-clause-agree
returns-clause-agree c = submits_agree

pub returns-clause-new : goal.returns-clause-new
returns-clause-new c = is_new

pub returns-clause-well : goal.returns-clause-well
returns-clause-well c = submits_well

pub returns-clause-with_each : goal.returns-clause-with_each
returns-clause-with_each c = history_with
