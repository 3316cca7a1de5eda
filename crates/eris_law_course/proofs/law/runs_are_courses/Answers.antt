use Rattle.eris_law_course.proofs.Calls.{aborts_others, accepted}
use Rattle.eris_law_course.proofs.Courses.{asked_by, own_course}
use Rattle.eris_law_course.proofs.Delivered.{delivered}
use Rattle.eris_law_course.proofs.law.runs_are_courses.Goals as goal

pub returns-clause-accepted : goal.returns-clause-accepted
returns-clause-accepted c = accepted

pub returns-clause-course : goal.returns-clause-course
returns-clause-course c = own_course

pub returns-clause-fair : goal.returns-clause-fair
returns-clause-fair c = aborts_others

pub returns-clause-came : goal.returns-clause-came
returns-clause-came c = delivered

pub returns-clause-asked : goal.returns-clause-asked
returns-clause-asked c = asked_by
