use Rattle.eris_law_schedules.proofs.Answered.{said_ever_after, was_answered}
use Rattle.eris_law_schedules.proofs.law.answers_are_said_ever_after.Goals as goal

pub returns-clause-answered : goal.returns-clause-answered
returns-clause-answered c = was_answered

pub returns-clause-said : goal.returns-clause-said
returns-clause-said c = said_ever_after
