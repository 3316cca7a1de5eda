use Rattle.eris_law_range.proofs.AnswerRanges.{late_answers-fit, answer_after-fits}
use Rattle.eris_law_range.proofs.law.answers_are_in_range.Goals as goal

pub returns-clause-late : goal.returns-clause-late
returns-clause-late c = late_answers-fit

pub returns-clause-prompt : goal.returns-clause-prompt
returns-clause-prompt c = answer_after-fits
