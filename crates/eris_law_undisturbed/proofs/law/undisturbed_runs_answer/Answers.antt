use Rattle.eris_law_undisturbed.proofs.Answered.{first_answers, submissions_there, undisturbed_answers}
use Rattle.eris_law_undisturbed.proofs.law.undisturbed_runs_answer.Goals as goal

pub returns-clause-answers : goal.returns-clause-answers
returns-clause-answers c = undisturbed_answers

pub returns-clause-first : goal.returns-clause-first
returns-clause-first c = first_answers

pub returns-clause-submitted : goal.returns-clause-submitted
returns-clause-submitted c = submissions_there
