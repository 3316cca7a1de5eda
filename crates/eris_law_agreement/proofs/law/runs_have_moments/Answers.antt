use Rattle.eris_law_agreement.proofs.Moments.{front_accepted, run-moment}
use Rattle.eris_law_agreement.proofs.law.runs_have_moments.Goals as goal

pub returns-clause-last : goal.returns-clause-last
returns-clause-last c = run-moment

pub returns-clause-front : goal.returns-clause-front
returns-clause-front c = front_accepted
