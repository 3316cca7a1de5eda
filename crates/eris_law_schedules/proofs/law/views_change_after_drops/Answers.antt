use Rattle.std.proofs.Common.{refl}
use Rattle.eris_law_schedules.proofs.Opened.{all_rules}
use Rattle.eris_law_schedules.proofs.law.views_change_after_drops.Goals as goal

pub returns-clause-accepted : goal.returns-clause-accepted
unfolding all_rules
returns-clause-accepted c = refl

pub returns-clause-history : goal.returns-clause-history
unfolding all_rules
returns-clause-history c = refl

pub returns-clause-learner : goal.returns-clause-learner
unfolding all_rules
returns-clause-learner c = refl

pub returns-clause-settled : goal.returns-clause-settled
unfolding all_rules
returns-clause-settled c = refl

pub returns-clause-order : goal.returns-clause-order
unfolding all_rules
returns-clause-order c = refl
