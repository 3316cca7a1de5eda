use Rattle.std.proofs.Common.{refl}
use Rattle.eris_law_schedules.proofs.Opened.{all_rules}
use Rattle.eris_law_schedules.proofs.law.quorums_close_without_learners.Goals as goal

pub returns-clause-accepted : goal.returns-clause-accepted
unfolding all_rules
returns-clause-accepted c = refl

pub returns-clause-history : goal.returns-clause-history
unfolding all_rules
returns-clause-history c = refl

pub returns-clause-crashed : goal.returns-clause-crashed
unfolding all_rules
returns-clause-crashed c = refl

pub returns-clause-other : goal.returns-clause-other
unfolding all_rules
returns-clause-other c = refl

pub returns-clause-order : goal.returns-clause-order
unfolding all_rules
returns-clause-order c = refl
