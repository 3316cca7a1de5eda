use Rattle.std.proofs.Common.{refl}
use Rattle.eris_law_schedules.proofs.Opened.{all_rules}
use Rattle.eris_law_schedules.proofs.law.sequencers_go_on.Goals as goal

pub returns-clause-accepted : goal.returns-clause-accepted
unfolding all_rules
returns-clause-accepted c = refl

pub returns-clause-lengths : goal.returns-clause-lengths
unfolding all_rules
returns-clause-lengths c = refl

pub returns-clause-settled : goal.returns-clause-settled
unfolding all_rules
returns-clause-settled c = refl

pub returns-clause-began : goal.returns-clause-began
unfolding all_rules
returns-clause-began c = refl

pub returns-clause-history : goal.returns-clause-history
unfolding all_rules
returns-clause-history c = refl

pub returns-clause-stamped : goal.returns-clause-stamped
unfolding all_rules
returns-clause-stamped c = refl

pub returns-clause-order : goal.returns-clause-order
unfolding all_rules
returns-clause-order c = refl
