use Rattle.std.proofs.Common.{refl}
use Rattle.eris_law_schedules.proofs.Opened.{all_rules}
use Rattle.eris_law_schedules.proofs.law.epochs_are_skipped.Goals as goal

pub returns-clause-accepted : goal.returns-clause-accepted
unfolding all_rules
returns-clause-accepted c = refl

pub returns-clause-history : goal.returns-clause-history
unfolding all_rules
returns-clause-history c = refl

pub returns-clause-stamped : goal.returns-clause-stamped
unfolding all_rules
returns-clause-stamped c = refl

pub returns-clause-began : goal.returns-clause-began
unfolding all_rules
returns-clause-began c = refl
