use Rattle.std.proofs.Common.{refl}
use Rattle.eris_live_list.proofs.Examples.{one_served, one_submission, three_marks, two_alarms, two_others}
use Rattle.eris_live_list.proofs.law.small_journals_are_cut_and_counted.Goals as goal

pub returns-clause-others : goal.returns-clause-others
returns-clause-others c = two_others

pub returns-clause-alarms : goal.returns-clause-alarms
returns-clause-alarms c = two_alarms

pub returns-clause-submissions : goal.returns-clause-submissions
returns-clause-submissions c = one_submission

pub returns-clause-first : goal.returns-clause-first
returns-clause-first c = λ first second third. refl

pub returns-clause-empty : goal.returns-clause-empty
returns-clause-empty c = λ first second third. refl

pub returns-clause-last : goal.returns-clause-last
returns-clause-last c = λ first second third. refl

pub returns-clause-marks : goal.returns-clause-marks
returns-clause-marks c = three_marks

pub returns-clause-served : goal.returns-clause-served
returns-clause-served c = one_served
