use Rattle.eris_law_live.proofs.Growing.{step_has_no_cause, step_refusal}
use Rattle.eris_law_live.proofs.law.steps_are_taken.Goals as goal

pub returns-clause-cause : goal.returns-clause-cause
returns-clause-cause c = step_has_no_cause

pub returns-clause-refusal : goal.returns-clause-refusal
returns-clause-refusal c = step_refusal
