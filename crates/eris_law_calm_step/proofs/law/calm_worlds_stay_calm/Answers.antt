use Rattle.eris_law_calm_step.proofs.Stepping.{after_calm, after_flow}
use Rattle.eris_law_calm_step.proofs.law.calm_worlds_stay_calm.Goals as goal

pub returns-clause-event : goal.returns-clause-event
returns-clause-event c = after_calm

pub returns-clause-delivery : goal.returns-clause-delivery
returns-clause-delivery c = after_flow
