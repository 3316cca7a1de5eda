use Rattle.eris_image.proofs.Steps.{after-push}
use Rattle.eris_image.proofs.law.inputs_step_the_coordinator.Goals as goal

pub returns-clause-more : goal.returns-clause-more
returns-clause-more c = after-push
