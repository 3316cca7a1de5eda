use Rattle.eris_law_undisturbed.proofs.Starting.{calm_start}
use Rattle.eris_law_undisturbed.proofs.law.first_world_is_calm.Goals as goal

pub returns : goal.returns
returns c = record { start = calm_start }
