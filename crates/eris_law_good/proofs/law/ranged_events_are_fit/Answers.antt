use Rattle.eris_law_good.proofs.Ranged.{ranged_fits}
use Rattle.eris_law_good.proofs.law.ranged_events_are_fit.Goals as goal

pub returns : goal.returns
returns c = record { ranged = ranged_fits }
