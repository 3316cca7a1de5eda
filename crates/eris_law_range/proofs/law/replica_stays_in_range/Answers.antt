use Rattle.eris_law_range.proofs.EpochRanges.{replica_step_fits}
use Rattle.eris_law_range.proofs.law.replica_stays_in_range.Goals as goal

pub returns : goal.returns
returns c = replica_step_fits
