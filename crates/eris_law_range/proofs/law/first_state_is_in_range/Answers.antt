use Rattle.eris_law_range.proofs.EpochRanges.{first_state_fits}
use Rattle.eris_law_range.proofs.law.first_state_is_in_range.Goals as goal

pub returns : goal.returns
returns c = first_state_fits
