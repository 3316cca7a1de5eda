use Rattle.std.proofs.Common.{arith}
use Rattle.std.proofs.lemmas.Grind.{common_steps}
use Rattle.std.proofs.lemmas.List.Sums.{length-filter}
use Rattle.eris_epoch.proofs.epoch_tally.count_of.Goals as goal

pub returns : goal.returns
returns c = rw (length-filter) (grind (arith, common_steps))
