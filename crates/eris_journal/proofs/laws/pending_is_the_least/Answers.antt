use Rattle.eris_journal.proofs.Pending.{pending_says}
use Rattle.eris_journal.proofs.laws.pending_is_the_least.Goals as goal

pub returns : goal.returns
returns c = pending_says
