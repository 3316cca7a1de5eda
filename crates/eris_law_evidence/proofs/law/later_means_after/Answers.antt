use Rattle.eris_law_evidence.proofs.OldPackets.{behind, order_stamped}
use Rattle.eris_law_evidence.proofs.law.later_means_after.Goals as goal

pub returns-clause-behind : goal.returns-clause-behind
returns-clause-behind c = behind

pub returns-clause-stamped : goal.returns-clause-stamped
returns-clause-stamped c = order_stamped
