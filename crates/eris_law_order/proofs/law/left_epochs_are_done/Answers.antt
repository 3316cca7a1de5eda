use Rattle.eris_law_order.proofs.LaterStamps.{closed_back, later_epoch}
use Rattle.eris_law_order.proofs.law.left_epochs_are_done.Goals as goal

pub returns-clause-closed : goal.returns-clause-closed
returns-clause-closed c = closed_back

pub returns-clause-later : goal.returns-clause-later
returns-clause-later c = later_epoch
