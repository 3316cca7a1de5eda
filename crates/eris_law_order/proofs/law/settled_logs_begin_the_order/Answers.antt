use Rattle.eris_law_order.proofs.SettledFronts.{settled_right, settled_begins}
use Rattle.eris_law_order.proofs.law.settled_logs_begin_the_order.Goals as goal

pub returns-clause-settled : goal.returns-clause-settled
returns-clause-settled c = settled_right

pub returns-clause-later : goal.returns-clause-later
returns-clause-later c = settled_begins
