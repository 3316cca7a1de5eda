use Rattle.eris_law_key.proofs.Settles.{settled_by, settled_same, settled_held}
use Rattle.eris_law_key.proofs.law.settled_stays.Goals as goal

pub returns-clause-settled : goal.returns-clause-settled
returns-clause-settled c = settled_by

pub returns-clause-kept : goal.returns-clause-kept
returns-clause-kept c = settled_same

pub returns-clause-held : goal.returns-clause-held
returns-clause-held c = settled_held
