use Rattle.eris_law_cut.proofs.Settled.{cut_closed, cut_past, cut_prefix}
use Rattle.eris_law_cut.proofs.law.settled_cuts_are_cuts.Goals as goal

pub returns-clause-cut : goal.returns-clause-cut
returns-clause-cut c = cut_closed

pub returns-clause-past : goal.returns-clause-past
returns-clause-past c = cut_past

pub returns-clause-prefix : goal.returns-clause-prefix
returns-clause-prefix c = cut_prefix
