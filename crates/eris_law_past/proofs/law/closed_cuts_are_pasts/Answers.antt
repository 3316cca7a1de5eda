use Rattle.eris_law_past.proofs.CutPasts.{part_on, part_past, prefix_on}
use Rattle.eris_law_past.proofs.law.closed_cuts_are_pasts.Goals as goal

pub returns-clause-past : goal.returns-clause-past
returns-clause-past c = part_past

pub returns-clause-prefix : goal.returns-clause-prefix
returns-clause-prefix c = part_on

pub returns-clause-taken : goal.returns-clause-taken
returns-clause-taken c = prefix_on
