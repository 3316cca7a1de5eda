use Rattle.eris_law_epoch.proofs.Moments.{later, cause}
use Rattle.eris_law_epoch.proofs.law.nothing_is_undone.Goals as goal

pub returns-clause-growth : goal.returns-clause-growth
returns-clause-growth c = later

pub returns-clause-cause : goal.returns-clause-cause
returns-clause-cause c = cause
