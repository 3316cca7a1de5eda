use Rattle.eris_law_key.proofs.Drops.{first_dropped}
use Rattle.eris_law_epoch.proofs.FineWorlds.{all_fine}
use Rattle.eris_law_key.proofs.law.drops_are_agreed.Goals as goal

pub returns-clause-apart : goal.returns-clause-apart
returns-clause-apart c = λ system events k place packet dropped found. (all_fine system events k).apart.dropped place packet dropped found

pub returns-clause-first : goal.returns-clause-first
returns-clause-first c = first_dropped
