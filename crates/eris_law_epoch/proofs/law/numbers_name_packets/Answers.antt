use Rattle.eris_law_epoch.proofs.FineWorlds.{all_fine}
use Rattle.eris_law_epoch.proofs.Members.{Each-at}
use Rattle.eris_law_epoch.proofs.StampList.{stamps}
use Rattle.eris_law_epoch.proofs.law.numbers_name_packets.Goals as goal

pub returns-clause-stamps : goal.returns-clause-stamps
returns-clause-stamps c = stamps

pub returns-clause-held : goal.returns-clause-held
returns-clause-held c = λ system events k shard replica. (all_fine system events k).replicas shard replica

pub returns-clause-sent : goal.returns-clause-sent
returns-clause-sent c = λ system events k one i. Each-at _ _ one (all_fine system events k).sent i
