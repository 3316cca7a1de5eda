use Rattle.eris_law_past.proofs.Standing.{lines_decided, lines_stand, outcomes_stand, part_origins, results_stand, shard_concluded, values_stand}
use Rattle.eris_law_past.proofs.law.pasts_stand.Goals as goal

pub returns-clause-origins : goal.returns-clause-origins
returns-clause-origins c = part_origins

pub returns-clause-concluded : goal.returns-clause-concluded
returns-clause-concluded c = shard_concluded

pub returns-clause-values : goal.returns-clause-values
returns-clause-values c = values_stand

pub returns-clause-lines : goal.returns-clause-lines
returns-clause-lines c = lines_stand

pub returns-clause-decided : goal.returns-clause-decided
returns-clause-decided c = lines_decided

pub returns-clause-outcomes : goal.returns-clause-outcomes
returns-clause-outcomes c = outcomes_stand

pub returns-clause-results : goal.returns-clause-results
returns-clause-results c = results_stand
