use Rattle.eris_law_agreement.proofs.EpochInvariants.{holds_at}
use Rattle.eris_law_agreement.proofs.Growth.{epoch_rises, promise_rises, current_rises, target_rises, sent_kept, stamped_kept, closed_kept}
use Rattle.eris_law_agreement.proofs.law.epochs_never_fall.Goals as goal

pub returns-clause-epoch : goal.returns-clause-epoch
returns-clause-epoch c = epoch_rises

pub returns-clause-promise : goal.returns-clause-promise
returns-clause-promise c = promise_rises

pub returns-clause-current : goal.returns-clause-current
returns-clause-current c = current_rises

pub returns-clause-target : goal.returns-clause-target
returns-clause-target c = target_rises

pub returns-clause-sent : goal.returns-clause-sent
returns-clause-sent c = sent_kept

pub returns-clause-stamped : goal.returns-clause-stamped
returns-clause-stamped c = stamped_kept

pub returns-clause-closed : goal.returns-clause-closed
returns-clause-closed c = closed_kept

pub returns-clause-within : goal.returns-clause-within
returns-clause-within c = λ config events k shard replica. ((holds_at config events k).replicas shard replica).epoch

pub returns-clause-prior : goal.returns-clause-prior
returns-clause-prior c = λ config events k shard replica. ((holds_at config events k).replicas shard replica).prior
