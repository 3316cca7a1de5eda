use Rattle.std.proofs.Common.{arith}
use Rattle.eris_law_agreement.proofs.Reduction.{own_events, is_epoch_run}
use Rattle.eris_law_agreement.proofs.law.each_epoch_is_a_run.Goals as goal

pub returns-clause-reduction : goal.returns-clause-reduction
returns-clause-reduction c = λ config events last epoch. (own_events config events last epoch, is_epoch_run config events last epoch)

pub returns-clause-reached : goal.returns-clause-reached
returns-clause-reached c = λ config events k epoch. (own_events config events k epoch, (is_epoch_run config events k epoch).alone k (omega arith))
