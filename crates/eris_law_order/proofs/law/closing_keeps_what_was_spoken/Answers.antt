use Rattle.eris_law_agreement.proofs.Reduction.{own_events, is_epoch_run}
use Rattle.eris_law_order.proofs.SpokenClosed.{spoken_closed, closed_below_current, closed_stamped}
use Rattle.eris_law_order.proofs.law.closing_keeps_what_was_spoken.Goals as goal

pub returns-clause-spoken : goal.returns-clause-spoken
returns-clause-spoken c = λ config events last epoch. (
  own_events config events last epoch,
  is_epoch_run config events last epoch,
  λ k shard view n m packet le past low high there stamped number clear up. spoken_closed config events last epoch k le shard view n m packet past low high there stamped number clear up,
)

pub returns-clause-below : goal.returns-clause-below
returns-clause-below c = closed_below_current

pub returns-clause-stamped : goal.returns-clause-stamped
returns-clause-stamped c = closed_stamped
