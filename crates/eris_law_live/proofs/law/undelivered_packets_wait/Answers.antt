use Rattle.eris_law_live.proofs.Waiting.{run_waits}
use Rattle.eris_law_live.proofs.law.undelivered_packets_wait.Goals as goal

pub returns-clause-crashed : goal.returns-clause-crashed
returns-clause-crashed c = λ events world live runs. (run_waits events world live runs).calm

pub returns-clause-waiting : goal.returns-clause-waiting
returns-clause-waiting c = λ events world live runs. (run_waits events world live runs).waits

pub returns-clause-sent : goal.returns-clause-sent
returns-clause-sent c = λ events world number live runs is. (run_waits events world live runs).low number is
