use Rattle.eris_law_queue.proofs.Orderly.{run_is_orderly}
use Rattle.eris_law_queue.proofs.law.states_are_orderly.Goals as goal

pub returns : goal.returns
returns c = run_is_orderly
