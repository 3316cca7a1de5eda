use Rattle.eris_law_queue.proofs.Freed.{holder_left, waiting_left}
use Rattle.eris_law_queue.proofs.Chosen.{chosen_suffice}
use Rattle.eris_law_queue.proofs.law.releases_need_no_more.Goals as goal

pub returns-clause-holder : goal.returns-clause-holder
returns-clause-holder c = holder_left

pub returns-clause-waiting : goal.returns-clause-waiting
returns-clause-waiting c = waiting_left

pub returns-clause-release : goal.returns-clause-release
returns-clause-release c = chosen_suffice
