use Rattle.eris_law_worker.proofs.Delivering.{book_delivers}
use Rattle.eris_law_worker.proofs.law.own_deliveries_are_all.Goals as goal

pub returns : goal.returns
returns c = book_delivers
