use Rattle.eris_law_live.proofs.Owners.{book_owned}
use Rattle.eris_law_live.proofs.law.packets_are_delivered_by_their_nodes.Goals as goal

pub returns : goal.returns
returns c = record { own = book_owned }
