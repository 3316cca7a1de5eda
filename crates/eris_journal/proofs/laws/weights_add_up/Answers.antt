use Rattle.eris_journal.proofs.Weights.{weigh_by_nodes}
use Rattle.eris_journal.proofs.laws.weights_add_up.Goals as goal

pub returns : goal.returns
returns c = weigh_by_nodes
