use Rattle.eris_law_live.proofs.Nodes.{node_there, number_back}
use Rattle.eris_law_live.proofs.law.nodes_have_numbers.Goals as goal

pub returns-clause-numbers : goal.returns-clause-numbers
returns-clause-numbers c = number_back

pub returns-clause-nodes : goal.returns-clause-nodes
returns-clause-nodes c = node_there
