use Rattle.eris_image.proofs.Records.{shut_gate, open_gate}
use Rattle.eris_image.proofs.law.gates_add_one_input.Goals as goal

pub returns-clause-shut : goal.returns-clause-shut
returns-clause-shut c = shut_gate

pub returns-clause-opened : goal.returns-clause-opened
returns-clause-opened c = open_gate
