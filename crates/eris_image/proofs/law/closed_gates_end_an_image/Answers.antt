use Rattle.eris_image.proofs.Records.{front_decides}
use Rattle.eris_image.proofs.law.closed_gates_end_an_image.Goals as goal

pub returns : goal.returns
returns c = front_decides
