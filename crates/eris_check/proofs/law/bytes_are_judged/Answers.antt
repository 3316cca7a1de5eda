use Rattle.eris_check.proofs.MisfitLaws.{judged}
use Rattle.eris_check.proofs.law.bytes_are_judged.Goals as goal

pub returns : goal.returns
returns c = judged
