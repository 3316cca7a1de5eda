use Rattle.eris_law_good.proofs.Evident.{evidence}
use Rattle.eris_law_good.proofs.law.runs_have_evidence.Goals as goal

pub returns : goal.returns
returns c = record { evidence = evidence }
