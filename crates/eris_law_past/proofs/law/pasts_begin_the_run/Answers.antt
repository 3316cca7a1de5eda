use Rattle.eris_law_past.proofs.Beginnings.{answers_begin}
use Rattle.eris_law_past.proofs.law.pasts_begin_the_run.Goals as goal

pub returns : goal.returns
returns c = record { answers = answers_begin }
