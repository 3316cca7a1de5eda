use Rattle.eris_check.proofs.MisfitLaws.{nothing_misfits}
use Rattle.eris_check.proofs.law.no_bytes_misfit_at_one.Goals as goal

pub returns : goal.returns
returns c = nothing_misfits
