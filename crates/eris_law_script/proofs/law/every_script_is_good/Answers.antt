use Rattle.eris_law_script.proofs.Fit.{good_script}
use Rattle.eris_law_script.proofs.law.every_script_is_good.Goals as goal

pub returns : goal.returns
returns c = record { script = good_script }
