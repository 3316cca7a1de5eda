use Rattle.eris_law_lines.proofs.EventScripts.{script_cut}
use Rattle.eris_law_lines.proofs.law.written_lines_are_cut.Goals as goal

pub returns : goal.returns
returns c = record { lines = script_cut }
