use Rattle.eris_law_lines.proofs.EventScripts.{written_script}
use Rattle.eris_law_lines.proofs.law.written_events_are_a_script.Goals as goal

pub returns : goal.returns
returns c = record { script = written_script }
