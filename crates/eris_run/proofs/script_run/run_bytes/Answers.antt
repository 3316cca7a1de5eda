use Rattle.eris_run.proofs.FirstRefusals.{first_at_end}
use Rattle.eris_run.proofs.script_run.run_bytes.Goals as goal

pub returns-clause-first : goal.returns-clause-first
returns-clause-first c = first_at_end c.args.text.now c.run_text.result c.run_text.ensures.bad
