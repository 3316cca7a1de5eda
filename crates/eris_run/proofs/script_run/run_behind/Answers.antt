use Rattle.eris_run.proofs.LineRuns.{refused_from_start, taken_from_start}
use Rattle.eris_run.proofs.script_run.run_behind.Goals as goal

pub returns-in-Ok-clause-ok : goal.returns-in-Ok-clause-ok
returns-in-Ok-clause-ok c = taken_from_start c.in_ok-world.ensures.value c.in-Ok.ensures.ok

pub returns-in-Err-clause-bad : goal.returns-in-Err-clause-bad
returns-in-Err-clause-bad c = refused_from_start _ _ _ c.in_ok-world.ensures.value c.in-Err.ensures.bad
