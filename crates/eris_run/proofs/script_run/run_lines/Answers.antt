use Rattle.std.proofs.Common.{arith}
use Rattle.std.proofs.lemmas.List.{nil_from_length}
use Rattle.std.proofs.lemmas.Result.{err_from_is_err_and}
use Rattle.eris_run.proofs.LineRuns.{none_run, one_more_run, all_run, bad_stop}
use Rattle.eris_run.proofs.script_run.run_lines.Goals as goal

pub loop-rest-init : goal.loop-rest-init
loop-rest-init c = none_run _ _ _ c.requires.fine

pub returns-in_err-run_line-clause-bad : goal.returns-in_err-run_line-clause-bad
returns-in_err-run_line-clause-bad c =
    let p = err_from_is_err_and c.from_residual.result c.from_residual.ensures.1 in
    rw (p.1, p.2) (bad_stop _ _ c.loop-rest.invariant (c.first_line.ensures.lines (grind arith)) c.in_err-run_line.ensures.bad)

pub loop-rest-preserved : goal.loop-rest-preserved
loop-rest-preserved c = one_more_run _ c.loop-rest.invariant (c.first_line.ensures.lines (grind arith)) (c.first_line.ensures.shorter (grind arith)) c.in_ok-run_line.ensures.ok

pub returns-clause-ok : goal.returns-clause-ok
returns-clause-ok c = all_run c.loop-rest.invariant (nil_from_length _ (grind arith))
