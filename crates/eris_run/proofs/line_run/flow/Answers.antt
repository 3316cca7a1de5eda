use Rattle.std.proofs.Common.{arith}
use Rattle.std.proofs.lemmas.Result.{err_from_is_err_and}
use Rattle.eris_event.specs.declared.event.Event.TheVariants.{Flow}
use Rattle.eris_run.proofs.EventRuns.{flows_rest, refuses_again, takes_again, takes_none}
use Rattle.eris_run.proofs.line_run.flow.Goals as goal

pub loop-init : goal.loop-init
loop-init c = takes_none c.requires.fine

pub returns-then-not-has_waiting-clause-ok : goal.returns-then-not-has_waiting-clause-ok
returns-then-not-has_waiting-clause-ok c = flows_rest _ _ c.loop.invariant (omega arith) (grind arith)

pub returns-in_err-take_event-clause-bad : goal.returns-in_err-take_event-clause-bad
returns-in_err-take_event-clause-bad c =
    let p = err_from_is_err_and c.from_residual.result c.from_residual.ensures.1 in
    rw (p.1, p.2) (refuses_again Flow _ _ _ _ c.loop.invariant (omega arith) c.in_err-take_event.ensures.bad)

pub loop-preserved : goal.loop-preserved
loop-preserved c = takes_again Flow _ c.loop.invariant c.in_ok-take_event.ensures.ok
