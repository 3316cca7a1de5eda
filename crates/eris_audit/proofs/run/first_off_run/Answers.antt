use Rattle.std.proofs.Common.{List, ◌+◌, subst}
use Rattle.std.proofs.lemmas.Bool.{both_ways}
use Rattle.eris_txn.specs.declared.history.HistoryEvent.{HistoryEvent}
use Rattle.eris_audit.specs.IsSerial.{EqualsRun}
use Rattle.eris_audit.specs.Verdicts.{alone, FailsFirst}
use Rattle.eris_audit.proofs.Finds.{fails_here, holds_next}
use Rattle.eris_audit.proofs.run.first_off_run.Goals as goal

pub returns-then-not-equals_run : goal.returns-then-not-equals_run
returns-then-not-equals_run c =
    subst (λ (events : List HistoryEvent). FailsFirst (alone (EqualsRun c.args.history.now c.args.table.now)) events (c.loop-place.place + 1)) c.events-events.ensures
    (fails_here (alone (EqualsRun c.args.history.now c.args.table.now)) c.events-events.result.now c.loop-place.place c.index-events-place.result c.loop-place-test.true c.index-events-place.is
    c.loop-place.invariant (λ holds. both_ways _ c.if-not-equals_run.true (c.equals_run.ensures.1 holds)))

pub loop-place-preserved : goal.loop-place-preserved
loop-place-preserved c =
    holds_next (alone (EqualsRun c.args.history.now c.args.table.now)) c.events-events.result.now c.loop-place.place c.index-events-place.result c.loop-place-test.true c.index-events-place.is
    c.loop-place.invariant (c.equals_run.ensures.0 c.if-not-equals_run.false)
