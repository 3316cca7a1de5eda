use Rattle.std.proofs.lemmas.Bool.{both_ways}
use Rattle.eris_audit.specs.IsSerial.{IsToldOutcome}
use Rattle.eris_audit.specs.Verdicts.{alone}
use Rattle.eris_audit.proofs.Finds.{fails_here, holds_next}
use Rattle.eris_audit.proofs.rules.first_wrong_told.Goals as goal

pub returns-then-not-is_told_outcome : goal.returns-then-not-is_told_outcome
returns-then-not-is_told_outcome c =
    fails_here (alone (IsToldOutcome c.args.table.now)) c.args.events.now c.loop-place.place c.index-events-place.result c.loop-place-test.true c.index-events-place.is
    c.loop-place.invariant (λ holds. both_ways _ c.if-not-is_told_outcome.true (c.is_told_outcome.ensures.1 holds))

pub loop-place-preserved : goal.loop-place-preserved
loop-place-preserved c =
    holds_next (alone (IsToldOutcome c.args.table.now)) c.args.events.now c.loop-place.place c.index-events-place.result c.loop-place-test.true c.index-events-place.is
    c.loop-place.invariant (c.is_told_outcome.ensures.0 c.if-not-is_told_outcome.false)
