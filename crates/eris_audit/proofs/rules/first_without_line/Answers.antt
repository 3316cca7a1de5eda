use Rattle.std.proofs.lemmas.Bool.{both_ways}
use Rattle.eris_audit.specs.IsSerial.{HasItsLine}
use Rattle.eris_audit.specs.Verdicts.{alone}
use Rattle.eris_audit.proofs.Finds.{fails_here, holds_next}
use Rattle.eris_audit.proofs.rules.first_without_line.Goals as goal

pub returns-then-not-has_its_line : goal.returns-then-not-has_its_line
returns-then-not-has_its_line c =
    fails_here (alone (HasItsLine c.args.table.now)) c.args.events.now c.loop-place.place c.index-events-place.result c.loop-place-test.true c.index-events-place.is
    c.loop-place.invariant (λ holds. both_ways _ c.if-not-has_its_line.true (c.has_its_line.ensures.1 holds))

pub loop-place-preserved : goal.loop-place-preserved
loop-place-preserved c =
    holds_next (alone (HasItsLine c.args.table.now)) c.args.events.now c.loop-place.place c.index-events-place.result c.loop-place-test.true c.index-events-place.is
    c.loop-place.invariant (c.has_its_line.ensures.0 c.if-not-has_its_line.false)
