use Rattle.std.proofs.Common.{◌≡◌, true, [], max, take, ap, sym, ◌∙◌}
use Rattle.std.proofs.lemmas.Bool.{both_ways}
use Rattle.eris_audit.specs.IsSerial.{FollowsAnswered}
use Rattle.eris_audit.specs.Turns.{greatest_answered, is_in_turn, number_answered}
use Rattle.eris_audit.proofs.Finds.{fails_here, holds_next, take-next}
use Rattle.eris_audit.proofs.Turns.{follows-in_turn, greatest-next, in_turn-follows, no_repeat}
use Rattle.eris_audit.proofs.rules.first_out_of_turn.Goals as goal

pub returns-then-not-is_in_turn : goal.returns-then-not-is_in_turn
returns-then-not-is_in_turn c =
    let lines = c.args.table.now in
    let events = c.args.events.now in
    let event = c.index-events-place.result in
    fails_here (FollowsAnswered lines) events c.loop-place.place event c.loop-place-test.true c.index-events-place.is c.loop-place.invariant.1
    (λ holds. both_ways _ c.if-not-is_in_turn.true
    (c.is_in_turn.ensures
    ∙ ap (λ greatest. is_in_turn lines greatest event) c.loop-place.invariant.0
    ∙ follows-in_turn lines (no_repeat [] lines c.requires.once) (take c.loop-place.place events) event holds))

pub loop-place-preserved : goal.loop-place-preserved
loop-place-preserved c =
    let lines = c.args.table.now in
    let events = c.args.events.now in
    let event = c.index-events-place.result in
    let turn : is_in_turn lines (greatest_answered lines (take c.loop-place.place events)) event ≡ true =
    ap (λ greatest. is_in_turn lines greatest event) (sym c.loop-place.invariant.0) ∙ sym c.is_in_turn.ensures ∙ c.if-not-is_in_turn.false in (
      c.max-greatest.ensures
          ∙ ap (λ number. max c.loop-place.greatest number) c.number_answered.ensures
          ∙ ap (λ greatest. max greatest (number_answered lines event)) c.loop-place.invariant.0
          ∙ sym (greatest-next lines (take c.loop-place.place events) event)
          ∙ ap (greatest_answered lines) (sym (take-next events c.loop-place.place event c.loop-place-test.true c.index-events-place.is)),
      holds_next (FollowsAnswered lines) events c.loop-place.place event c.loop-place-test.true c.index-events-place.is c.loop-place.invariant.1
          (in_turn-follows lines (no_repeat [] lines c.requires.once) (take c.loop-place.place events) event turn),
    )
