use Rattle.std.proofs.Common.{◌<◌, ◌∙◌, sym, length, arith}
use Rattle.std.proofs.lemmas.List.{nil_from_length}
use Rattle.eris_check.proofs.BodySteps.{body_goes_on, body_refused, body_short, body_whole}
use Rattle.eris_check.proofs.parse.read_body.Goals as goal

pub loop-rest-preserved : goal.loop-rest-preserved
loop-rest-preserved c =
    let some : 0 < length c.loop-rest.rest.now = grind arith in
    let fewer = c.first_full_line.ensures.shorter some in
    let room = c.loop-rest.invariant.1 in
    (body_goes_on _ _ _ _ _ _ _ (c.first_full_line.ensures.lines some) c.in-Ok.ensures c.loop-rest.invariant.0, omega (arith, fewer, room))

pub returns-in-Err-Bad : goal.returns-in-Err-Bad
returns-in-Err-Bad c = body_refused _ _ _ _ _ _ _ (c.first_full_line.ensures.lines (grind arith)) (rw c.in-Err-Bad.field-0-is at c.in-Err-Bad.ensures) c.loop-rest.invariant.0

pub returns-then-is_whole : goal.returns-then-is_whole
returns-then-is_whole c = body_whole _ _ _ _ (nil_from_length _ (grind arith)) (sym c.is_whole.ensures ∙ c.if-is_whole.true) c.loop-rest.invariant.0

pub returns-else-is_whole : goal.returns-else-is_whole
returns-else-is_whole c = body_short _ _ _ _ (nil_from_length _ (grind arith)) (sym c.is_whole.ensures ∙ c.if-is_whole.false) c.loop-rest.invariant.0
