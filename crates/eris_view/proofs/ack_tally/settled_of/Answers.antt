use Rattle.std.proofs.Common.{◌≡◌, ◌+◌, ◌∙◌, ℕ, List, Option, length, take, max, ap, sym, subst, arith}
use Rattle.std.proofs.lemmas.Grind.{common_steps}
use Rattle.eris_view.specs.AckCells.{IsReached}
use Rattle.eris_view.proofs.Acks.{IsFarSoFar, IsSettled-no_faults, far-more, IsSettled-far, ord_max-max}
use Rattle.eris_view.proofs.ack_tally.settled_of.Goals as goal

pub returns-then-f-eq0 : goal.returns-then-f-eq0
returns-then-f-eq0 c = subst (λ (f : ℕ). IsReached c.args.lengths.now f c.args.own_length c.args.own_length) (sym c.if-f-eq0.true) (IsSettled-no_faults c.args.lengths.now c.args.own_length)

pub loop-length-preserved : goal.loop-length-preserved
loop-length-preserved c =
    let reached = c.max-reached.ensures ∙ ord_max-max c.loop-length.reached c.offer.result ∙ ap (λ (other : ℕ). max c.loop-length.reached other) c.offer.ensures in
    subst (λ (number : ℕ). IsFarSoFar c.args.lengths.now c.args.f c.args.own_length (take (c.loop-length.length-index + 1) c.args.lengths.now) number) (sym reached)
    (far-more c.args.lengths.now c.args.f c.args.own_length c.loop-length.length-index c.loop-length.reached c.loop-length-test.true c.loop-length.invariant)

pub returns : goal.returns
returns c =
    let end : c.loop-length.length-index ≡ length c.args.lengths.now = omega arith in
    let all : take c.loop-length.length-index c.args.lengths.now ≡ c.args.lengths.now = rw end (grind (arith, common_steps)) in
    IsSettled-far c.args.lengths.now c.args.f c.args.own_length c.loop-length.reached (omega arith) (subst (λ (seen : List (Option ℕ)). IsFarSoFar c.args.lengths.now c.args.f c.args.own_length seen c.loop-length.reached) all c.loop-length.invariant)
