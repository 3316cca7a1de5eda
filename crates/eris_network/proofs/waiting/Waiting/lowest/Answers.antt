use Rattle.std.proofs.Common.{ap, sym, ◌∙◌, arith}
use Rattle.std.specs.Prelude.{slice_get}
use Rattle.eris_network.specs.WaitingNumbers.{WaitingValue}
use Rattle.eris_network.proofs.WaitingLaws.{first_waiting, none_waiting}
use Rattle.eris_network.proofs.waiting.Waiting.lowest.Goals as goal

pub returns-then-self-len-clause-exact : goal.returns-then-self-len-clause-exact
returns-then-self-len-clause-exact c =
    sym (first_waiting c.self.inside.low c.self.inside.waits.items c.self.invariant.below (c.self.invariant.at (omega (arith, c.if-self-len.true, c.len.ensures))))
    ∙ ap (λ (value : WaitingValue). slice_get value.numbers 0) c.self.view_is

pub returns-else-self-len-clause-exact : goal.returns-else-self-len-clause-exact
returns-else-self-len-clause-exact c =
    sym (none_waiting c.self.inside.waits.items c.self.inside.low (omega (arith, c.if-self-len.false, c.len.ensures)) c.self.invariant.below)
    ∙ ap (λ (value : WaitingValue). slice_get value.numbers 0) c.self.view_is
