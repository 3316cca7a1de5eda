use Rattle.std.proofs.Common.{ap, sym, subst, ◌∙◌}
use Rattle.eris_network.specs.WaitingNumbers.{IsLow, value_of, with_more}
use Rattle.eris_network.proofs.WaitingLaws.{value-more, low_pushed}
use Rattle.eris_network.proofs.waiting.Waiting.add.Goals as goal

pub returns : goal.returns
returns c =
    ap value_of c.in_ok-push.ensures.items ∙ value-more c.self.inside.waits.items ∙ ap (λ value. with_more value 1) c.self.view_is

pub invariant_of-self-2 : goal.invariant_of-self-2
invariant_of-self-2 c =
    subst (λ waits. IsLow waits c.self.inside.low) (sym c.in_ok-push.ensures.items) (low_pushed c.self.inside.waits.items c.self.inside.low c.self.invariant)
