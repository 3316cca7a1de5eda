use Rattle.std.proofs.Common.{ap, ◌∙◌}
use Rattle.eris_network.specs.WaitingNumbers.{with_more}
use Rattle.eris_network.proofs.WaitingLaws.{more_again, none_more}
use Rattle.eris_network.proofs.waiting.Waiting.add_all.Goals as goal

pub loop-init : goal.loop-init
loop-init c = none_more _

pub loop-preserved : goal.loop-preserved
loop-preserved c = c.in_ok-add.ensures ∙ ap (λ value. with_more value 1) c.loop.invariant ∙ more_again c.args.self.now c.loop.counter
