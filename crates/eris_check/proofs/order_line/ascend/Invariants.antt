use Rattle.std.proofs.Common.{◌≡◌, None, length}
use Rattle.eris_base.specs.Places.{ascends_from}
use Rattle.eris_check.proofs.order_line.ascend.Given as goal

abbrev pub invariant-loop-rest : goal.invariant-loop-rest
invariant-loop-rest l = ascends_from l.before l.rest ≡ ascends_from None l.fn.places

abbrev pub decreases-loop-rest : goal.decreases-loop-rest
decreases-loop-rest l = length l.rest
