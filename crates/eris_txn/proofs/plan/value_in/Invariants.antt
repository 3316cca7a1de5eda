use Rattle.std.proofs.Common.{◌≡◌, length}
use Rattle.eris_txn.specs.Plans.{value_in}
use Rattle.eris_txn.proofs.plan.value_in.Given as goal

abbrev pub invariant-loop-left : goal.invariant-loop-left
invariant-loop-left l = value_in l.left l.right l.key ≡ value_in l.fn.keys l.fn.values l.key

abbrev pub decreases-loop-left : goal.decreases-loop-left
decreases-loop-left l = length l.left
