use Rattle.std.proofs.Common.{◌≡◌, length}
use Rattle.eris_txn.specs.PlanFaults.{sets_twice}
use Rattle.eris_txn.proofs.plan.sets_twice.Given as goal

abbrev pub invariant-loop-rest : goal.invariant-loop-rest
invariant-loop-rest l = sets_twice l.rest ≡ sets_twice l.fn.settings

abbrev pub decreases-loop-rest : goal.decreases-loop-rest
decreases-loop-rest l = length l.rest
