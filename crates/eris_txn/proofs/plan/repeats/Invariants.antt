use Rattle.std.proofs.Common.{◌≡◌, length}
use Rattle.eris_txn.specs.PlanFaults.{repeats}
use Rattle.eris_txn.proofs.plan.repeats.Given as goal

abbrev pub invariant-loop-rest : goal.invariant-loop-rest
invariant-loop-rest l = repeats l.rest ≡ repeats l.fn.keys

abbrev pub decreases-loop-rest : goal.decreases-loop-rest
decreases-loop-rest l = length l.rest
