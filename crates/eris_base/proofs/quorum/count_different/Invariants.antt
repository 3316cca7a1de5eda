use Rattle.std.proofs.Common.{◌≡◌, ◌+◌, ◌≤◌, length}
use Rattle.eris_base.specs.Quorums.{different_replicas}
use Rattle.eris_base.proofs.quorum.count_different.Given as goal

abbrev pub invariant-loop-rest : goal.invariant-loop-rest
invariant-loop-rest l =
    (l.count + different_replicas l.rest ≡ different_replicas l.replicas) × (l.count + length l.rest ≤ length l.replicas)

abbrev pub decreases-loop-rest : goal.decreases-loop-rest
decreases-loop-rest l = length l.rest
