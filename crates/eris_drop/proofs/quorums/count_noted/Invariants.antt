use Rattle.std.proofs.Common.{◌≡◌, ◌+◌, ◌≤◌, length}
use Rattle.eris_base.specs.Quorums.{different_replicas}
use Rattle.eris_drop.specs.Notes.{noted_replicas}
use Rattle.eris_drop.proofs.quorums.count_noted.Given as goal

abbrev pub invariant-loop-rest : goal.invariant-loop-rest
invariant-loop-rest l =
    (l.count + different_replicas (noted_replicas l.f l.rest l.place l.shard l.view) ≡ different_replicas (noted_replicas l.f l.notes l.place l.shard l.view))
    × (l.count + length l.rest ≤ length l.notes)

abbrev pub decreases-loop-rest : goal.decreases-loop-rest
decreases-loop-rest l = length l.rest
