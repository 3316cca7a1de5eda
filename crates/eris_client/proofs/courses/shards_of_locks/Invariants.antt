use Rattle.std.proofs.Common.{◌≡◌, map, take}
use Rattle.eris_client.proofs.courses.shards_of_locks.Given as goal

abbrev pub invariant-loop-lock : goal.invariant-loop-lock
invariant-loop-lock l = l.shards ≡ map (λ key. key.shard) (map (λ lock. lock.key) (take l.lock-index l.locks))
