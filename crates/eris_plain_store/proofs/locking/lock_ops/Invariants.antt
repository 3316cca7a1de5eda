use Rattle.std.proofs.Common.{◌≡◌, map, take}
use Rattle.eris_locks.specs.Locks.{lock_of}
use Rattle.eris_plain_store.proofs.locking.lock_ops.Given as goal

abbrev pub invariant-loop-op : goal.invariant-loop-op
invariant-loop-op l = l.locks ≡ map lock_of (take l.op-index l.ops)
