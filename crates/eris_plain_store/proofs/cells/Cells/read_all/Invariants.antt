use Rattle.std.proofs.Common.{◌≡◌, map, take}
use Rattle.eris_txn.specs.declared.lock.Lock.{Lock}
use Rattle.eris_txn.specs.KeyValues.{values_of}
use Rattle.eris_plain_store.proofs.cells.Cells.read_all.Given as goal

abbrev pub invariant-loop-lock : goal.invariant-loop-lock
invariant-loop-lock l = l.read ≡ map (λ (lock : Lock). values_of l.self lock.key) (take l.lock-index l.locks)
