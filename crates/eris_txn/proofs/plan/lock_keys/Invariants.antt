use Rattle.std.proofs.Common.{◌≡◌, take}
use Rattle.eris_txn.specs.Plans.{locks_in}
use Rattle.eris_txn.proofs.plan.lock_keys.Given as goal

abbrev pub invariant-loop-key : goal.invariant-loop-key
invariant-loop-key l = l.locks ≡ locks_in l.settings (take l.key-index l.keys)
