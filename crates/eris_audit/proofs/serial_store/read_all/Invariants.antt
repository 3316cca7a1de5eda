use Rattle.std.proofs.Common.{◌≡◌, map, take}
use Rattle.eris_txn.specs.KeyValues.{values_of}
use Rattle.eris_audit.proofs.serial_store.read_all.Given as goal

abbrev pub invariant-loop-key : goal.invariant-loop-key
invariant-loop-key l = l.read ≡ map (values_of l.values) (take l.key-index l.keys)
