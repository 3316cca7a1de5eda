use Rattle.std.proofs.Common.{◌≡◌, drop}
use Rattle.eris_txn.specs.KeyValues.{values_of}
use Rattle.eris_txn.specs.Plans.{written}
use Rattle.eris_plain_store.proofs.cells.Cells.write_all.Given as goal

abbrev pub invariant-loop-write : goal.invariant-loop-write
invariant-loop-write l = written (drop l.write-index l.writes) (values_of l.self) ≡ written l.writes (values_of l.fn.self)
