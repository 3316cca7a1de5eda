use Rattle.std.proofs.Common.{◌≡◌, ◌++◌, drop}
use Rattle.eris_txn.specs.KeyValues.{values_of}
use Rattle.eris_txn.specs.Operations.{after_all, answers}
use Rattle.eris_plain_store.proofs.cells.Cells.apply_all.Given as goal

abbrev pub invariant-loop-op : goal.invariant-loop-op
invariant-loop-op l =
    (l.made ++ answers (drop l.op-index l.ops) (values_of l.self) ≡ answers l.ops (values_of l.fn.self))
    × (after_all (drop l.op-index l.ops) (values_of l.self) ≡ after_all l.ops (values_of l.fn.self))
