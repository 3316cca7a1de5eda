use Rattle.std.proofs.Common.{◌≡◌, drop}
use Rattle.eris_txn.specs.KeyValues.{values_of}
use Rattle.eris_txn.specs.Plans.{settled}
use Rattle.eris_txn.proofs.values.KeyValues.settle.Given as goal

abbrev pub invariant-loop-setting : goal.invariant-loop-setting
invariant-loop-setting l =
    settled (drop l.setting-index l.settings) (values_of l.self) ≡ settled l.settings (values_of l.fn.self)
