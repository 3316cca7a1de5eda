use Rattle.std.proofs.Common.{◌≡◌, take}
use Rattle.eris_txn.specs.Plans.{value_in, writes_from}
use Rattle.eris_txn.proofs.plan.writes_from.Given as goal

abbrev pub invariant-loop-setting : goal.invariant-loop-setting
invariant-loop-setting l = l.writes ≡ writes_from (take l.setting-index l.settings) (value_in l.keys l.values)
