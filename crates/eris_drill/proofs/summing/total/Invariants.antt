use Rattle.std.proofs.Common.{◌≡◌, false, drop}
use Rattle.eris_txn.specs.KeyValues.{values_of}
use Rattle.eris_audit.specs.Histories.{txn_of}
use Rattle.eris_drill.specs.Summaries.{after_steps, values_left}
use Rattle.eris_drill.proofs.summing.total.Given as goal

abbrev pub invariant-loop-line : goal.invariant-loop-line
invariant-loop-line l =
    (l.store.spent ≡ false)
    × (after_steps (txn_of l.report.history) (drop l.line-index l.report.order) (values_of l.store.entries) ≡ values_left l.report)
