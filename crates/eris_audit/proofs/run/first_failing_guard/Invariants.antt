use Rattle.std.proofs.Common.{◌≡◌, false, [], take}
use Rattle.eris_txn.specs.Keys.{no_values}
use Rattle.eris_txn.specs.KeyValues.{values_of}
use Rattle.eris_base.specs.Each.{EachAfter}
use Rattle.eris_audit.specs.Histories.{txn_of}
use Rattle.eris_audit.specs.IsSerial.{GuardsHold}
use Rattle.eris_audit.specs.Lines.{lines_of}
use Rattle.eris_audit.specs.SerialRun.{results_of, values_after}
use Rattle.eris_audit.proofs.run.first_failing_guard.Given as goal

abbrev pub invariant-loop-place : goal.invariant-loop-place
invariant-loop-place l =
    (l.store.spent ≡ false)
    × (values_of l.store.entries ≡ values_after (txn_of l.history) (lines_of (take l.place l.order)) no_values)
    × (l.results ≡ results_of (txn_of l.history) (lines_of (take l.place l.order)) no_values)
    × EachAfter (GuardsHold l.history) [] (lines_of (take l.place l.order))
