use Rattle.std.proofs.Common.{◌≡◌, [], take}
use Rattle.eris_base.specs.Each.{EachAfter}
use Rattle.eris_audit.specs.IsSerial.{IsOrderLine}
use Rattle.eris_audit.specs.Lines.{lines_of}
use Rattle.eris_audit.proofs.rules.first_wrong_line.Given as goal

abbrev pub invariant-loop-place : goal.invariant-loop-place
invariant-loop-place l =
    (l.table ≡ lines_of (take l.place l.order)) × EachAfter (IsOrderLine l.history) [] l.table
