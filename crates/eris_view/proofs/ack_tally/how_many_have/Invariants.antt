use Rattle.std.proofs.Common.{◌≡◌, ◌≤◌, take}
use Rattle.std.specs.Prelude.{count_by}
use Rattle.eris_view.specs.AckCells.{cell_has}
use Rattle.eris_view.proofs.ack_tally.how_many_have.Given as goal

abbrev pub invariant-loop-length : goal.invariant-loop-length
invariant-loop-length l = (l.count ≡ count_by (cell_has l.number) (take l.length-index l.lengths)) × (l.count ≤ l.length-index)
