use Rattle.std.proofs.Common.{◌≡◌, length}
use Rattle.eris_disk.specs.Histories.{filled_by, AreShort}
use Rattle.eris_disk.proofs.replay.fill_all.Given as goal

abbrev pub invariant-loop-left : goal.invariant-loop-left
invariant-loop-left l = record {
  short : AreShort l.left;
  rest : filled_by l.byte l.content.items l.left ≡ filled_by l.byte l.fn.content.items l.calls;
}

abbrev pub decreases-loop-left : goal.decreases-loop-left
decreases-loop-left l = length l.left
