use Rattle.std.proofs.Common.{◌≡◌, ◌≤◌, length}
use Rattle.eris_disk.specs.Histories.{replayed, written_by, AreShort}
use Rattle.eris_disk.proofs.replay.replay.Given as goal

abbrev pub invariant-loop-left : goal.invariant-loop-left
invariant-loop-left l = record {
  logged : written_by l.left ≤ length l.rest;
  short : AreShort l.left;
  rest : replayed l.content.items l.left l.rest ≡ replayed l.fn.content.items l.calls l.written;
}

abbrev pub decreases-loop-left : goal.decreases-loop-left
decreases-loop-left l = length l.left
