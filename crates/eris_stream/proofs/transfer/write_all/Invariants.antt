use Rattle.std.proofs.Common.{◌+◌, ◌-◌, ◌≤◌, length, take}
use Rattle.std.specs.Io.KnownBytes.{Appends}
use Rattle.eris_stream.proofs.transfer.write_all.Given as goal

abbrev pub invariant-loop-done : goal.invariant-loop-done
invariant-loop-done g l = record {
  within : l.done ≤ length l.bytes;
  front : Appends (g.K.Sink.taken l.fn.snk) (g.K.Sink.taken l.snk) (take l.done l.bytes);
  room : g.K.Sink.spare l.fn.snk ≤ g.K.Sink.spare l.snk + l.done;
  later : g.K.Sink.faults l.fn.snk ≤ g.K.Sink.faults l.snk;
}

abbrev pub decreases-loop-done : goal.decreases-loop-done
decreases-loop-done g l = length l.bytes - l.done
