use Rattle.std.proofs.Common.{◌++◌, take, arith}
use Rattle.std.proofs.KnownBytes.{Consumes-trans}
use Rattle.std.proofs.lemmas.Grind.{common_steps}
use Rattle.eris_stream.proofs.transfer.read_all.Goals as goal

-- a piece that came and found no memory was consumed too
pub returns-in_err-append-clause-some : goal.returns-in_err-append-clause-some
returns-in_err-append-clause-some g c = record {
  bytes = c.loop-piece.bytes ++ take c.in_ok-count.count c.read.new.buf;
  came = Consumes-trans _ _ _ _ _ c.loop-piece.invariant.came c.in_ok-count.ensures.bytes.0;
  few = grind (arith, common_steps);
}
