use Rattle.std.proofs.Common.{arith}
use Rattle.std.proofs.KnownBytes.{Appends-trans}
use Rattle.std.proofs.Math.Seq.{take-add}
use Rattle.std.proofs.lemmas.Grind.{common_steps}
use Rattle.eris_stream.proofs.transfer.write_all.Goals as goal

pub loop-done-preserved : goal.loop-done-preserved
loop-done-preserved g c = record {
  within = grind (arith, common_steps);
  front =
      rw (take-add c.loop-done.done c.in_ok-done.field-0 c.args.bytes.now, ← c.after.ensures)
      (Appends-trans _ _ _ _ _ c.loop-done.invariant.front c.in_ok-done.ensures.bytes);
  room = omega (arith, c.in_ok-done.ensures.spare);
  later = grind (arith, c.write.ensures.cause);
}
