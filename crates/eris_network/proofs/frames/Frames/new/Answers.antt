use Rattle.std.proofs.Common.{sym, subst}
use Rattle.eris_network.specs.KeptFrames.{AreFrames}
use Rattle.eris_network.proofs.KeptLaws.{no_frames}
use Rattle.eris_network.proofs.frames.Frames.new.Goals as goal

pub invariant_of-result : goal.invariant_of-result
invariant_of-result c = subst (λ kept. AreFrames kept 0) (sym c.new.ensures) no_frames
