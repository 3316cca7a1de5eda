use Rattle.std.proofs.Common.{take}
use Rattle.eris_view.proofs.Acks.{IsFarSoFar}
use Rattle.eris_view.proofs.ack_tally.settled_of.Given as goal

abbrev pub invariant-loop-length : goal.invariant-loop-length
invariant-loop-length l = IsFarSoFar l.lengths l.f l.own_length (take l.length-index l.lengths) l.reached
