use Rattle.std.proofs.Common.{◌+◌, length}
use Rattle.eris_log.proofs.Walks.{IsWalk}
use Rattle.eris_log.proofs.part.Part.length.Given as goal

abbrev pub invariant-loop-held : goal.invariant-loop-held
invariant-loop-held l = IsWalk l.self l.length l.held l.dropped

abbrev pub decreases-loop-held : goal.decreases-loop-held
decreases-loop-held l = length l.held + length l.dropped
