use Rattle.std.proofs.Common.{length}
use Rattle.eris_migrate.proofs.PutLines.{HasPut}
use Rattle.eris_migrate.proofs.text.put_lines.Given as goal

abbrev pub invariant-loop-rest : goal.invariant-loop-rest
invariant-loop-rest l = HasPut l.fn.out l.out l.text l.rest l.number

abbrev pub decreases-loop-rest : goal.decreases-loop-rest
decreases-loop-rest l = length l.rest
