use Rattle.std.proofs.Common.{length}
use Rattle.eris_base.specs.Each.{Each}
use Rattle.eris_client.specs.ClientRanges.{HowFits}
use Rattle.eris_client.proofs.known.read_numbers.Given as goal

abbrev pub invariant-loop-rest : goal.invariant-loop-rest
invariant-loop-rest l = Each (λ setting. HowFits setting.how) l.rest → Each (λ setting. HowFits setting.how) l.fn.settings

abbrev pub decreases-loop-rest : goal.decreases-loop-rest
decreases-loop-rest l = length l.rest
