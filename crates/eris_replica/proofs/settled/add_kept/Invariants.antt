use Rattle.std.proofs.Common.{◌≡◌, ◌++◌}
use Rattle.eris_rules.specs.Good.{kept_upto}
use Rattle.eris_replica.proofs.settled.add_kept.Given as goal

abbrev pub invariant-loop-before : goal.invariant-loop-before
invariant-loop-before l = l.log ≡ l.fn.log ++ kept_upto l.part l.before
