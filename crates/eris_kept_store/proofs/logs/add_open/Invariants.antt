use Rattle.std.proofs.Common.{◌≡◌, ◌++◌}
use Rattle.eris_rules.specs.ReplicaAnswers.{open_upto}
use Rattle.eris_kept_store.proofs.logs.add_open.Given as goal

abbrev pub invariant-loop-before : goal.invariant-loop-before
invariant-loop-before l = l.log ≡ l.fn.log ++ open_upto l.part l.before
