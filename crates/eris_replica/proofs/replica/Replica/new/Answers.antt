use Rattle.std.proofs.Common.{sym, subst}
use Rattle.eris_law_range.specs.Fitting.{ReplicaFits}
use Rattle.eris_replica.specs.ReplicaValues.{EpochsValue}
use Rattle.eris_replica.proofs.Keeping.{first_fits}
use Rattle.eris_replica.proofs.replica.Replica.new.Goals as goal

pub invariant_of-result : goal.invariant_of-result
invariant_of-result c = λ _. (let P : EpochsValue → Type 0 = λ value. ReplicaFits value.me value.state in
    subst P (sym c.new.ensures.exact) (first_fits c.args.config c.args.shard c.args.replica c.new.ensures.config c.requires.shard c.requires.replica))
