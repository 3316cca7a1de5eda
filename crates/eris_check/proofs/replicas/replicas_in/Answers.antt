use Rattle.eris_check.proofs.ReplicaSteps.{one_more_shard}
use Rattle.eris_check.proofs.replicas.replicas_in.Goals as goal

pub loop-shard-preserved : goal.loop-shard-preserved
loop-shard-preserved c = one_more_shard _ _ _ _ c.loop-shard.invariant c.in_ok-add_replicas.ensures
