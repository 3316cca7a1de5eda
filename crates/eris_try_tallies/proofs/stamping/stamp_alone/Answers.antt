use Rattle.std.proofs.Common.{◌≡◌, true, nat_lt, sym, subst, arith}
use Rattle.std.proofs.lemmas.Grind.{common_steps}
use Rattle.std.specs.List.{list_all}
use Rattle.eris_base.specs.declared.ids.ShardId.{ShardId}
use Rattle.eris_txn.specs.Bodies.{participants_of}
use Rattle.eris_sequencer.specs.Stamps.{has_counters}
use Rattle.eris_try_tallies.proofs.stamping.stamp_alone.Goals as goal

pub stamp-requires-clause-shards : goal.stamp-requires-clause-shards
unfolding has_counters
stamp-requires-clause-shards c =
    let below : list_all (λ (shard : ShardId). nat_lt shard.0 3) (participants_of c.in_ok-body.body) ≡ true = grind (arith, common_steps) in
    subst (λ n. list_all (λ (shard : ShardId). nat_lt shard.0 n) (participants_of c.in_ok-body.body) ≡ true) (sym c.requires) below
