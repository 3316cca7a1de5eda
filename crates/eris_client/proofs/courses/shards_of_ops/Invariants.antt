use Rattle.std.proofs.Common.{◌≡◌, map, take}
use Rattle.eris_txn.specs.Operations.{key_of}
use Rattle.eris_client.proofs.courses.shards_of_ops.Given as goal

abbrev pub invariant-loop-op : goal.invariant-loop-op
invariant-loop-op l = l.shards ≡ map (λ key. key.shard) (map key_of (take l.op-index l.ops))
