use Rattle.std.proofs.Common.{◌≡◌, ◌++◌, map, ℕ}
use Rattle.std.specs.List.{range_with_len}
use Rattle.eris_rules.specs.Addressees.{replica_node}
use Rattle.eris_coord.proofs.sends.add_replicas.Given as goal

abbrev pub invariant-loop-replica : goal.invariant-loop-replica
invariant-loop-replica l = l.nodes ≡ l.fn.nodes ++ map (λ (number : ℕ). replica_node l.shard number) (range_with_len 0 l.replica)
