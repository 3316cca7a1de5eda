use Rattle.std.proofs.Common.{◌≡◌, ℕ}
use Rattle.std.specs.List.{flat_map, range_with_len}
use Rattle.eris_rules.specs.Addressees.{shard_replicas}
use Rattle.eris_coord.proofs.sends.all_replicas.Given as goal

abbrev pub invariant-loop-shard : goal.invariant-loop-shard
invariant-loop-shard l = l.nodes ≡ flat_map (λ (number : ℕ). shard_replicas l.config (record { 0 = number })) (range_with_len 0 l.shard)
