use Rattle.std.proofs.Common.{◌≡◌, map}
use Rattle.std.specs.List.{flat_map, range_with_len}
use Rattle.eris_report_range.specs.ReportRanges.{replica_at}
use Rattle.eris_check.proofs.replicas.replicas_in.Given as goal

abbrev pub invariant-loop-shard : goal.invariant-loop-shard
invariant-loop-shard l =
    l.names ≡ flat_map (λ shard. map (replica_at shard) (range_with_len 0 l.count)) (range_with_len 0 l.shard)
