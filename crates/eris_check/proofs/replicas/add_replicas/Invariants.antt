use Rattle.std.proofs.Common.{◌≡◌, ◌++◌, map}
use Rattle.std.specs.List.{range_with_len}
use Rattle.eris_report_range.specs.ReportRanges.{replica_at}
use Rattle.eris_check.proofs.replicas.add_replicas.Given as goal

abbrev pub invariant-loop-replica : goal.invariant-loop-replica
invariant-loop-replica l = l.names ≡ l.fn.names ++ map (replica_at l.shard) (range_with_len 0 l.replica)
