use Rattle.std.proofs.Common.{◌≡◌, length, map}
use Rattle.std.specs.List.{range_with_len}
use Rattle.eris_nodes.specs.ReplicaRows.{AreRows, row_of_shard, rows_of}
use Rattle.eris_nodes.proofs.replicas.first_rows.Given as goal

abbrev pub invariant-loop-shard : goal.invariant-loop-shard
invariant-loop-shard l = record {
  count : length l.rows.items ≡ l.shard;
  states : rows_of l.rows.items ≡ map (row_of_shard l.config) (range_with_len 0 l.shard);
  rows : AreRows l.config 0 l.rows.items;
}
