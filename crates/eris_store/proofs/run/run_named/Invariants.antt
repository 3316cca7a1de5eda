use Rattle.std.proofs.Common.{◌≡◌, ◌++◌, drop}
use Rattle.eris_locks.specs.LockTable.{run_dones, run_state}
use Rattle.eris_locks.specs.Shards.{on_shard}
use Rattle.eris_store.specs.MapValues.{map_state}
use Rattle.eris_store.proofs.run.run_named.Given as goal

abbrev pub invariant-loop-packet : goal.invariant-loop-packet
invariant-loop-packet l = record {
  dones : l.dones ++ run_dones (map_state l.table) (on_shard l.shard (drop l.packet-index l.packets))
      ≡ run_dones (map_state l.fn.table) (on_shard l.shard l.packets);
  state : run_state (map_state l.table) (on_shard l.shard (drop l.packet-index l.packets))
      ≡ run_state (map_state l.fn.table) (on_shard l.shard l.packets);
}
