use Rattle.std.proofs.Common.{◌≡◌, ◌++◌, drop, false, map}
use Rattle.eris_locks.specs.LockTable.{run_dones, run_state}
use Rattle.eris_locks.specs.Shards.{cut}
use Rattle.eris_plain_store.proofs.run.run_locks.Given as goal

abbrev pub invariant-loop-packet : goal.invariant-loop-packet
invariant-loop-packet g l = record {
  dones : l.dones ++ run_dones (g.L.Locks.state l.store) (map (cut (g.L.Locks.shard l.store)) (drop l.packet-index l.packets))
      ≡ run_dones (g.L.Locks.state l.fn.store) (map (cut (g.L.Locks.shard l.fn.store)) l.packets);
  state : run_state (g.L.Locks.state l.store) (map (cut (g.L.Locks.shard l.store)) (drop l.packet-index l.packets))
      ≡ run_state (g.L.Locks.state l.fn.store) (map (cut (g.L.Locks.shard l.fn.store)) l.packets);
  shard : g.L.Locks.shard l.store ≡ g.L.Locks.shard l.fn.store;
  spent : g.L.Locks.spent l.store ≡ false;
}
