use Rattle.std.proofs.Common.{◌≡◌, []}
use Rattle.eris_locks.specs.LockTable.{all_also, release}
use Rattle.eris_store.specs.MapValues.{map_state}
use Rattle.eris_store.proofs.table.Table.release.Given as goal

abbrev pub invariant-loop-packet : goal.invariant-loop-packet
invariant-loop-packet l =
    all_also l.dones (release l.at (map_state l.self) l.before l.packet-iterator.rest.items)
    ≡ all_also l.fn.dones (release l.at (map_state l.fn.self) [] l.fn.waiting)
