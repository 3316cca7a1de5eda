use Rattle.std.specs.Prelude.{List, [], false}
use Rattle.eris_txn.specs.declared.answer.Answer.{Answer}
use Rattle.eris_txn.specs.declared.answer.Answer.TheVariants.{Aborted}
use Rattle.eris_txn.specs.declared.plan.Write.{Write}
use Rattle.eris_locks.specs.declared.shard_packet.ShardPacket.{ShardPacket}
use Rattle.eris_locks.specs.LockTable.{Stepped, all_also, aborted_late, also, done, end_holding, end_waiting, only, release}
use Rattle.eris_locks.specs.States.{StoreState, no_longer_waiting, note, phase_of}

-- The lines of the lock table that have no name there. The steps of the table are these by computation.

-- a preliminary that comes when its id is decided
abbrev pub refuse : StoreState → ShardPacket → Stepped
refuse state packet =
    only (record state { recorded = note state.recorded packet.id (phase_of packet.body) Aborted }) (done packet.at packet Aborted false)

-- the first Commit or Abort of an id whose preliminary holds
abbrev pub conclude_holding : StoreState → ShardPacket → Answer → List Write → Stepped
conclude_holding state packet outcome writes =
    also (done packet.at packet outcome false) (release packet.at (end_holding state packet outcome writes) [] state.waiting)

-- the first Commit or Abort of an id whose preliminary waits
abbrev pub conclude_waiting : StoreState → ShardPacket → Stepped
conclude_waiting state packet =
    also (done packet.at packet Aborted false)
    (all_also (aborted_late packet.at packet.id state.waiting)
    (release packet.at (end_waiting state packet) [] (no_longer_waiting packet.id state.waiting)))
