-- A closed cut of an order.
use Rattle.std.specs.Prelude.{◌≡◌, List, ◌++◌}
use Rattle.eris_base.specs.declared.ids.ShardId.{ShardId}
use Rattle.eris_txn.specs.declared.packet.Packet.{Packet}
use Rattle.eris_locks.specs.declared.shard_packet.ShardPacket.{ShardPacket}
use Rattle.eris_locks.specs.Shards.{on_shard}
use Rattle.eris_serial.specs.Evidence.{IsIn}

-- A CLOSED CUT: its packets are of the order, and on each shard it is a beginning of the order. A packet
-- of many shards stands in it on all of them or on none.
pub record IsClosedCut (order part : List Packet) : Type 0 where
  pub inside : (packet : Packet) → IsIn packet part → IsIn packet order
  pub rest : ShardId → List ShardPacket
  pub begins : (shard : ShardId) → on_shard shard order ≡ on_shard shard part ++ rest shard
