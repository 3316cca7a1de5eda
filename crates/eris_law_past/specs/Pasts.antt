-- A past of an order of packets: a closed cut in which each preliminary is concluded.
use Rattle.std.specs.Prelude.{◌≡◌, ◌⊎◌, List, [], ◌∷◌, ◌++◌, IsTrue}
use Rattle.std.specs.List.{IsDistinct}
use Rattle.eris_base.specs.declared.ids.Phase.{Phase}
use Rattle.eris_base.specs.declared.ids.ShardId.{ShardId}
use Rattle.eris_base.specs.declared.ids.TxnId.{TxnId}
use Rattle.eris_base.specs.Each.{Each}
use Rattle.eris_txn.specs.declared.packet.Packet.{Packet}
use Rattle.eris_locks.specs.declared.shard_packet.ShardPacket.{ShardPacket}
use Rattle.eris_locks.specs.Law.{HasPacket}
use Rattle.eris_locks.specs.States.{is_conclusory, is_prelim}
use Rattle.eris_epoch.specs.SamePackets.{same_packet}
use Rattle.eris_cut.specs.Cuts.{log_of}
use Rattle.eris_order.specs.Orders.{packets_on}
use Rattle.eris_serial.specs.Cuts.{IsClosedCut}
use Rattle.eris_serial.specs.Evidence.{IsIn}

-- of the packets of a shard, each preliminary has a Commit or an Abort of its id among them
abbrev pub AllConcluded : List ShardPacket → Type 0
AllConcluded packets = Each (λ packet. IsTrue (is_prelim packet.body) → HasPacket packet.id Phase.Conclude packets) packets

-- a Commit or an Abort of the id stands in a list
abbrev pub HasConclusory : TxnId → List Packet → Type 0
HasConclusory id [] = ⊥
HasConclusory id (packet ∷ packets) = ((packet.id ≡ id) × IsTrue (is_conclusory packet.body)) ⊎ HasConclusory id packets

-- A PAST OF AN ORDER: on each shard it is a beginning of the order, and each preliminary of it has a Commit or an
-- Abort in it
pub record IsPast (order part : List Packet) : Type 0 where
  pub closed : IsClosedCut order part
  pub concluded : (packet : Packet) → IsIn packet part → IsTrue (is_prelim packet.body) → HasConclusory packet.id part

-- LISTS OF THE SHARDS THAT BEGIN AN ORDER: on each shard the order has each packet once, and it begins with the shard's list
pub record AreBeginnings (order : List Packet) (logs : List (List Packet)) : Type 0 where
  pub once : (shard : ShardId) → IsDistinct same_packet (packets_on shard order)
  pub rest : ShardId → List Packet
  pub begins : (shard : ShardId) → packets_on shard order ≡ log_of logs shard ++ rest shard
