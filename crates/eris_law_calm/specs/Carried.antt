-- THE PACKETS ON THEIR WAY TO A REPLICA, in the order in which they were sent.
use Rattle.std.specs.Prelude.{ℕ, Bool, false, cond, ◌==◌, ◌&&◌, List, [], ◌∷◌, ◌++◌}
use Rattle.eris_base.specs.declared.ids.Node.{Node}
use Rattle.eris_base.specs.declared.ids.Node.TheVariants.{Replica}
use Rattle.eris_base.specs.declared.ids.ReplicaId.{ReplicaId}
use Rattle.eris_base.specs.declared.ids.ShardId.{ShardId}
use Rattle.eris_txn.specs.declared.packet.Packet.{Packet}
use Rattle.eris_msg.specs.declared.message.Message.{Message}
use Rattle.eris_msg.specs.declared.message.Message.TheVariants.{Txn}
use Rattle.eris_msg.specs.declared.outgoing.Outgoing.{Outgoing}

abbrev pub packet_in : Message → List Packet
packet_in (Message.Txn packet) = packet ∷ []
packet_in message = []

abbrev pub is_to : ShardId → ReplicaId → Node → Bool
is_to shard replica (Replica s r) = (s.0 == shard.0) && (r.0 == replica.0)
is_to shard replica node = false

-- the packets in messages to a replica
abbrev pub coming : ShardId → ReplicaId → List Outgoing → List Packet
coming shard replica [] = []
coming shard replica (one ∷ sent) = cond (is_to shard replica one.to) (packet_in one.message) [] ++ coming shard replica sent

-- a packet to a replica
abbrev pub carrying : Packet → ShardId → ℕ → Outgoing
carrying packet shard replica = record { to = Replica shard (record { 0 = replica }); message = Txn packet }
