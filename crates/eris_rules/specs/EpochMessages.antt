-- The messages of one epoch, by who says them to whom. They are said within the epoch, so they don't name it;
-- the packets, places and parts that they carry are whole, as they stand in every epoch.
use Rattle.std.specs.Prelude.{ℕ, List, map}
use Rattle.eris_base.specs.declared.ids.Node.{Node}
use Rattle.eris_base.specs.declared.ids.Phase.{Phase}
use Rattle.eris_base.specs.declared.ids.Place.{Place}
use Rattle.eris_base.specs.declared.ids.ReplicaId.{ReplicaId}
use Rattle.eris_base.specs.declared.ids.ShardId.{ShardId}
use Rattle.eris_base.specs.declared.ids.TxnId.{TxnId}
use Rattle.eris_base.specs.declared.ids.View.{View}
use Rattle.eris_base.specs.declared.stamp.Stamp.{Stamp}
use Rattle.eris_txn.specs.declared.answer.Answer.{Answer}
use Rattle.eris_txn.specs.declared.packet.Packet.{Packet}
use Rattle.eris_log.specs.PartValues.{PartValue}

-- the coordinator to replicas: it asks for a place, or tells what became of it
pub data Instruction : Type 0 where
  Request : (place : Place) → Instruction
  Found : (packet : Packet) → Instruction
  Dropped : (place : Place) → Instruction

-- a replica to the coordinator: it lacks a place, has a packet, or dropped a place for a time
pub data Notice : Type 0 where
  Find : (replica : ReplicaId) (place : Place) → Notice
  Has : (packet : Packet) → Notice
  TempDropped : (place : Place) (shard : ShardId) (replica : ReplicaId) (view : View) → Notice

-- the replicas of a shard to each other: on the way to a view, and on how far the log is settled
pub data Exchange : Type 0 where
  ViewChange : (replica : ReplicaId) (view : View) (part : PartValue) → Exchange
  StartView : (view : View) (part : PartValue) → Exchange
  SyncAsk : (view : View) → Exchange
  Ack : (replica : ReplicaId) (view : View) (length : ℕ) → Exchange
  Settled : (view : View) (number : ℕ) (places : List Place) → Exchange

-- a replica to a client
pub data Response : Type 0 where
  Vouch : (view : View) (shard : ShardId) (replica : ReplicaId) (stamp : Stamp) (id : TxnId) (phase : Phase) → Response
  Reply : (view : View) (shard : ShardId) (replica : ReplicaId) (stamp : Stamp) (id : TxnId) (phase : Phase) (answer : Answer) → Response
  Late : (shard : ShardId) (replica : ReplicaId) (id : TxnId) (phase : Phase) (answer : Answer) → Response

pub data EpochMessage : Type 0 where
  -- the sequencer to the replicas of the shards that the packet's stamp names
  Stamped : (packet : Packet) → EpochMessage
  Instructs : (instruction : Instruction) → EpochMessage
  Notifies : (notice : Notice) → EpochMessage
  Exchanges : (exchange : Exchange) → EpochMessage
  Responds : (response : Response) → EpochMessage

-- a message of the epoch, and to whom
pub record EpochSend : Type 0 where
  pub to : Node
  pub message : EpochMessage

abbrev pub send : Node → EpochMessage → EpochSend
send node message = record { to = node; message = message }

-- the message to each of the nodes, in their order
abbrev pub send_each : List Node → EpochMessage → List EpochSend
send_each nodes message = map (λ node. send node message) nodes
