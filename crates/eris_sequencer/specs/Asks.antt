-- What a message asks of the sequencer of an epoch, and what that sends.
use Rattle.std.specs.Prelude.{ℕ, ◌+◌, ◌*◌, Option, Some, None, List, [], map}
use Rattle.std.specs.List.{flat_map, range_with_len}
use Rattle.eris_base.specs.declared.config.Config.{Config}
use Rattle.eris_base.specs.declared.ids.Epoch.{Epoch}
use Rattle.eris_base.specs.declared.ids.Node.TheVariants.{Replica}
use Rattle.eris_base.specs.declared.ids.ShardId.{ShardId}
use Rattle.eris_txn.specs.declared.packet.Packet.{Packet}
use Rattle.eris_txn.specs.Bodies.{participants_of}
use Rattle.eris_msg.specs.declared.message.Message.{Message}
use Rattle.eris_msg.specs.declared.message.Message.TheVariants.{Ask, Txn}
use Rattle.eris_msg.specs.declared.outgoing.Outgoing.{Outgoing}
use Rattle.eris_sequencer.specs.declared.stamping.Stamping.{Stamping}
use Rattle.eris_sequencer.specs.Sequencers.{Stamped, stamp, no_stamp}

-- the packet to every replica of a shard, ascending
unfoldable pub sends_to : ℕ → Packet → ShardId → List Outgoing
sends_to f packet shard =
    map (λ replica. record { to = Replica shard (record { 0 = replica }); message = Txn packet }) (range_with_len 0 (2 * f + 1))

-- the packet to every replica of each participant, by shard and then by replica
unfoldable pub sends_of : ℕ → Packet → List Outgoing
sends_of f packet = flat_map (sends_to f packet) (participants_of packet.body)

-- the packet that was stamped, if one was
unfoldable pub sends_stamped : ℕ → Option Packet → List Outgoing
sends_stamped f None = []
sends_stamped f (Some packet) = sends_of f packet

-- what the sequencer of the epoch makes of a message: only an ask changes anything
unfoldable pub stamp_message : Config → List Stamping → Epoch → Message → Stamped
stamp_message config stampings epoch (Ask asker id body) = stamp config stampings epoch asker id body
stamp_message config stampings epoch message = no_stamp stampings

-- a message at the sequencer of the epoch: the sequencers after it, and what is sent
pub record Asked : Type 0 where
  pub stampings : List Stamping
  pub sends : List Outgoing

unfoldable pub asked_by : Config → Stamped → Asked
asked_by config stamped = record { stampings = stamped.stampings; sends = sends_stamped config.f stamped.packet }

unfoldable pub ask : Config → List Stamping → Epoch → Message → Asked
ask config stampings epoch message = asked_by config (stamp_message config stampings epoch message)
