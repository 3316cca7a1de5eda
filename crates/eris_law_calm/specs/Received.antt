-- THE STATE OF A REPLICA that got the packets of its shard in their order, and nothing else: it holds each under its
-- number, has dropped and found none, and has spoken for all of them, in view 0 of epoch 0.
use Rattle.std.specs.Prelude.{ℕ, ◌+◌, None, List, [], ◌∷◌, length}
use Rattle.eris_base.specs.declared.ids.ShardId.{ShardId}
use Rattle.eris_txn.specs.declared.packet.Packet.{Packet}
use Rattle.eris_log.specs.PartValues.{PartValue}
use Rattle.eris_rules.specs.declared.replica_status.ReplicaStatus.TheVariants.{Normal}
use Rattle.eris_rules.specs.ReplicaStates.{EpochReplica, ReplicaState}

-- packets with the numbers that follow one
abbrev pub numbered : ℕ → List Packet → List (ℕ × Packet)
numbered from [] = []
numbered from (packet ∷ packets) = (from + 1, packet) ∷ numbered (from + 1) packets

abbrev pub whole_part : ShardId → List Packet → PartValue
whole_part shard packets = record { epoch = record { 0 = 0 }; shard = shard; held = numbered 0 packets; temp = []; fnd = []; perm = [] }

-- its state within epoch 0, and over all epochs
abbrev pub inner_after : ShardId → List Packet → EpochReplica
inner_after shard packets =
    record {
      view = record { 0 = 0 };
      status = Normal;
      part = whole_part shard packets;
      settled = 0;
      spoken = length packets;
      asked = None;
      noted = [];
      acks = [];
    }

abbrev pub state_after : ShardId → List Packet → ReplicaState
state_after shard packets =
    record { epoch = record { 0 = 0 }; promised = record { 0 = 0 }; prior = []; inner = inner_after shard packets }
