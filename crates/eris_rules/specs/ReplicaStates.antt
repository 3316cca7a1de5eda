-- What a replica is, within one epoch and over all of them.
use Rattle.std.specs.Prelude.{ℕ, Bool, true, false, nat_lt, Option, None, List, []}
use Rattle.eris_base.specs.declared.ids.Epoch.{Epoch}
use Rattle.eris_base.specs.declared.ids.Node.{Node}
use Rattle.eris_base.specs.declared.ids.Node.TheVariants.{Replica}
use Rattle.eris_base.specs.declared.ids.ReplicaId.{ReplicaId}
use Rattle.eris_base.specs.declared.ids.ShardId.{ShardId}
use Rattle.eris_base.specs.declared.ids.View.{View}
use Rattle.eris_base.specs.ConfigLimits.{ConfigValue}
use Rattle.eris_base.specs.Quorums.{learner_of, same_replica}
use Rattle.eris_txn.specs.declared.packet.Packet.{Packet}
use Rattle.eris_log.specs.PartValues.{PartValue}
use Rattle.eris_log.specs.Parts.{empty_part}
use Rattle.eris_msg.specs.declared.outgoing.Outgoing.{Outgoing}
use Rattle.eris_rules.specs.declared.replica_status.ReplicaStatus.{ReplicaStatus}
use Rattle.eris_rules.specs.declared.replica_status.ReplicaStatus.TheVariants.{Normal, Changing}
use Rattle.eris_rules.specs.Addressees.{other_replicas}
use Rattle.eris_rules.specs.EpochMessages.{EpochSend}

-- which replica of which system it is
pub record Identity : Type 0 where
  pub config : ConfigValue
  pub shard : ShardId
  pub replica : ReplicaId

-- Within one epoch it is this member of its shard. `prior` are the packets of the epochs before, on the
-- shard, in order: the log of this epoch goes on from them.
pub record Member : Type 0 where
  pub config : ConfigValue
  pub shard : ShardId
  pub replica : ReplicaId
  pub prior : List Packet

-- A replica's state within one epoch. `settled` is the number up to which its log is kept by a quorum for
-- good, `spoken` the number up to which it has told clients in this view, `asked` the number that it last
-- asked the coordinator for. `noted` are the parts that it has as the learner of a view that is to begin,
-- `acks` the lengths that it has as the learner of one that has begun.
pub record EpochReplica : Type 0 where
  pub view : View
  pub status : ReplicaStatus
  pub part : PartValue
  pub settled : ℕ
  pub spoken : ℕ
  pub asked : Option ℕ
  pub noted : List (ReplicaId × PartValue)
  pub acks : List (ReplicaId × ℕ)

-- what a step within an epoch gives
pub record EpochOut : Type 0 where
  pub state : EpochReplica
  pub sends : List EpochSend

-- A replica's state over all epochs: the epoch that it is in, the highest one that it promised to wait for,
-- the packets of the epochs before its own, and its state within its own.
pub record ReplicaState : Type 0 where
  pub epoch : Epoch
  pub promised : Epoch
  pub prior : List Packet
  pub inner : EpochReplica

-- what a step gives
pub record ReplicaOut : Type 0 where
  pub state : ReplicaState
  pub sends : List Outgoing

-- nothing is sent
abbrev pub quiet : EpochReplica → EpochOut
quiet state = record { state = state; sends = [] }

abbrev pub is_normal : ReplicaStatus → Bool
is_normal Normal = true
is_normal Changing = false

-- the learner of a view is chosen by the view's number alone, so that nobody needs to elect it
abbrev pub is_learner : Member → View → Bool
is_learner me view = same_replica me.replica (learner_of view me.config.f)

-- the learner of a view in the own shard
abbrev pub learner_node : Member → View → Node
learner_node me view = Replica me.shard (learner_of view me.config.f)

abbrev pub others : Member → List Node
others me = other_replicas me.config me.shard me.replica

-- a replica that begins an epoch: it knows nothing, and is in view 0
unfoldable pub fresh : Epoch → ShardId → EpochReplica
fresh epoch shard =
    record {
      view = record { 0 = 0 };
      status = Normal;
      part = empty_part epoch shard;
      settled = 0;
      spoken = 0;
      asked = None;
      noted = [];
      acks = [];
    }

-- a replica in the epoch that it has promised, with the packets of the epochs before
unfoldable pub begun : Epoch → ShardId → List Packet → ReplicaState
begun epoch shard prior = record { epoch = epoch; promised = epoch; prior = prior; inner = fresh epoch shard }

-- every replica starts in epoch 0
unfoldable pub first_state : ShardId → ReplicaState
first_state shard = begun (record { 0 = 0 }) shard []

-- It has promised a higher epoch than its own, so it takes no part in its own any more.
abbrev pub is_stopped : ReplicaState → Bool
is_stopped state = nat_lt state.epoch.0 state.promised.0
