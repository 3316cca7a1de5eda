-- How an epoch of a whole world looks alone: the machine of one epoch in which every replica is fresh until it
-- begins the epoch, and stays as it was once it has gone on.
use Rattle.std.specs.Prelude.{◌≡◌, ◌<◌, Option, Some, None, List, slice_get}
use Rattle.eris_base.specs.declared.ids.Epoch.{Epoch}
use Rattle.eris_base.specs.declared.ids.Node.{Node}
use Rattle.eris_base.specs.declared.ids.ReplicaId.{ReplicaId}
use Rattle.eris_base.specs.declared.ids.ShardId.{ShardId}
use Rattle.eris_base.specs.ConfigLimits.{ConfigValue}
use Rattle.eris_msg.specs.declared.message.Message.{Message}
use Rattle.eris_sequencer.specs.declared.stamping.Stamping.{Stamping}
use Rattle.eris_sequencer.specs.Sequencers.{new_stamping}
use Rattle.eris_rules.specs.CoordStates.{nothing_asked}
use Rattle.eris_rules.specs.EpochMessages.{EpochMessage}
use Rattle.eris_rules.specs.Outer.{inner_of}
use Rattle.eris_rules.specs.ReplicaStates.{ReplicaState, EpochReplica, first_state, fresh}
use Rattle.eris_rules.specs.Worlds.{replica_at}
use Rattle.eris_law_epoch.specs.EpochWorlds.{EpochSystem, EpochWorld}
use Rattle.eris_law_epoch.specs.Members.{In}
use Rattle.eris_law_epoch.specs.Reading.{read}
use Rattle.eris_law_agreement.specs.Servers.{Servers}

abbrev pub or_first : ShardId → Option ReplicaState → ReplicaState
or_first shard None = first_state shard
or_first shard (Some state) = state

-- the replica's state, or that of one which begins, where there is no such replica
unfoldable pub state_of : List (List ReplicaState) → ShardId → ReplicaId → ReplicaState
state_of rows shard replica = or_first shard (replica_at rows shard replica)

abbrev pub stamping_or : Stamping → Option Stamping → Stamping
stamping_or none None = none
stamping_or none (Some stamping) = stamping

-- the sequencer of an epoch, or one that has stamped nothing, where it hasn't begun
unfoldable pub stamping_of : ConfigValue → List Stamping → Epoch → Stamping
stamping_of config stampings epoch = stamping_or (new_stamping config epoch) (slice_get stampings epoch.0)

-- THE EPOCH ALONE: this world of one epoch is how the epoch looks among the servers
pub record IsAlone (system : EpochSystem) (now : Servers) (alone : EpochWorld) : Type 0 where
  pub there : (shard : ShardId) (replica : ReplicaId) → (state_of now.replicas shard replica).epoch ≡ system.epoch
      → read system alone.replicas shard replica ≡ (state_of now.replicas shard replica).inner
  pub not_yet : (shard : ShardId) (replica : ReplicaId) → (state_of now.replicas shard replica).epoch.0 < system.epoch.0
      → read system alone.replicas shard replica ≡ fresh system.epoch shard
  pub found : (shard : ShardId) (replica : ReplicaId) (state : ReplicaState) → replica_at now.replicas shard replica ≡ Some state
      → (inner : EpochReplica) × (replica_at alone.replicas shard replica ≡ Some inner)
  pub coordinator : now.coordinator.current ≡ system.epoch → alone.coordinator ≡ now.coordinator.inner
  pub coordinator_not_yet : now.coordinator.current.0 < system.epoch.0 → alone.coordinator ≡ nothing_asked
  pub stamping : alone.stamping ≡ stamping_of system.config now.stampings system.epoch
  pub sent : (node : Node) (message : Message) (inner : EpochMessage) → In (record { to = node; message = message }) now.sent
      → inner_of message ≡ Some (record { epoch = system.epoch; message = inner }) → In (record { to = node; message = inner }) alone.sent

-- one event, and what it leaves of the epoch as it was: whoever promised a higher epoch is frozen in it, and so is
-- the coordinator, once a higher epoch is current
pub record Follows (system : EpochSystem) (now after : Servers) (alone next : EpochWorld) : Type 0 where
  pub is_alone : IsAlone system after next
  pub frozen : (shard : ShardId) (replica : ReplicaId) → system.epoch.0 < (state_of now.replicas shard replica).promised.0
      → read system next.replicas shard replica ≡ read system alone.replicas shard replica
  pub closed : system.epoch.0 < after.coordinator.current.0 → next.coordinator ≡ alone.coordinator
