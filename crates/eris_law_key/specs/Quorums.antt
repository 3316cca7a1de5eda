-- What a quorum of a shard did: each of f+1 different replicas, at a moment of its own.
use Rattle.std.specs.Prelude.{◌≡◌, ◌≤◌, ◌<◌, ◌+◌, ◌*◌, ℕ, suc, true, List}
use Rattle.eris_base.specs.declared.ids.Place.{Place}
use Rattle.eris_base.specs.declared.ids.ReplicaId.{ReplicaId}
use Rattle.eris_base.specs.declared.ids.ShardId.{ShardId}
use Rattle.eris_base.specs.declared.ids.View.{View}
use Rattle.eris_base.specs.Each.{Each}
use Rattle.eris_base.specs.Quorums.{are_quorum, has_replica, learner_of}
use Rattle.eris_log.specs.Entries.{covers}
use Rattle.eris_log.specs.Growth.{HasAll, IsWithin}
use Rattle.eris_log.specs.Laws.Entries.{NoGap}
use Rattle.eris_log.specs.PartValues.{PartValue}
use Rattle.eris_rules.specs.ReplicaStates.{is_normal}
use Rattle.eris_law_epoch.specs.EpochWorlds.{EpochSystem, EpochEvent, member_of}
use Rattle.eris_law_epoch.specs.Causes.{DroppedForATime}
use Rattle.eris_law_epoch.specs.Reading.{replica_then}

-- f+1 different replicas of the 2f+1 of a shard
pub record IsQuorum (f : ℕ) (who : List ReplicaId) : Type 0 where
  pub below : Each (λ one. one.0 < 2 * f + 1) who
  pub many : are_quorum who f ≡ true

module _ (system : EpochSystem) (events : List EpochEvent) where
  -- by moment k the replica was in the view, with a part that is within this one
  pub record Had (k : ℕ) (shard : ShardId) (view : View) (part : PartValue) (replica : ReplicaId) : Type 0 where
    pub moment : ℕ
    pub by : moment ≤ k
    pub there : replica.0 < 2 * system.config.f + 1
    pub in_view : (replica_then system events moment shard replica).view ≡ view
    pub within : IsWithin (replica_then system events moment shard replica).part part

  -- the part has all that some quorum of the shard had in the view
  pub record IsBacked (k : ℕ) (shard : ShardId) (view : View) (part : PartValue) : Type 0 where
    pub who : List ReplicaId
    pub quorum : IsQuorum system.config.f who
    pub each : (replica : ReplicaId) → has_replica who replica ≡ true → Had k shard view part replica

  -- by moment k the replica took part in the view and had no gap up to the number
  pub record Reached (k : ℕ) (shard : ShardId) (view : View) (number : ℕ) (replica : ReplicaId) : Type 0 where
    pub moment : ℕ
    pub by : moment ≤ k
    pub there : replica.0 < 2 * system.config.f + 1
    pub in_view : (replica_then system events moment shard replica).view ≡ view
    pub normal : is_normal (replica_then system events moment shard replica).status ≡ true
    pub whole : NoGap (replica_then system events moment shard replica).part number

  -- A QUORUM SPOKE PAST the number in the view: f+1 replicas of the shard reached it, the view's learner among them
  pub record SpokePast (k : ℕ) (shard : ShardId) (view : View) (number : ℕ) : Type 0 where
    pub who : List ReplicaId
    pub quorum : IsQuorum system.config.f who
    pub each : (replica : ReplicaId) → has_replica who replica ≡ true → Reached k shard view number replica
    pub learner : Reached k shard view number (learner_of view system.config.f)

  -- the replica dropped the place for a time in the view, at a moment before k
  pub record DroppedThen (k : ℕ) (shard : ShardId) (view : View) (place : Place) (replica : ReplicaId) : Type 0 where
    pub moment : ℕ
    pub by : moment < k
    pub dropped : DroppedForATime (member_of system shard replica) (replica_then system events moment shard replica) (replica_then system events (suc moment) shard replica).part place shard replica view

  -- A QUORUM DROPPED the place for a time in some view, its learner among it
  pub record IsAgreed (k : ℕ) (shard : ShardId) (place : Place) : Type 0 where
    pub view : View
    pub who : List ReplicaId
    pub quorum : IsQuorum system.config.f who
    pub each : (replica : ReplicaId) → has_replica who replica ≡ true → DroppedThen k shard view place replica
    pub learner : has_replica who (learner_of view system.config.f) ≡ true

  -- WHY A NUMBER IS SETTLED: a quorum spoke past it in some view; what that view's learner knew to be dropped then is
  -- dropped here; and each place up to it is held or dropped here
  pub record IsSettledBy (k : ℕ) (shard : ShardId) (number : ℕ) (part : PartValue) : Type 0 where
    pub view : View
    pub past : SpokePast k shard view number
    pub perm : HasAll (replica_then system events past.learner.moment shard (learner_of view system.config.f)).part.perm part.perm
    pub covered : covers part number ≡ true
