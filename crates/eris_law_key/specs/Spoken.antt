-- What was said to clients: each moment at which a replica spoke for a packet, replied, or gave a late answer.
use Rattle.std.specs.Prelude.{◌≡◌, ◌≤◌, ◌<◌, ◌+◌, ◌*◌, ℕ, suc, true, List}
use Rattle.eris_base.specs.declared.ids.Phase.{Phase}
use Rattle.eris_base.specs.declared.ids.ReplicaId.{ReplicaId}
use Rattle.eris_base.specs.declared.ids.ShardId.{ShardId}
use Rattle.eris_base.specs.declared.ids.TxnId.{TxnId}
use Rattle.eris_base.specs.declared.ids.View.{View}
use Rattle.eris_base.specs.declared.stamp.Stamp.{Stamp}
use Rattle.eris_base.specs.Quorums.{has_replica, learner_of}
use Rattle.eris_txn.specs.declared.answer.Answer.{Answer}
use Rattle.eris_law_epoch.specs.Causes.{Spoke, Replied, GaveLate}
use Rattle.eris_law_epoch.specs.EpochWorlds.{EpochSystem, EpochEvent, member_of}
use Rattle.eris_law_key.specs.Quorums.{IsQuorum}
use Rattle.eris_law_epoch.specs.Reading.{replica_then}

module _ (system : EpochSystem) (events : List EpochEvent) where
  -- by moment k the replica spoke for the stamp in the view
  pub record SpokeThen (k : ℕ) (shard : ShardId) (view : View) (stamp : Stamp) (id : TxnId) (phase : Phase) (replica : ReplicaId) : Type 0 where
    pub moment : ℕ
    pub by : moment ≤ k
    pub there : replica.0 < 2 * system.config.f + 1
    pub spoke : Spoke (member_of system shard replica) (replica_then system events moment shard replica).view (replica_then system events moment shard replica).status (replica_then system events moment shard replica).part view shard replica stamp id phase

  -- by moment k the replica replied, as the learner of the view
  pub record RepliedThen (k : ℕ) (shard : ShardId) (view : View) (stamp : Stamp) (id : TxnId) (phase : Phase) (answer : Answer) (replica : ReplicaId) : Type 0 where
    pub moment : ℕ
    pub by : moment ≤ k
    pub there : replica.0 < 2 * system.config.f + 1
    pub replied : Replied (member_of system shard replica) (replica_then system events moment shard replica).view (replica_then system events moment shard replica).status (replica_then system events moment shard replica).part view shard replica stamp id phase answer

  -- by moment k the replica gave the answer late, in the step to this moment
  pub record GaveLateThen (k : ℕ) (shard : ShardId) (id : TxnId) (phase : Phase) (answer : Answer) (replica : ReplicaId) : Type 0 where
    pub moment_before : ℕ
    pub by : moment_before < k
    pub there : replica.0 < 2 * system.config.f + 1
    pub gave : GaveLate (member_of system shard replica) (replica_then system events moment_before shard replica)
        (replica_then system events (suc moment_before) shard replica).view (replica_then system events (suc moment_before) shard replica).status
        (replica_then system events (suc moment_before) shard replica).part (replica_then system events (suc moment_before) shard replica).settled shard replica id phase answer

  -- A SHARD IS COUNTED for an answer by moment k: f+1 replicas of it spoke for one stamp in one view, and the view's
  -- learner, one of them, replied with the answer
  pub record IsCounted (k : ℕ) (shard : ShardId) (view : View) (stamp : Stamp) (id : TxnId) (phase : Phase) (answer : Answer) : Type 0 where
    pub who : List ReplicaId
    pub quorum : IsQuorum system.config.f who
    pub each : (replica : ReplicaId) → has_replica who replica ≡ true → SpokeThen k shard view stamp id phase replica
    pub reply : RepliedThen k shard view stamp id phase answer (learner_of view system.config.f)
