-- Closed cuts of what a world's replicas have settled.
use Rattle.std.specs.Prelude.{◌≡◌, ◌<◌, ℕ, Some, List, length}
use Rattle.eris_base.specs.ConfigLimits.{ConfigValue}
use Rattle.eris_base.specs.declared.ids.ReplicaId.{ReplicaId}
use Rattle.eris_base.specs.declared.ids.ShardId.{ShardId}
use Rattle.eris_txn.specs.declared.packet.Packet.{Packet}
use Rattle.eris_event.specs.declared.event.Event.{Event}
use Rattle.eris_cut.specs.Cuts.{IsClosed, log_of}
use Rattle.eris_rules.specs.Good.{settled_log}
use Rattle.eris_rules.specs.ReplicaStates.{ReplicaState}
use Rattle.eris_rules.specs.Runs.{run}
use Rattle.eris_rules.specs.Worlds.{WorldState, replica_at}
use Rattle.eris_law_course.specs.Accepted.{AreEventsFit}

-- a list is what some replica of the shard has settled, be it crashed or not
pub record IsSettledLog (world : WorldState) (shard : ShardId) (log : List Packet) : Type 0 where
  pub replica : ReplicaId
  pub state : ReplicaState
  pub there : replica_at world.replicas shard replica ≡ Some state
  pub is : log ≡ settled_log state

-- A CLOSED CUT OF SETTLED LOGS, of the world that a run ends in: each list is a settled log of its shard
pub record IsSettledCut (config : ConfigValue) (events : List Event) (world : WorldState) (logs : List (List Packet)) (lengths : List ℕ) : Type 0 where
  pub fit : AreEventsFit events
  pub runs : run config events ≡ Some world
  pub settled : (shard : ShardId) → shard.0 < length logs → IsSettledLog world shard (log_of logs shard)
  pub closed : IsClosed logs lengths
