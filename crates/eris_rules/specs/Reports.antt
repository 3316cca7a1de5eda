-- What a report tells of a world.
use Rattle.std.specs.Prelude.{ℕ, ◌+◌, Bool, List, [], ◌∷◌, ◌++◌, length, if◌then◌else◌}
use Rattle.eris_base.specs.declared.ids.ReplicaId.{ReplicaId}
use Rattle.eris_base.specs.declared.ids.ShardId.{ShardId}
use Rattle.eris_base.specs.ConfigLimits.{ConfigValue}
use Rattle.eris_log.specs.Entries.{length_of}
use Rattle.eris_event.specs.declared.report.ReplicaLine.{ReplicaLine}
use Rattle.eris_event.specs.declared.report.ReplicaState.{ReplicaState as LineState}
use Rattle.eris_event.specs.declared.report.ReplicaState.TheVariants.{Crashed, Stopped, Normal, Changing}
use Rattle.eris_event.specs.declared.report.Report.{Report}
use Rattle.eris_rules.specs.ReplicaStates.{ReplicaState, is_normal, is_stopped}
use Rattle.eris_rules.specs.WorldOrders.{lines_of_world}
use Rattle.eris_rules.specs.Worlds.{WorldState, has_crashed}

-- what a replica is doing: it has crashed, or it has stopped for a higher epoch, or it is in its view
unfoldable pub line_state : Bool → ReplicaState → LineState
line_state crashed state =
    if crashed then Crashed
    else if is_stopped state then Stopped
    else if is_normal state.inner.status then Normal
    else Changing

unfoldable pub replica_line : WorldState → ShardId → ReplicaId → ReplicaState → ReplicaLine
replica_line world shard replica state =
    record {
      shard = shard;
      replica = replica;
      state = line_state (has_crashed world shard replica) state;
      epoch = state.epoch;
      view = state.inner.view;
      held = length state.inner.part.held;
      length = length_of state.inner.part;
      settled = state.inner.settled;
    }

-- a line for each replica of a shard, from this number on
unfoldable pub shard_lines : WorldState → ShardId → ℕ → List ReplicaState → List ReplicaLine
shard_lines world shard number [] = []
shard_lines world shard number (state ∷ states) =
    replica_line world shard (record { 0 = number }) state ∷ shard_lines world shard (number + 1) states

-- and for each replica of each shard, from this number on
unfoldable pub all_lines : WorldState → ℕ → List (List ReplicaState) → List ReplicaLine
all_lines world number [] = []
all_lines world number (row ∷ rows) = shard_lines world (record { 0 = number }) 0 row ++ all_lines world (number + 1) rows

-- THE REPORT of a world
unfoldable pub report_of : ConfigValue → WorldState → Report
report_of config world =
    record {
      config = config;
      history = world.history;
      order = lines_of_world world;
      replicas = all_lines world 0 world.replicas;
      current = world.coordinator.current;
      target = world.coordinator.target;
      found = length world.coordinator.inner.found;
      dropped = length world.coordinator.inner.dropped;
      sent = length world.sent;
    }
