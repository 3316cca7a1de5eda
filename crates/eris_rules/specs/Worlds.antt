-- All nodes, and the network between them.
use Rattle.std.specs.Prelude.{ℕ, ◌==◌, ◌&&◌, not, Bool, Option, Some, None, List, [], ◌∷◌, ◌++◌, map, length, replicate, slice_get, slice_set}
use Rattle.std.specs.List.{filter, list_any, range_with_len}
use Rattle.eris_base.specs.declared.ids.ClientId.{ClientId}
use Rattle.eris_base.specs.declared.ids.ReplicaId.{ReplicaId}
use Rattle.eris_base.specs.declared.ids.ShardId.{ShardId}
use Rattle.eris_base.specs.ConfigLimits.{ConfigValue}
use Rattle.eris_txn.specs.declared.history.HistoryEvent.{HistoryEvent}
use Rattle.eris_msg.specs.declared.outgoing.Outgoing.{Outgoing}
use Rattle.eris_sequencer.specs.declared.stamping.Stamping.{Stamping}
use Rattle.eris_sequencer.specs.Sequencers.{first_stampings}
use Rattle.eris_rules.specs.Addressees.{replica_count}
use Rattle.eris_rules.specs.ClientStates.{ClientState, first_client}
use Rattle.eris_rules.specs.CoordStates.{CoordState, first_coordinator}
use Rattle.eris_rules.specs.ReplicaStates.{ReplicaState, first_state}

-- THE STATE OF A WORLD: the sequencers of all epochs, with what they stamped; the coordinator; the replicas, by
-- shard and replica; the clients; every message that was ever sent, numbered from 0 in order of sending; the
-- numbers of those that were neither delivered nor lost yet, ascending; the replicas that have crashed; and what
-- happened at the clients. Nothing is ever taken from the sent messages, so each can be delivered again.
pub record WorldState : Type 0 where
  pub stampings : List Stamping
  pub coordinator : CoordState
  pub replicas : List (List ReplicaState)
  pub clients : List ClientState
  pub sent : List Outgoing
  pub waiting : List ℕ
  pub crashed : List (ShardId × ReplicaId)
  pub history : List HistoryEvent

-- the replicas of a shard at their start
unfoldable pub first_replicas : ConfigValue → ShardId → List ReplicaState
first_replicas config shard = replicate (replica_count config) (first_state shard)

-- every node at its start, and nothing sent
unfoldable pub first_world : ConfigValue → WorldState
first_world config =
    record {
      stampings = first_stampings config;
      coordinator = first_coordinator;
      replicas = map (λ number. first_replicas config (record { 0 = number })) (range_with_len 0 config.shards);
      clients = replicate config.clients first_client;
      sent = [];
      waiting = [];
      crashed = [];
      history = [];
    }

abbrev pub in_row : {X : Type 0} → Option (List X) → ℕ → Option X
in_row None number = None
in_row (Some row) number = slice_get row number

-- what stands for a replica, if there is such a one
unfoldable pub replica_at : {X : Type 0} → List (List X) → ShardId → ReplicaId → Option X
replica_at rows shard replica = in_row (slice_get rows shard.0) replica.0

abbrev pub with_in_row : {X : Type 0} → List (List X) → ℕ → Option (List X) → ℕ → X → List (List X)
with_in_row rows at None number item = rows
with_in_row rows at (Some row) number item = slice_set rows at (slice_set row number item)

-- the same with another one for the replica
unfoldable pub with_replica : {X : Type 0} → List (List X) → ShardId → ReplicaId → X → List (List X)
with_replica rows shard replica item = with_in_row rows shard.0 (slice_get rows shard.0) replica.0 item

-- what stands for a client, if there is such a one
unfoldable pub client_at : List ClientState → ClientId → Option ClientState
client_at clients client = slice_get clients client.0

abbrev pub same_replica_of : ShardId → ReplicaId → ShardId × ReplicaId → Bool
same_replica_of shard replica pair = pair.0.0 == shard.0 && pair.1.0 == replica.0

-- the replica has crashed
unfoldable pub has_crashed : WorldState → ShardId → ReplicaId → Bool
has_crashed world shard replica = list_any (same_replica_of shard replica) world.crashed

-- sent messages get the next numbers, and wait
unfoldable pub with_sends : WorldState → List Outgoing → WorldState
with_sends world sends =
    record world {
      sent = world.sent ++ sends;
      waiting = world.waiting ++ range_with_len (length world.sent) (length sends);
    }

-- a message that was delivered or lost waits no more
unfoldable pub no_longer_waiting : WorldState → ℕ → WorldState
no_longer_waiting world number = record world { waiting = filter (λ other. not (other == number)) world.waiting }

abbrev pub with_event : List HistoryEvent → Option HistoryEvent → List HistoryEvent
with_event history None = history
with_event history (Some event) = history ++ event ∷ []
