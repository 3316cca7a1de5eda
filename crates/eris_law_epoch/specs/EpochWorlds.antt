-- THE MACHINE OF ONE EPOCH BY ITSELF: its sequencer, the coordinator and the replicas as they are within the
-- epoch, and what they say within it. A run of a whole world is, epoch by epoch, a run of this machine, moment
-- by moment: where an event concerns another epoch, or does nothing, this machine idles. So what is shown here
-- of every run of one epoch holds in each epoch of a whole run. Crashes and losses need no event: who takes no
-- step idles, and a message that is never delivered is lost.
use Rattle.std.specs.Prelude.{ℕ, zero, suc, ◌++◌, ◌&&◌, not, Option, Some, None, List, [], map, replicate, slice_get, if◌then◌else◌}
use Rattle.std.specs.List.{flat_map, range_with_len}
use Rattle.eris_base.specs.declared.ids.ClientId.{ClientId}
use Rattle.eris_base.specs.declared.ids.Epoch.{Epoch}
use Rattle.eris_base.specs.declared.ids.Node.{Node}
use Rattle.eris_base.specs.declared.ids.Node.TheVariants.{Sequencer, Coordinator, Replica, Client}
use Rattle.eris_base.specs.declared.ids.ReplicaId.{ReplicaId}
use Rattle.eris_base.specs.declared.ids.ShardId.{ShardId}
use Rattle.eris_base.specs.declared.ids.TxnId.{TxnId}
use Rattle.eris_base.specs.ConfigLimits.{ConfigValue}
use Rattle.eris_txn.specs.declared.body.Body.{Body}
use Rattle.eris_txn.specs.declared.packet.Packet.{Packet}
use Rattle.eris_txn.specs.Bodies.{participants_of}
use Rattle.eris_sequencer.specs.declared.stamping.Stamping.{Stamping}
use Rattle.eris_sequencer.specs.Sequencers.{new_stamping, is_in_place}
use Rattle.eris_sequencer.specs.Stamps.{is_full, next_packet, stamped_next}
use Rattle.eris_rules.specs.Addressees.{replica_count, shard_replicas}
use Rattle.eris_rules.specs.CoordStates.{EpochCoord, EpochCoordOut, nothing_asked}
use Rattle.eris_rules.specs.EpochCoords.{epoch_coord_step, nudge_row}
use Rattle.eris_rules.specs.EpochMessages.{EpochMessage, EpochSend, Stamped, send_each}
use Rattle.eris_rules.specs.EpochReplicas.{EpochInput, Get, Probe, Suspect, Sync, epoch_step}
use Rattle.eris_rules.specs.ReplicaStates.{Member, EpochReplica, EpochOut, fresh}
use Rattle.eris_rules.specs.Worlds.{replica_at, with_replica}

-- Which epoch of which system it is. `prior` are, shard by shard, the packets of the epochs before, in order:
-- every replica that begins the epoch begins it with these.
pub record EpochSystem : Type 0 where
  pub config : ConfigValue
  pub epoch : Epoch
  pub prior : ShardId → List Packet

-- THE STATE OF THE EPOCH: its sequencer, with what it stamped; the coordinator; the replicas, by shard and
-- replica, fresh until they begin the epoch; and every message that was sent in it, numbered from 0.
pub record EpochWorld : Type 0 where
  pub stamping : Stamping
  pub coordinator : EpochCoord
  pub replicas : List (List EpochReplica)
  pub sent : List EpochSend

-- a replica as a member of its shard in the epoch
abbrev pub member_of : EpochSystem → ShardId → ReplicaId → Member
member_of system shard replica =
    record { config = system.config; shard = shard; replica = replica; prior = system.prior shard }

-- the replicas of a shard before they take a step
unfoldable pub fresh_replicas : EpochSystem → ShardId → List EpochReplica
fresh_replicas system shard = replicate (replica_count system.config) (fresh system.epoch shard)

-- nothing is stamped, asked, held or sent
unfoldable pub first_epoch_world : EpochSystem → EpochWorld
first_epoch_world system =
    record {
      stamping = new_stamping system.config system.epoch;
      coordinator = nothing_asked;
      replicas = map (λ number. fresh_replicas system (record { 0 = number })) (range_with_len 0 system.config.shards);
      sent = [];
    }

-- what may happen in the epoch
pub data EpochEvent : Type 0 where
  -- an ask comes to the epoch's sequencer
  Asks : (asker : ClientId) (id : TxnId) (body : Body) → EpochEvent
  -- the message of this number comes to its node, for the first time or again
  Delivers : (number : ℕ) → EpochEvent
  -- the timers of a replica
  Probes : (shard : ShardId) (replica : ReplicaId) → EpochEvent
  Suspects : (shard : ShardId) (replica : ReplicaId) → EpochEvent
  Syncs : (shard : ShardId) (replica : ReplicaId) → EpochEvent
  -- the coordinator's timer
  Nudges : EpochEvent
  -- nothing
  Idles : EpochEvent

-- a stamped packet goes to every replica of each participant, by shard and then by replica
unfoldable pub packet_sends : ConfigValue → Packet → List EpochSend
packet_sends config packet =
    flat_map (λ shard. send_each (shard_replicas config shard) (Stamped packet)) (participants_of packet.body)

-- the epoch after a stamping
unfoldable pub after_stamping : EpochSystem → EpochWorld → ClientId → TxnId → Body → EpochWorld
after_stamping system world asker id body =
    record world {
      stamping = stamped_next world.stamping id asker body;
      sent = world.sent ++ packet_sends system.config (next_packet world.stamping.sequencer id asker body);
    }

-- an ask that is out of place, or that would pass a counter's end, is not stamped
unfoldable pub asks_stamp : EpochSystem → EpochWorld → ClientId → TxnId → Body → EpochWorld
asks_stamp system world asker id body =
    if is_in_place system.config asker id body && not (is_full world.stamping.sequencer.counters (participants_of body))
    then after_stamping system world asker id body
    else world

-- the epoch after a step of a replica
unfoldable pub after_replica : EpochWorld → ShardId → ReplicaId → EpochOut → EpochWorld
after_replica world shard replica out =
    record world { replicas = with_replica world.replicas shard replica out.state; sent = world.sent ++ out.sends }

unfoldable pub replica_steps : EpochSystem → EpochWorld → ShardId → ReplicaId → EpochInput → Option EpochReplica → EpochWorld
replica_steps system world shard replica input None = world
replica_steps system world shard replica input (Some state) =
    after_replica world shard replica (epoch_step (member_of system shard replica) state input)

-- a replica takes an input, if there is such a one
unfoldable pub replica_takes : EpochSystem → EpochWorld → ShardId → ReplicaId → EpochInput → EpochWorld
replica_takes system world shard replica input =
    replica_steps system world shard replica input (replica_at world.replicas shard replica)

-- the epoch after a step of the coordinator
unfoldable pub after_coordinator : EpochWorld → EpochCoordOut → EpochWorld
after_coordinator world out = record world { coordinator = out.state; sent = world.sent ++ out.sends }

-- a message comes to its node; what is for a client leaves the epoch
abbrev pub comes_to : EpochSystem → EpochWorld → Node → EpochMessage → EpochWorld
comes_to system world Sequencer message = world
comes_to system world Coordinator message =
    after_coordinator world (epoch_coord_step system.config world.coordinator message)
comes_to system world (Replica shard replica) message = replica_takes system world shard replica (Get message)
comes_to system world (Client client) message = world

abbrev pub arrives : EpochSystem → EpochWorld → Option EpochSend → EpochWorld
arrives system world None = world
arrives system world (Some one) = comes_to system world one.to one.message

-- WHAT AN EVENT DOES. Where it names what isn't there, nothing is done.
unfoldable pub happens : EpochSystem → EpochWorld → EpochEvent → EpochWorld
happens system world (Asks asker id body) = asks_stamp system world asker id body
happens system world (Delivers number) = arrives system world (slice_get world.sent number)
happens system world (Probes shard replica) = replica_takes system world shard replica Probe
happens system world (Suspects shard replica) = replica_takes system world shard replica Suspect
happens system world (Syncs shard replica) = replica_takes system world shard replica Sync
happens system world Nudges = after_coordinator world (nudge_row system.config world.coordinator)
happens system world Idles = world

-- past the end of the events nothing happens
abbrev pub perhaps : EpochSystem → EpochWorld → Option EpochEvent → EpochWorld
perhaps system world None = world
perhaps system world (Some event) = happens system world event

-- THE MOMENT of a run: the epoch after the first so many events, from its start
unfoldable pub moment : EpochSystem → List EpochEvent → ℕ → EpochWorld
moment system events zero = first_epoch_world system
moment system events (suc number) = perhaps system (moment system events number) (slice_get events number)
