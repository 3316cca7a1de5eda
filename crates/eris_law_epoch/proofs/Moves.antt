-- The kinds of step that an epoch makes, taken apart once: a replica takes an input, the coordinator takes a
-- message or is nudged, an ask is stamped, or nothing happens. Every invariant is one match on these.
use Rattle.std.proofs.Common.{◌≡◌, ℕ, suc, List, true, false, not, ◌&&◌, Option, Some, None, refl}
use Rattle.std.specs.Prelude.{slice_get, ⊤}
use Rattle.std.proofs.lemmas.Bool.{cond_both, and_parts, not-true}
use Rattle.eris_base.specs.declared.ids.ClientId.{ClientId}
use Rattle.eris_base.specs.declared.ids.Node.{Node}
use Rattle.eris_base.specs.declared.ids.Node.TheVariants.{Sequencer, Coordinator, Replica, Client}
use Rattle.eris_base.specs.declared.ids.ReplicaId.{ReplicaId}
use Rattle.eris_base.specs.declared.ids.ShardId.{ShardId}
use Rattle.eris_base.specs.declared.ids.TxnId.{TxnId}
use Rattle.eris_txn.specs.declared.body.Body.{Body}
use Rattle.eris_txn.specs.Bodies.{participants_of}
use Rattle.eris_sequencer.specs.Sequencers.{is_in_place}
use Rattle.eris_sequencer.specs.Stamps.{is_full}
use Rattle.eris_rules.specs.EpochCoords.{epoch_coord_step, nudge_row}
use Rattle.eris_rules.specs.EpochMessages.{EpochMessage, EpochSend}
use Rattle.eris_rules.specs.EpochReplicas.{EpochInput, Get, Probe, Suspect, Sync, epoch_step}
use Rattle.eris_rules.specs.ReplicaStates.{EpochReplica}
use Rattle.eris_rules.specs.Worlds.{replica_at}
use Rattle.eris_law_epoch.specs.EpochWorlds.{EpochSystem, EpochWorld, EpochEvent, Asks, Delivers, Probes, Suspects, Syncs, Nudges, Idles, member_of, after_stamping, asks_stamp, after_replica, replica_steps, replica_takes, after_coordinator, comes_to, arrives, happens, perhaps, moment}
use Rattle.eris_law_epoch.specs.Members.{In}
use Rattle.eris_law_epoch.proofs.Members.{In-get}

-- the input is a message that was sent to the replica, or a timer
abbrev pub Came : EpochWorld → ShardId → ReplicaId → EpochInput → Type 0
Came world shard replica (Get message) = In (record { to = Replica shard replica; message = message }) world.sent
Came world shard replica Probe = ⊤
Came world shard replica Suspect = ⊤
Came world shard replica Sync = ⊤

pub data Move (system : EpochSystem) (world : EpochWorld) : EpochWorld → Type 0 where
  Rests : Move system world world
  ReplicaMoves : (shard : ShardId) (replica : ReplicaId) (state : EpochReplica) (input : EpochInput) → replica_at world.replicas shard replica ≡ Some state → Came world shard replica input
      → Move system world (after_replica world shard replica (epoch_step (member_of system shard replica) state input))
  CoordMoves : (message : EpochMessage) → In (record { to = Coordinator; message = message }) world.sent
      → Move system world (after_coordinator world (epoch_coord_step system.config world.coordinator message))
  NudgeMoves : Move system world (after_coordinator world (nudge_row system.config world.coordinator))
  Stamps : (asker : ClientId) (id : TxnId) (body : Body) → is_in_place system.config asker id body ≡ true → is_full world.stamping.sequencer.counters (participants_of body) ≡ false
      → Move system world (after_stamping system world asker id body)

module _ (system : EpochSystem) (world : EpochWorld) where
  moves_steps : (shard : ShardId) (replica : ReplicaId) (input : EpochInput) (found : Option EpochReplica) → replica_at world.replicas shard replica ≡ found → Came world shard replica input
      → Move system world (replica_steps system world shard replica input found)
  unfolding replica_steps
  moves_steps shard replica input None h came = Rests
  moves_steps shard replica input (Some state) h came = ReplicaMoves shard replica state input h came

  moves_takes : (shard : ShardId) (replica : ReplicaId) (input : EpochInput) → Came world shard replica input → Move system world (replica_takes system world shard replica input)
  unfolding replica_takes
  moves_takes shard replica input came = moves_steps shard replica input _ refl came

  moves_comes : (node : Node) (message : EpochMessage) → In (record { to = node; message = message }) world.sent → Move system world (comes_to system world node message)
  moves_comes Sequencer message i = Rests
  moves_comes Coordinator message i = CoordMoves message i
  moves_comes (Replica shard replica) message i = moves_takes shard replica (Get message) i
  moves_comes (Client client) message i = Rests

  moves_arrives : (number : ℕ) (found : Option EpochSend) → slice_get world.sent number ≡ found → Move system world (arrives system world found)
  moves_arrives number None h = Rests
  moves_arrives number (Some one) h = moves_comes one.to one.message (In-get one world.sent number h)

  moves_asks : (asker : ClientId) (id : TxnId) (body : Body) → Move system world (asks_stamp system world asker id body)
  unfolding asks_stamp
  moves_asks asker id body =
      cond_both (is_in_place system.config asker id body && not (is_full world.stamping.sequencer.counters (participants_of body))) (after_stamping system world asker id body) world (Move system world)
      (λ h. Stamps asker id body (and_parts _ _ h).0 (not-true _ (and_parts _ _ h).1)) (λ h. Rests)

  pub moves : (event : EpochEvent) → Move system world (happens system world event)
  unfolding happens
  moves (Asks asker id body) = moves_asks asker id body
  moves (Delivers number) = moves_arrives number _ refl
  moves (Probes shard replica) = moves_takes shard replica Probe tt
  moves (Suspects shard replica) = moves_takes shard replica Suspect tt
  moves (Syncs shard replica) = moves_takes shard replica Sync tt
  moves Nudges = NudgeMoves
  moves Idles = Rests

  moves_perhaps : (event : Option EpochEvent) → Move system world (perhaps system world event)
  moves_perhaps None = Rests
  moves_perhaps (Some event) = moves event

-- each moment is reached by a step from the one before
pub moved : (system : EpochSystem) (events : List EpochEvent) (k : ℕ) → Move system (moment system events k) (moment system events (suc k))
unfolding moment
moved system events k = moves_perhaps system (moment system events k) (slice_get events k)
