-- What a message says of its sender. Each message that was sent in the epoch has a cause: an earlier moment, at
-- which a node took a step and sent it, and what held of that node then. So history needs no record of its own.
use Rattle.std.specs.Prelude.{◌≡◌, ◌<◌, ◌≤◌, ◌+◌, ◌-◌, ℕ, true, false, Some, None, List, ⊤}
use Rattle.eris_base.specs.declared.ids.Node.{Node}
use Rattle.eris_base.specs.declared.ids.Node.TheVariants.{Sequencer, Coordinator, Replica, Client}
use Rattle.eris_base.specs.declared.ids.Phase.{Phase}
use Rattle.eris_base.specs.declared.ids.Place.{Place}
use Rattle.eris_base.specs.declared.ids.ReplicaId.{ReplicaId}
use Rattle.eris_base.specs.declared.ids.ShardId.{ShardId}
use Rattle.eris_base.specs.declared.ids.TxnId.{TxnId}
use Rattle.eris_base.specs.declared.ids.View.{View}
use Rattle.eris_base.specs.declared.stamp.Stamp.{Stamp}
use Rattle.eris_txn.specs.declared.answer.Answer.{Answer}
use Rattle.eris_txn.specs.declared.packet.Packet.{Packet}
use Rattle.eris_log.specs.declared.entry.Entry.{Entry}
use Rattle.eris_log.specs.Entries.{entry_of, holder_of, length_of, own_place}
use Rattle.eris_log.specs.Growth.{HasAll, IsWithin}
use Rattle.eris_log.specs.Held.{packet_at}
use Rattle.eris_log.specs.Laws.Entries.{NoGap}
use Rattle.eris_log.specs.PartValues.{PartValue}
use Rattle.eris_log.specs.Places.{contains_place}
use Rattle.eris_locks.specs.declared.done.Done.{Done}
use Rattle.eris_locks.specs.States.{phase_of}
use Rattle.eris_rules.specs.declared.replica_status.ReplicaStatus.{ReplicaStatus}
use Rattle.eris_rules.specs.Addressees.{replica_count}
use Rattle.eris_rules.specs.CoordStates.{EpochCoord}
use Rattle.eris_rules.specs.EpochMessages.{EpochMessage, EpochSend, Stamped, Instructs, Notifies, Exchanges, Responds, Instruction, Request, Found, Dropped, Notice, Find, Has, TempDropped, Exchange, ViewChange, StartView, SyncAsk, Ack, Settled, Response, Vouch, Reply, Late}
use Rattle.eris_rules.specs.ReplicaAnswers.{log_upto, answer_after, late_answers}
use Rattle.eris_rules.specs.ReplicaStates.{Member, EpochReplica, is_normal, is_learner}
use Rattle.eris_rules.specs.Speaking.{has_gap}
use Rattle.eris_law_epoch.specs.EpochWorlds.{EpochSystem, EpochWorld, member_of}
use Rattle.eris_law_epoch.specs.Members.{In}
use Rattle.eris_law_epoch.specs.Reading.{read}

-- A LATER STATE of a replica: it has all that it had, and is in no lower view and settled no less
pub record IsLater (before after : EpochReplica) : Type 0 where
  pub part : IsWithin before.part after.part
  pub view : before.view.0 ≤ after.view.0
  pub settled : before.settled ≤ after.settled

-- ---- what holds of a replica that sent a message: of its state before the step, and of its view, status, part
-- and settled number after it
-- it asks for the place behind its length
pub record AsksFor (me : Member) (status : ReplicaStatus) (part : PartValue) (replica : ReplicaId) (place : Place) : Type 0 where
  pub own : replica ≡ me.replica
  pub normal : is_normal status ≡ true
  pub behind : place ≡ own_place part (length_of part + 1)
  pub gap : has_gap part ≡ true

-- it held the packet
pub record HadPacket (before : EpochReplica) (packet : Packet) : Type 0 where
  pub number : ℕ
  pub held : packet_at before.part.held number ≡ Some packet

-- it took part in the view, held no packet with the place, and dropped the place for a time
pub record DroppedForATime (me : Member) (before : EpochReplica) (part : PartValue) (place : Place) (shard : ShardId) (replica : ReplicaId) (view : View) : Type 0 where
  pub own_shard : shard ≡ me.shard
  pub own : replica ≡ me.replica
  pub in_view : view ≡ before.view
  pub normal : is_normal before.status ≡ true
  pub none : holder_of before.part place ≡ None
  pub temp : contains_place part.temp place ≡ true

-- it waits for the view to begin, and gives its part
pub record ShowedPart (me : Member) (now : View) (status : ReplicaStatus) (own_part : PartValue) (replica : ReplicaId) (view : View) (part : PartValue) : Type 0 where
  pub own : replica ≡ me.replica
  pub in_view : view ≡ now
  pub changing : is_normal status ≡ false
  pub same : part ≡ own_part

-- it is the learner of the view, which has begun, and gives its part
pub record BeganView (me : Member) (now : View) (status : ReplicaStatus) (own_part : PartValue) (view : View) (part : PartValue) : Type 0 where
  pub in_view : view ≡ now
  pub normal : is_normal status ≡ true
  pub learner : is_learner me view ≡ true
  pub same : part ≡ own_part

-- it is the learner of the view, which has begun
pub record Leads (me : Member) (now : View) (status : ReplicaStatus) (view : View) : Type 0 where
  pub in_view : view ≡ now
  pub normal : is_normal status ≡ true
  pub learner : is_learner me view ≡ true

-- it takes part in the view, isn't its learner, and has no gap up to the length
pub record Acknowledged (me : Member) (now : View) (status : ReplicaStatus) (part : PartValue) (replica : ReplicaId) (view : View) (length : ℕ) : Type 0 where
  pub own : replica ≡ me.replica
  pub in_view : view ≡ now
  pub normal : is_normal status ≡ true
  pub follows : is_learner me view ≡ false
  pub whole : NoGap part length

-- it is the learner of the view, has settled up to the number, and knows these places to be dropped for good
pub record ToldSettled (me : Member) (now : View) (status : ReplicaStatus) (part : PartValue) (settled : ℕ) (view : View) (number : ℕ) (places : List Place) : Type 0 where
  pub leads : Leads me now status view
  pub is_settled : number ≡ settled
  pub are_perm : places ≡ part.perm

-- It takes part in the view, has no gap up to a number, and holds there a packet that counts, with this stamp, id
-- and phase.
pub record Spoke (me : Member) (now : View) (status : ReplicaStatus) (part : PartValue) (view : View) (shard : ShardId) (replica : ReplicaId) (stamp : Stamp) (id : TxnId) (phase : Phase) : Type 0 where
  pub number : ℕ
  pub packet : Packet
  pub own_shard : shard ≡ me.shard
  pub own : replica ≡ me.replica
  pub in_view : view ≡ now
  pub normal : is_normal status ≡ true
  pub held : packet_at part.held number ≡ Some packet
  pub entry : entry_of part number ≡ Entry.Txn
  pub whole : NoGap part number
  pub of_stamp : packet.stamp ≡ stamp
  pub of_id : packet.id ≡ id
  pub of_phase : phase_of packet.body ≡ phase

-- and it is the learner, and the answer is the store's, over its log before that number, to the packet
pub record Replied (me : Member) (now : View) (status : ReplicaStatus) (part : PartValue) (view : View) (shard : ShardId) (replica : ReplicaId) (stamp : Stamp) (id : TxnId) (phase : Phase) (answer : Answer) : Type 0 where
  pub spoke : Spoke me now status part view shard replica stamp id phase
  pub learner : is_learner me view ≡ true
  pub is_answer : answer_after me.shard (log_upto me.prior part (spoke.number - 1)) spoke.packet ≡ Some answer

-- it is the learner of its view, raised its settled number, and the store gives the answer late over its log up
-- to that number, at a place above the number that was settled before
pub record GaveLate (me : Member) (before : EpochReplica) (now : View) (status : ReplicaStatus) (part : PartValue) (settled : ℕ) (shard : ShardId) (replica : ReplicaId) (id : TxnId) (phase : Phase) (answer : Answer) : Type 0 where
  pub done : Done
  pub own_shard : shard ≡ me.shard
  pub own : replica ≡ me.replica
  pub leads : Leads me now status now
  pub raised : before.settled < settled
  pub among : In done (late_answers me.shard part.epoch (log_upto me.prior part settled) before.settled)
  pub of_id : done.id ≡ id
  pub of_phase : done.phase ≡ phase
  pub is_answer : done.answer ≡ answer

abbrev pub SaysNotice : Member → EpochReplica → EpochReplica → Notice → Type 0
SaysNotice me before after (Find replica place) = AsksFor me after.status after.part replica place
SaysNotice me before after (Has packet) = HadPacket before packet
SaysNotice me before after (TempDropped place shard replica view) = DroppedForATime me before after.part place shard replica view

abbrev pub SaysExchange : Member → EpochReplica → EpochReplica → Exchange → Type 0
SaysExchange me before after (ViewChange replica view part) = ShowedPart me after.view after.status after.part replica view part
SaysExchange me before after (StartView view part) = BeganView me after.view after.status after.part view part
SaysExchange me before after (SyncAsk view) = Leads me after.view after.status view
SaysExchange me before after (Ack replica view length) = Acknowledged me after.view after.status after.part replica view length
SaysExchange me before after (Settled view number places) = ToldSettled me after.view after.status after.part after.settled view number places

-- the sender of a Vouch isn't the learner
pub record Vouched (me : Member) (now : View) (status : ReplicaStatus) (part : PartValue) (view : View) (shard : ShardId) (replica : ReplicaId) (stamp : Stamp) (id : TxnId) (phase : Phase) : Type 0 where
  pub spoke : Spoke me now status part view shard replica stamp id phase
  pub follows : is_learner me view ≡ false

abbrev pub SaysResponse : Member → EpochReplica → EpochReplica → Response → Type 0
SaysResponse me before after (Vouch view shard replica stamp id phase) = Vouched me after.view after.status after.part view shard replica stamp id phase
SaysResponse me before after (Reply view shard replica stamp id phase answer) = Replied me after.view after.status after.part view shard replica stamp id phase answer
SaysResponse me before after (Late shard replica id phase answer) = GaveLate me before after.view after.status after.part after.settled shard replica id phase answer

-- WHAT A MESSAGE SAYS of the replica that sent it; a replica sends no packet of itself and gives no instruction
abbrev pub Says : Member → EpochReplica → EpochReplica → EpochMessage → Type 0
Says me before after (Stamped packet) = ⊥
Says me before after (Instructs instruction) = ⊥
Says me before after (Notifies notice) = SaysNotice me before after notice
Says me before after (Exchanges exchange) = SaysExchange me before after exchange
Says me before after (Responds response) = SaysResponse me before after response

-- to a replica it sends only within its shard
abbrev pub IsHome : ShardId → Node → Type 0
IsHome own Sequencer = ⊤
IsHome own Coordinator = ⊤
IsHome own (Replica shard replica) = shard ≡ own
IsHome own (Client client) = ⊤

-- what an instruction says of the coordinator's state after the step that gave it
abbrev pub SaysInstruction : EpochCoord → Instruction → Type 0
SaysInstruction after (Request place) = contains_place after.asked place ≡ true
SaysInstruction after (Found packet) = In packet after.found
SaysInstruction after (Dropped place) = contains_place after.dropped place ≡ true

-- WHAT A MESSAGE SAYS of the coordinator that sent it
abbrev pub CoordSays : EpochCoord → EpochMessage → Type 0
CoordSays after (Stamped packet) = ⊥
CoordSays after (Instructs instruction) = SaysInstruction after instruction
CoordSays after (Notifies notice) = ⊥
CoordSays after (Exchanges exchange) = ⊥
CoordSays after (Responds response) = ⊥

-- THE CAUSE of a message that was sent between two worlds
pub data Cause (system : EpochSystem) (before after : EpochWorld) (one : EpochSend) : Type 0 where
  ByReplica : (shard : ShardId) (replica : ReplicaId) → shard.0 < system.config.shards → replica.0 < replica_count system.config
      → Says (member_of system shard replica) (read system before.replicas shard replica) (read system after.replicas shard replica) one.message
      → IsHome shard one.to → Cause system before after one
  ByCoordinator : CoordSays after.coordinator one.message → Cause system before after one
  BySequencer : (packet : Packet) → In packet after.stamping.stamped → one.message ≡ Stamped packet → Cause system before after one

-- ---- a later world
-- what the coordinator found and dropped stays
pub record IsCoordLater (before after : EpochCoord) : Type 0 where
  pub found : (packet : Packet) → In packet before.found → In packet after.found
  pub dropped : HasAll before.dropped after.dropped

-- A LATER WORLD of the epoch: nothing in it is undone
pub record IsWorldLater (system : EpochSystem) (before after : EpochWorld) : Type 0 where
  pub replicas : (shard : ShardId) (replica : ReplicaId) → IsLater (read system before.replicas shard replica) (read system after.replicas shard replica)
  pub coordinator : IsCoordLater before.coordinator after.coordinator
  pub stamped : (packet : Packet) → In packet before.stamping.stamped → In packet after.stamping.stamped
  pub sent : (one : EpochSend) → In one before.sent → In one after.sent
