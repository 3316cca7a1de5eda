-- What holds of every part and message of an epoch, wherever it stands: each packet was stamped in the epoch and
-- stands at the number that its stamp gives the shard; what is found was found, and what is dropped was dropped;
-- and all is of the epoch.
use Rattle.std.specs.Prelude.{◌≡◌, ℕ, true, List, ⊤}
use Rattle.std.specs.List.{AllByRecursion}
use Rattle.eris_base.specs.declared.ids.Epoch.{Epoch}
use Rattle.eris_base.specs.declared.ids.Place.{Place}
use Rattle.eris_base.specs.declared.ids.ReplicaId.{ReplicaId}
use Rattle.eris_base.specs.declared.ids.ShardId.{ShardId}
use Rattle.eris_base.specs.Each.{Each}
use Rattle.eris_base.specs.StampPlaces.{has_place}
use Rattle.eris_txn.specs.declared.packet.Packet.{Packet}
use Rattle.eris_log.specs.Growth.{HasAll}
use Rattle.eris_log.specs.PartFacts.{AreMarks, IsPart}
use Rattle.eris_log.specs.PartValues.{PartValue}
use Rattle.eris_log.specs.Places.{contains_place}
use Rattle.eris_rules.specs.EpochMessages.{EpochMessage, Stamped, Instructs, Notifies, Exchanges, Responds, Instruction, Request, Found, Dropped, Notice, Find, Has, TempDropped, Exchange, ViewChange, StartView, SyncAsk, Ack, Settled, Response, Vouch, Reply, Late}
use Rattle.eris_rules.specs.ReplicaStates.{EpochReplica}
use Rattle.eris_law_epoch.specs.EpochWorlds.{EpochWorld}
use Rattle.eris_law_epoch.specs.Members.{In}
use Rattle.eris_law_epoch.specs.Stamped.{HasNumber, IsStampedIn}

-- what the epoch knows: what was stamped, found and dropped
pub record KnownLists : Type 0 where
  pub stamped : List Packet
  pub found : List Packet
  pub dropped : List Place

abbrev pub known_in : EpochWorld → KnownLists
known_in world = record { stamped = world.stamping.stamped; found = world.coordinator.found; dropped = world.coordinator.dropped }

module _ (epoch : Epoch) (known : KnownLists) where
  -- a packet that was stamped in the epoch
  pub record IsFinePacket (packet : Packet) : Type 0 where
    pub of_epoch : IsStampedIn epoch packet
    pub stamped : In packet known.stamped

  -- and that stands at its own number
  pub record IsFineHeld (shard : ShardId) (pair : ℕ × Packet) : Type 0 where
    pub packet : IsFinePacket pair.1
    pub number : HasNumber pair.1 shard pair.0

  -- a found packet that has the place
  pub record IsFoundPlace (place : Place) : Type 0 where
    pub packet : Packet
    pub found : In packet known.found
    pub has : has_place packet.stamp place ≡ true

  pub record IsFine (part : PartValue) : Type 0 where
    pub facts : IsPart part
    pub epoch_is : part.epoch ≡ epoch
    pub held : AllByRecursion (IsFineHeld part.shard) part.held
    pub fnd : (place : Place) → contains_place part.fnd place ≡ true → IsFoundPlace place
    pub perm : HasAll part.perm known.dropped

  -- a noted part of the shard
  pub record IsFineNote (shard : ShardId) (one : ReplicaId × PartValue) : Type 0 where
    pub part : IsFine one.1
    pub own : one.1.shard ≡ shard

  pub record IsFineReplica (shard : ShardId) (state : EpochReplica) : Type 0 where
    pub part : IsFine state.part
    pub own : state.part.shard ≡ shard
    pub noted : Each (IsFineNote shard) state.noted

  pub record IsFineFound (packet : Packet) : Type 0 where
    pub packet_is : IsFinePacket packet
    pub found : In packet known.found

  pub record IsFineDropped (place : Place) : Type 0 where
    pub epoch_is : place.epoch ≡ epoch
    pub dropped : contains_place known.dropped place ≡ true

  pub record AreFineDropped (places : List Place) : Type 0 where
    pub marks : AreMarks epoch places
    pub dropped : HasAll places known.dropped

  abbrev pub IsFineInstruction : Instruction → Type 0
  IsFineInstruction (Request place) = place.epoch ≡ epoch
  IsFineInstruction (Found packet) = IsFineFound packet
  IsFineInstruction (Dropped place) = IsFineDropped place

  abbrev pub IsFineNotice : Notice → Type 0
  IsFineNotice (Find replica place) = place.epoch ≡ epoch
  IsFineNotice (Has packet) = IsFinePacket packet
  IsFineNotice (TempDropped place shard replica view) = place.epoch ≡ epoch

  abbrev pub IsFineExchange : Exchange → Type 0
  IsFineExchange (ViewChange replica view part) = IsFine part
  IsFineExchange (StartView view part) = IsFine part
  IsFineExchange (SyncAsk view) = ⊤
  IsFineExchange (Ack replica view length) = ⊤
  IsFineExchange (Settled view number places) = AreFineDropped places

  abbrev pub IsFineResponse : Response → Type 0
  IsFineResponse (Vouch view shard replica stamp id phase) = stamp.epoch ≡ epoch
  IsFineResponse (Reply view shard replica stamp id phase answer) = stamp.epoch ≡ epoch
  IsFineResponse (Late shard replica id phase answer) = ⊤

  abbrev pub IsFineMessage : EpochMessage → Type 0
  IsFineMessage (Stamped packet) = IsFinePacket packet
  IsFineMessage (Instructs instruction) = IsFineInstruction instruction
  IsFineMessage (Notifies notice) = IsFineNotice notice
  IsFineMessage (Exchanges exchange) = IsFineExchange exchange
  IsFineMessage (Responds response) = IsFineResponse response
