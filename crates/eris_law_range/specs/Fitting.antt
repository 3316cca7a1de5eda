-- What a replica keeps and sends stays in the messages' ranges, within an epoch and over all of them. Answers are in theirs since each
-- packet names exactly its participants: so a shard has something to answer to each packet that names it.
use Rattle.std.specs.Prelude.{◌≡◌, ℕ, true, ⊤}
use Rattle.std.specs.List.{AllByRecursion}
use Rattle.eris_base.specs.declared.ids.Epoch.{Epoch}
use Rattle.eris_base.specs.declared.ids.Place.{Place}
use Rattle.eris_base.specs.declared.ids.ShardId.{ShardId}
use Rattle.eris_base.specs.ConfigLimits.{IsConfig}
use Rattle.eris_base.specs.Each.{Each}
use Rattle.eris_txn.specs.declared.packet.Packet.{Packet}
use Rattle.eris_log.specs.PartValues.{PartValue}
use Rattle.eris_law_range.specs.Answering.{PacketIsRight}
use Rattle.eris_in_place.specs.MessageRanges.{PlaceFits, PartFits, MessageFits, SendsFit}
use Rattle.eris_locks.specs.Shards.{names_shard}
use Rattle.eris_codec.specs.Fields as f
use Rattle.eris_rules.specs.declared.replica_input.ReplicaInput.{ReplicaInput}
use Rattle.eris_rules.specs.EpochMessages.{EpochMessage, Stamped, Instructs, Notifies, Exchanges, Responds, Request, Found, Dropped, ViewChange, StartView, SyncAsk, Ack, Settled}
use Rattle.eris_rules.specs.EpochReplicas.{EpochInput, Get, Probe, Suspect, Sync}
use Rattle.eris_rules.specs.InPlace.{names_participants}
use Rattle.eris_rules.specs.Outer.{outer_sends}
use Rattle.eris_rules.specs.ReplicaStates.{Identity, Member, EpochReplica, EpochOut, ReplicaState, ReplicaOut}

-- a packet of a part of the shard: it names exactly its participants, and the shard among them
abbrev pub HeldIsRight : ShardId → ℕ × Packet → Type 0
HeldIsRight shard pair = (names_participants pair.1 ≡ true) × (names_shard shard pair.1 ≡ true)

-- the part is of this epoch and shard
pub record IsOfOwn (epoch : Epoch) (shard : ShardId) (part : PartValue) : Type 0 where
  pub in_epoch : part.epoch ≡ epoch
  pub on_shard : part.shard ≡ shard

-- a part of the epoch and shard that is in its ranges, with its packets
pub record PartIsRight (epoch : Epoch) (shard : ShardId) (part : PartValue) : Type 0 where
  pub own : IsOfOwn epoch shard part
  pub fits : PartFits part
  pub held : AllByRecursion (HeldIsRight shard) part.held

-- what it is and what it has of the epochs before
pub record MemberFits (me : Member) (epoch : Epoch) : Type 0 where
  pub config : IsConfig me.config
  pub shard : f.shard.fits me.shard ≡ true
  pub replica : f.replica.fits me.replica ≡ true
  pub in_epoch : f.epoch.fits epoch ≡ true
  pub prior : Each PacketIsRight me.prior

-- its state in the epoch
pub record StateFits (epoch : Epoch) (shard : ShardId) (state : EpochReplica) : Type 0 where
  pub view : f.view.fits state.view ≡ true
  pub part : PartIsRight epoch shard state.part
  pub noted : Each (λ one. PartIsRight epoch shard one.1) state.noted
  pub settled : f.word.fits state.settled ≡ true

-- the state after a row, and what is sent
pub record RowFits (me : Member) (epoch : Epoch) (out : EpochOut) : Type 0 where
  pub state : StateFits epoch me.shard out.state
  pub sends : SendsFit (outer_sends epoch out.sends)

-- a place of the epoch, in its ranges
pub record PlaceIsRight (epoch : Epoch) (place : Place) : Type 0 where
  pub of_epoch : place.epoch ≡ epoch
  pub fits : PlaceFits place

-- a packet of the epoch
pub record PacketIsOf (epoch : Epoch) (packet : Packet) : Type 0 where
  pub of_epoch : packet.stamp.epoch ≡ epoch
  pub right : PacketIsRight packet

-- a part that came: it is of the epoch, but maybe of another shard
pub record PartCame (epoch : Epoch) (part : PartValue) : Type 0 where
  pub of_epoch : part.epoch ≡ epoch
  pub fits : PartFits part
  pub held : AllByRecursion (HeldIsRight part.shard) part.held

abbrev pub MessageIsRight : Epoch → EpochMessage → Type 0
MessageIsRight epoch (Stamped packet) = PacketIsOf epoch packet
MessageIsRight epoch (Instructs (Request place)) = PlaceIsRight epoch place
MessageIsRight epoch (Instructs (Found packet)) = PacketIsOf epoch packet
MessageIsRight epoch (Instructs (Dropped place)) = PlaceIsRight epoch place
MessageIsRight epoch (Notifies notice) = ⊤
MessageIsRight epoch (Exchanges (ViewChange replica view part)) = (f.view.fits view ≡ true) × PartCame epoch part
MessageIsRight epoch (Exchanges (StartView view part)) = (f.view.fits view ≡ true) × PartCame epoch part
MessageIsRight epoch (Exchanges (SyncAsk view)) = f.view.fits view ≡ true
MessageIsRight epoch (Exchanges (Ack replica view length)) = ⊤
MessageIsRight epoch (Exchanges (Settled view number places)) = (f.view.fits view ≡ true) × (f.word.fits number ≡ true) × Each (PlaceIsRight epoch) places
MessageIsRight epoch (Responds response) = ⊤

abbrev pub InputFits : Epoch → EpochInput → Type 0
InputFits epoch (Get message) = MessageIsRight epoch message
InputFits epoch Probe = ⊤
InputFits epoch Suspect = ⊤
InputFits epoch Sync = ⊤

-- ---- over all epochs
pub record ReplicaFits (me : Identity) (state : ReplicaState) : Type 0 where
  pub config : IsConfig me.config
  pub shard : f.shard.fits me.shard ≡ true
  pub replica : f.replica.fits me.replica ≡ true
  pub epoch : f.epoch.fits state.epoch ≡ true
  pub promised : f.epoch.fits state.promised ≡ true
  pub prior : Each PacketIsRight state.prior
  pub inner : StateFits state.epoch me.shard state.inner

abbrev pub ReplicaInputFits : ReplicaInput → Type 0
ReplicaInputFits (ReplicaInput.Message message) = MessageFits message
ReplicaInputFits ReplicaInput.Probe = ⊤
ReplicaInputFits ReplicaInput.Suspect = ⊤
ReplicaInputFits ReplicaInput.Sync = ⊤

-- the state after a step, and what is sent
pub record ReplicaStepFits (me : Identity) (out : ReplicaOut) : Type 0 where
  pub state : ReplicaFits me out.state
  pub sends : SendsFit out.sends
