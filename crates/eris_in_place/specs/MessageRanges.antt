-- The messages whose fields are in their ranges, but for the counts of their lists of packets and places. Such a
-- list may in principle be longer than a count of four bytes can tell; so whoever spells a message asks for its
-- size first. What a node keeps and sends is in these ranges.
use Rattle.std.specs.Prelude.{◌≡◌, ◌<◌, ◌^◌, ℕ, true, List, [], length, ⊤}
use Rattle.eris_base.specs.declared.ids.Place.{Place}
use Rattle.eris_base.specs.declared.ids.ShardId.{ShardId}
use Rattle.eris_base.specs.Each.{Each}
use Rattle.eris_txn.specs.declared.packet.Packet.{Packet}
use Rattle.eris_log.specs.PartFacts.{IsPart}
use Rattle.eris_log.specs.PartValues.{PartValue}
use Rattle.eris_codec.specs.Codecs.{items_fit}
use Rattle.eris_msg.specs.declared.message.Message.{Message}
use Rattle.eris_msg.specs.declared.outgoing.Outgoing.{Outgoing}
use Rattle.eris_codec.specs.Fields as f
use Rattle.eris_codec.specs.Parts as p
use Rattle.eris_codec.specs.Ranges.{PartInRange, PartCounted, packet_fits}
use Rattle.eris_msg.specs.Spellings.{message_fits}

abbrev pub PacketFits : Packet → Type 0
PacketFits packet = packet_fits packet ≡ true

abbrev pub PacketsFit : List Packet → Type 0
PacketsFit packets = Each PacketFits packets

abbrev pub PlaceFits : Place → Type 0
PlaceFits place = f.place.fits place ≡ true

abbrev pub PlacesFit : List Place → Type 0
PlacesFit places = Each PlaceFits places

-- shards and numbers of an epoch: each is in range, and above the one before it
abbrev pub PairsFit : List (ShardId × ℕ) → Type 0
PairsFit pairs = items_fit p.listed_place [] pairs ≡ true

-- a part: its lists ascend, its marks are of its epoch, and all in it is in range
pub record PartFits (part : PartValue) : Type 0 where
  pub is : IsPart part
  pub ranges : PartInRange part

-- THE FIELDS of the message are in their ranges, but for those counts
abbrev pub MessageFits : Message → Type 0
MessageFits (Message.ViewChange replica view part) = (f.replica.fits replica ≡ true) × (f.view.fits view ≡ true) × PartFits part
MessageFits (Message.StartView view part) = (f.view.fits view ≡ true) × PartFits part
MessageFits (Message.Settled epoch view number places) =
    (f.epoch.fits epoch ≡ true) × (f.view.fits view ≡ true) × (f.number.fits number ≡ true) × PairsFit places
MessageFits (Message.EpochState replica epoch part) = (f.replica.fits replica ≡ true) × (f.epoch.fits epoch ≡ true) × PartFits part
MessageFits (Message.StartEpoch epoch shard packets) = (f.epoch.fits epoch ≡ true) × (f.shard.fits shard ≡ true) × PacketsFit packets
MessageFits message = message_fits message ≡ true

-- and those counts are in theirs
abbrev pub IsCounted : Message → Type 0
IsCounted (Message.ViewChange replica view part) = PartCounted part
IsCounted (Message.StartView view part) = PartCounted part
IsCounted (Message.Settled epoch view number places) = length places < 2 ^ 32
IsCounted (Message.EpochState replica epoch part) = PartCounted part
IsCounted (Message.StartEpoch epoch shard packets) = length packets < 2 ^ 32
IsCounted message = ⊤

-- each of the messages that are sent
abbrev pub SendsFit : List Outgoing → Type 0
SendsFit sends = Each (λ send. MessageFits send.message) sends
