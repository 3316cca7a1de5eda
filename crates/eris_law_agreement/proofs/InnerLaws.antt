-- What is said in an epoch is of that epoch: so is the packet, place, part or stamp that a message carries.
use Rattle.std.proofs.Common.{◌≡◌, Option, Some, None, refl, subst}
use Rattle.eris_msg.specs.declared.message.Message.{Message}
use Rattle.eris_rules.specs.Outer.{outer, Inner, inner_of, IsOf}
use Rattle.eris_rules.proofs.OuterLaws.{Sends, outer-inner_of, places_of_epoch}

abbrev pub IsOfItsEpoch : Option Inner → Type 0
IsOfItsEpoch None = Unit {0}
IsOfItsEpoch (Some inner) = IsOf inner.epoch inner.message

inner_is_of : (message : Message) → IsOfItsEpoch (inner_of message)
inner_is_of (Message.Ask asker id body) = tt
inner_is_of (Message.Txn packet) = refl
inner_is_of (Message.Vouch view shard replica stamp id phase) = refl
inner_is_of (Message.Reply view shard replica stamp id phase answer) = refl
inner_is_of (Message.Late shard replica id phase answer) = tt
inner_is_of (Message.Find replica place) = refl
inner_is_of (Message.Request place) = refl
inner_is_of (Message.Has packet) = refl
inner_is_of (Message.TempDropped place shard replica view) = refl
inner_is_of (Message.Found packet) = refl
inner_is_of (Message.Dropped place) = refl
inner_is_of (Message.ViewChange replica view part) = refl
inner_is_of (Message.StartView view part) = refl
inner_is_of (Message.SyncAsk epoch view) = tt
inner_is_of (Message.Ack replica epoch view length) = tt
inner_is_of (Message.Settled epoch view number places) = places_of_epoch epoch places
inner_is_of (Message.NewEpoch shard replica epoch) = tt
inner_is_of (Message.EpochAsk epoch) = tt
inner_is_of (Message.EpochState replica epoch part) = tt
inner_is_of (Message.StartEpoch epoch shard packets) = tt

-- WHAT IS SAID in an epoch is of it
pub said_is_of : (message : Message) (inner : Inner) → inner_of message ≡ Some inner → IsOf inner.epoch inner.message
said_is_of message inner h = subst IsOfItsEpoch h (inner_is_of message)

-- and the message is the one that is sent for it
pub said_is_sent : (message : Message) (inner : Inner) → inner_of message ≡ Some inner → outer inner.epoch inner.message ≡ message
said_is_sent message inner h = subst (Sends message) h (outer-inner_of message)
