-- The message of one epoch in a message, and the message that is sent for it, undo each other.
use Rattle.std.proofs.Common.{◌≡◌, ℕ, Option, Some, None, List, [], ◌∷◌, ◌++◌, refl, ap, sym, ◌∙◌}
use Rattle.eris_base.specs.declared.ids.Epoch.{Epoch}
use Rattle.eris_base.specs.declared.ids.Node.{Node}
use Rattle.eris_base.specs.declared.ids.Place.{Place}
use Rattle.eris_base.specs.declared.ids.ShardId.{ShardId}
use Rattle.eris_base.specs.Each.{Each}
use Rattle.eris_log.specs.Places.{pairs_of, places_at}
use Rattle.eris_msg.specs.declared.message.Message.{Message}
use Rattle.eris_msg.specs.declared.outgoing.Outgoing.{Outgoing}
use Rattle.eris_rules.specs.EpochMessages.{EpochSend, send_each, EpochMessage, Stamped, Instructs, Notifies, Exchanges, Responds, Request, Found, Dropped, Find, Has, TempDropped, ViewChange, StartView, SyncAsk, Ack, Settled, Vouch, Reply, Late}
use Rattle.eris_rules.specs.Outer.{outer, outer_send, outer_sends, tell_each, Inner, said_in, inner_of, IsOf}

-- shards and numbers come back from the places that they are made into
pub pairs_of-places_at : (epoch : Epoch) (pairs : List (ShardId × ℕ)) → pairs_of (places_at epoch pairs) ≡ pairs
pairs_of-places_at epoch [] = refl
pairs_of-places_at epoch (pair ∷ pairs) = ap (λ rest. pair ∷ rest) (pairs_of-places_at epoch pairs)

-- and places of the epoch from their shards and numbers
pub places_at-pairs_of : (epoch : Epoch) (places : List Place) → Each (λ place. place.epoch ≡ epoch) places → places_at epoch (pairs_of places) ≡ places
places_at-pairs_of epoch [] facts = refl
places_at-pairs_of epoch (place ∷ places) facts =
    ap (λ (first : Epoch). record { epoch = first; shard = place.shard; number = place.number } ∷ places_at epoch (pairs_of places)) (sym facts.0)
    ∙ ap (λ (rest : List Place). place ∷ rest) (places_at-pairs_of epoch places facts.1)

-- which are of that epoch
pub places_of_epoch : (epoch : Epoch) (pairs : List (ShardId × ℕ)) → Each (λ (place : Place). place.epoch ≡ epoch) (places_at epoch pairs)
places_of_epoch epoch [] = tt
places_of_epoch epoch (pair ∷ pairs) = (refl, places_of_epoch epoch pairs)

-- what is said in a message is sent by that message
abbrev pub Sends : Message → Option Inner → Type 0
Sends message None = Unit {0}
Sends message (Some inner) = outer inner.epoch inner.message ≡ message

pub outer-inner_of : (message : Message) → Sends message (inner_of message)
outer-inner_of (Message.Settled epoch view number places) = ap (λ (pairs : List (ShardId × ℕ)). Message.Settled epoch view number pairs) (pairs_of-places_at epoch places)
outer-inner_of (Message.Ask asker id body) = tt
outer-inner_of (Message.Late shard replica id phase answer) = tt
outer-inner_of (Message.NewEpoch shard replica epoch) = tt
outer-inner_of (Message.EpochAsk epoch) = tt
outer-inner_of (Message.EpochState replica epoch part) = tt
outer-inner_of (Message.StartEpoch epoch shard packets) = tt
outer-inner_of message = refl

-- what is sent for a message of an epoch says it in that epoch
pub inner_of-outer : (epoch : Epoch) (message : EpochMessage) → IsOf epoch message → inner_of (outer epoch message) ≡ said_in epoch message
inner_of-outer epoch (Stamped packet) is = ap (λ (e : Epoch). said_in e (Stamped packet)) is
inner_of-outer epoch (Instructs (Request place)) is = ap (λ (e : Epoch). said_in e (Instructs (Request place))) is
inner_of-outer epoch (Instructs (Found packet)) is = ap (λ (e : Epoch). said_in e (Instructs (Found packet))) is
inner_of-outer epoch (Instructs (Dropped place)) is = ap (λ (e : Epoch). said_in e (Instructs (Dropped place))) is
inner_of-outer epoch (Notifies (Find replica place)) is = ap (λ (e : Epoch). said_in e (Notifies (Find replica place))) is
inner_of-outer epoch (Notifies (Has packet)) is = ap (λ (e : Epoch). said_in e (Notifies (Has packet))) is
inner_of-outer epoch (Notifies (TempDropped place shard replica view)) is = ap (λ (e : Epoch). said_in e (Notifies (TempDropped place shard replica view))) is
inner_of-outer epoch (Exchanges (ViewChange replica view part)) is = ap (λ (e : Epoch). said_in e (Exchanges (ViewChange replica view part))) is
inner_of-outer epoch (Exchanges (StartView view part)) is = ap (λ (e : Epoch). said_in e (Exchanges (StartView view part))) is
inner_of-outer epoch (Exchanges (SyncAsk view)) is = refl
inner_of-outer epoch (Exchanges (Ack replica view length)) is = refl
inner_of-outer epoch (Exchanges (Settled view number places)) is = ap (λ (made : List Place). said_in epoch (Exchanges (Settled view number made))) (places_at-pairs_of epoch places is)
inner_of-outer epoch (Responds (Vouch view shard replica stamp id phase)) is = ap (λ (e : Epoch). said_in e (Responds (Vouch view shard replica stamp id phase))) is
inner_of-outer epoch (Responds (Reply view shard replica stamp id phase answer)) is = ap (λ (e : Epoch). said_in e (Responds (Reply view shard replica stamp id phase answer))) is
inner_of-outer epoch (Responds (Late shard replica id phase answer)) is = absurd is

-- what is sent for a message to each of some nodes is the message that is sent for it, to each of them
pub outer_sends-each : (epoch : Epoch) (nodes : List Node) (message : EpochMessage) → outer_sends epoch (send_each nodes message) ≡ tell_each nodes (outer epoch message)
outer_sends-each epoch [] message = refl
outer_sends-each epoch (node ∷ nodes) message = ap (λ (rest : List Outgoing). record { to = node; message = outer epoch message } ∷ rest) (outer_sends-each epoch nodes message)

pub outer_sends-append : (epoch : Epoch) (some more : List EpochSend) → outer_sends epoch (some ++ more) ≡ outer_sends epoch some ++ outer_sends epoch more
outer_sends-append epoch [] more = refl
outer_sends-append epoch (one ∷ some) more = ap (λ (rest : List Outgoing). outer_send epoch one ∷ rest) (outer_sends-append epoch some more)
