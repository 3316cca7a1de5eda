-- The messages that nodes send each other, and the messages of one epoch in them.
use Rattle.std.specs.Prelude.{◌≡◌, Option, Some, None, List, map, ⊤}
use Rattle.eris_base.specs.declared.ids.Epoch.{Epoch}
use Rattle.eris_base.specs.declared.ids.Node.{Node}
use Rattle.eris_base.specs.Each.{Each}
use Rattle.eris_log.specs.Places.{pairs_of, places_at}
use Rattle.eris_msg.specs.declared.message.Message.{Message}
use Rattle.eris_msg.specs.declared.outgoing.Outgoing.{Outgoing}
use Rattle.eris_rules.specs.EpochMessages.{EpochMessage, Stamped, Instructs, Notifies, Exchanges, Responds, Instruction, Request, Found, Dropped, Notice, Find, Has, TempDropped, Exchange, ViewChange, StartView, SyncAsk, Ack, Settled, Response, Vouch, Reply, Late, EpochSend}

abbrev pub outer_instruction : Instruction → Message
outer_instruction (Request place) = Message.Request place
outer_instruction (Found packet) = Message.Found packet
outer_instruction (Dropped place) = Message.Dropped place

abbrev pub outer_notice : Notice → Message
outer_notice (Find replica place) = Message.Find replica place
outer_notice (Has packet) = Message.Has packet
outer_notice (TempDropped place shard replica view) = Message.TempDropped place shard replica view

abbrev pub outer_exchange : Epoch → Exchange → Message
outer_exchange epoch (ViewChange replica view part) = Message.ViewChange replica view part
outer_exchange epoch (StartView view part) = Message.StartView view part
outer_exchange epoch (SyncAsk view) = Message.SyncAsk epoch view
outer_exchange epoch (Ack replica view length) = Message.Ack replica epoch view length
outer_exchange epoch (Settled view number places) = Message.Settled epoch view number (pairs_of places)

abbrev pub outer_response : Response → Message
outer_response (Vouch view shard replica stamp id phase) = Message.Vouch view shard replica stamp id phase
outer_response (Reply view shard replica stamp id phase answer) = Message.Reply view shard replica stamp id phase answer
outer_response (Late shard replica id phase answer) = Message.Late shard replica id phase answer

-- THE MESSAGE that is sent for one of an epoch
abbrev pub outer : Epoch → EpochMessage → Message
outer epoch (Stamped packet) = Message.Txn packet
outer epoch (Instructs instruction) = outer_instruction instruction
outer epoch (Notifies notice) = outer_notice notice
outer epoch (Exchanges exchange) = outer_exchange epoch exchange
outer epoch (Responds response) = outer_response response

abbrev pub outer_send : Epoch → EpochSend → Outgoing
outer_send epoch one = record { to = one.to; message = outer epoch one.message }

abbrev pub outer_sends : Epoch → List EpochSend → List Outgoing
outer_sends epoch sends = map (λ one. outer_send epoch one) sends

-- the message to each of the nodes, in their order
abbrev pub tell_each : List Node → Message → List Outgoing
tell_each nodes message = map (λ node. record { to = node; message = message }) nodes

-- an epoch, and what is said within it
pub record Inner : Type 0 where
  pub epoch : Epoch
  pub message : EpochMessage

abbrev pub said_in : Epoch → EpochMessage → Option Inner
said_in epoch message = Some (record { epoch = epoch; message = message })

-- THE MESSAGE OF ONE EPOCH in a message, with that epoch: the one that its packet, place, part or stamp has,
-- or that it names itself. An Ask comes before any epoch, a Late goes to a client and names none, and four
-- kinds speak of epochs themselves.
abbrev pub inner_of : Message → Option Inner
inner_of (Message.Ask asker id body) = None
inner_of (Message.Txn packet) = said_in packet.stamp.epoch (Stamped packet)
inner_of (Message.Vouch view shard replica stamp id phase) = said_in stamp.epoch (Responds (Vouch view shard replica stamp id phase))
inner_of (Message.Reply view shard replica stamp id phase answer) = said_in stamp.epoch (Responds (Reply view shard replica stamp id phase answer))
inner_of (Message.Late shard replica id phase answer) = None
inner_of (Message.Find replica place) = said_in place.epoch (Notifies (Find replica place))
inner_of (Message.Request place) = said_in place.epoch (Instructs (Request place))
inner_of (Message.Has packet) = said_in packet.stamp.epoch (Notifies (Has packet))
inner_of (Message.TempDropped place shard replica view) = said_in place.epoch (Notifies (TempDropped place shard replica view))
inner_of (Message.Found packet) = said_in packet.stamp.epoch (Instructs (Found packet))
inner_of (Message.Dropped place) = said_in place.epoch (Instructs (Dropped place))
inner_of (Message.ViewChange replica view part) = said_in part.epoch (Exchanges (ViewChange replica view part))
inner_of (Message.StartView view part) = said_in part.epoch (Exchanges (StartView view part))
inner_of (Message.SyncAsk epoch view) = said_in epoch (Exchanges (SyncAsk view))
inner_of (Message.Ack replica epoch view length) = said_in epoch (Exchanges (Ack replica view length))
inner_of (Message.Settled epoch view number places) = said_in epoch (Exchanges (Settled view number (places_at epoch places)))
inner_of (Message.NewEpoch shard replica epoch) = None
inner_of (Message.EpochAsk epoch) = None
inner_of (Message.EpochState replica epoch part) = None
inner_of (Message.StartEpoch epoch shard packets) = None

-- The message is of the epoch: so is its packet, place, part or stamp. A Late is of none.
abbrev pub IsOf : Epoch → EpochMessage → Type 0
IsOf epoch (Stamped packet) = packet.stamp.epoch ≡ epoch
IsOf epoch (Instructs (Request place)) = place.epoch ≡ epoch
IsOf epoch (Instructs (Found packet)) = packet.stamp.epoch ≡ epoch
IsOf epoch (Instructs (Dropped place)) = place.epoch ≡ epoch
IsOf epoch (Notifies (Find replica place)) = place.epoch ≡ epoch
IsOf epoch (Notifies (Has packet)) = packet.stamp.epoch ≡ epoch
IsOf epoch (Notifies (TempDropped place shard replica view)) = place.epoch ≡ epoch
IsOf epoch (Exchanges (ViewChange replica view part)) = part.epoch ≡ epoch
IsOf epoch (Exchanges (StartView view part)) = part.epoch ≡ epoch
IsOf epoch (Exchanges (SyncAsk view)) = ⊤
IsOf epoch (Exchanges (Ack replica view length)) = ⊤
IsOf epoch (Exchanges (Settled view number places)) = Each (λ place. place.epoch ≡ epoch) places
IsOf epoch (Responds (Vouch view shard replica stamp id phase)) = stamp.epoch ≡ epoch
IsOf epoch (Responds (Reply view shard replica stamp id phase answer)) = stamp.epoch ≡ epoch
IsOf epoch (Responds (Late shard replica id phase answer)) = ⊥
