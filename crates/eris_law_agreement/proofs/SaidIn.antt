-- What a step within an epoch says is of that epoch, so the messages that are sent for it say it in no other one.
use Rattle.std.proofs.Common.{◌≡◌, inl, inr, ℕ, ◌+◌, ◌*◌, List, [], ◌∷◌, ◌++◌, map, Some, None, refl, sym, ap, ◌∙◌}
use Rattle.std.specs.List.{flat_map, range_with_len}
use Rattle.eris_base.specs.declared.ids.Epoch.{Epoch}
use Rattle.eris_base.specs.declared.ids.Node.{Node}
use Rattle.eris_base.specs.declared.ids.Node.TheVariants.{Replica}
use Rattle.eris_base.specs.declared.ids.ShardId.{ShardId}
use Rattle.eris_base.specs.ConfigLimits.{ConfigValue}
use Rattle.eris_base.specs.Each.{Each}
use Rattle.eris_txn.specs.declared.packet.Packet.{Packet}
use Rattle.eris_txn.specs.Bodies.{participants_of}
use Rattle.eris_msg.specs.declared.message.Message.{Message}
use Rattle.eris_msg.specs.declared.outgoing.Outgoing.{Outgoing}
use Rattle.eris_sequencer.specs.Asks.{sends_to, sends_of}
use Rattle.eris_rules.specs.Addressees.{shard_replicas}
use Rattle.eris_rules.specs.EpochMessages.{EpochMessage, EpochSend, Stamped, Instructs, Notifies, Exchanges, Responds, Vouch, Reply, Late, send_each}
use Rattle.eris_rules.specs.Outer.{outer, outer_sends, Inner, said_in, inner_of, IsOf}
use Rattle.eris_rules.proofs.OuterLaws.{inner_of-outer, outer_sends-append}
use Rattle.eris_law_epoch.specs.EpochWorlds.{packet_sends}
use Rattle.eris_law_epoch.specs.Fine.{KnownLists, IsFineMessage}
use Rattle.eris_law_epoch.specs.Members.{In}
use Rattle.eris_law_epoch.proofs.Members.{Each-at}
use Rattle.eris_law_epoch.proofs.OfEpoch.{fine_is_of}

-- it is of the epoch, or a late answer, which is of none
abbrev pub SaidIn : Epoch → EpochMessage → Type 0
SaidIn epoch (Stamped packet) = IsOf epoch (Stamped packet)
SaidIn epoch (Instructs instruction) = IsOf epoch (Instructs instruction)
SaidIn epoch (Notifies notice) = IsOf epoch (Notifies notice)
SaidIn epoch (Exchanges exchange) = IsOf epoch (Exchanges exchange)
SaidIn epoch (Responds (Vouch view shard replica stamp id phase)) = IsOf epoch (Responds (Vouch view shard replica stamp id phase))
SaidIn epoch (Responds (Reply view shard replica stamp id phase answer)) = IsOf epoch (Responds (Reply view shard replica stamp id phase answer))
SaidIn epoch (Responds (Late shard replica id phase answer)) = Unit {0}

same_inner : (epoch : Epoch) (message : EpochMessage) (inner : Inner) → IsOf epoch message → inner_of (outer epoch message) ≡ Some inner → inner ≡ record { epoch = epoch; message = message }
same_inner epoch message inner is h = let both : Some inner ≡ said_in epoch message = sym h ∙ inner_of-outer epoch message is in cc

-- the message of an epoch in what is sent for one is that one
pub said_back : (epoch : Epoch) (message : EpochMessage) (inner : Inner) → SaidIn epoch message → inner_of (outer epoch message) ≡ Some inner → inner ≡ record { epoch = epoch; message = message }
said_back epoch (Stamped packet) inner is h = same_inner epoch (Stamped packet) inner is h
said_back epoch (Instructs instruction) inner is h = same_inner epoch (Instructs instruction) inner is h
said_back epoch (Notifies notice) inner is h = same_inner epoch (Notifies notice) inner is h
said_back epoch (Exchanges exchange) inner is h = same_inner epoch (Exchanges exchange) inner is h
said_back epoch (Responds (Vouch view shard replica stamp id phase)) inner is h = same_inner epoch (Responds (Vouch view shard replica stamp id phase)) inner is h
said_back epoch (Responds (Reply view shard replica stamp id phase answer)) inner is h = same_inner epoch (Responds (Reply view shard replica stamp id phase answer)) inner is h
said_back epoch (Responds (Late shard replica id phase answer)) inner is h = absurd (cc)

-- among what is sent for a step's messages, what is said in an epoch is one of them, and the epoch is the step's
pub unwrap : (epoch : Epoch) (node : Node) (message : Message) (inner : Inner) (sends : List EpochSend) → Each (λ one. SaidIn epoch one.message) sends
    → In (record { to = node; message = message }) (outer_sends epoch sends) → inner_of message ≡ Some inner
    → (inner.epoch ≡ epoch) × In (record { to = node; message = inner.message }) sends
unwrap epoch node message inner [] said i h = absurd i
unwrap epoch node message inner (one ∷ sends) said (inl e) h =
    let to : node ≡ one.to = ap (λ (x : Outgoing). x.to) e in
    let is : message ≡ outer epoch one.message = ap (λ (x : Outgoing). x.message) e in
    let back = said_back epoch one.message inner said.0 (ap inner_of (sym is) ∙ h) in
    (ap (λ (x : Inner). x.epoch) back, inl (λ i. record { to = to i; message = (ap (λ (x : Inner). x.message) back) i }))
unwrap epoch node message inner (one ∷ sends) said (inr i) h = let rest = unwrap epoch node message inner sends said.1 i h in (rest.0, inr rest.1)

-- nothing of one epoch is said
abbrev pub SaysNothing : List Outgoing → Type 0
SaysNothing sends = Each (λ one. inner_of one.message ≡ None) sends

pub nothing_said : (node : Node) (message : Message) (inner : Inner) (sends : List Outgoing) → SaysNothing sends → In (record { to = node; message = message }) sends → inner_of message ≡ Some inner → ⊥
nothing_said node message inner sends none i h =
    let no_inner : inner_of message ≡ None = Each-at (λ (one : Outgoing). inner_of one.message ≡ None) sends (record { to = node; message = message }) none i in
    absurd (cc)

-- a fine message is said in its epoch
pub fine_said : (epoch : Epoch) (known : KnownLists) (message : EpochMessage) → IsFineMessage epoch known message → SaidIn epoch message
fine_said epoch known (Stamped packet) fine = fine_is_of epoch known (Stamped packet) fine tt
fine_said epoch known (Instructs instruction) fine = fine_is_of epoch known (Instructs instruction) fine tt
fine_said epoch known (Notifies notice) fine = fine_is_of epoch known (Notifies notice) fine tt
fine_said epoch known (Exchanges exchange) fine = fine_is_of epoch known (Exchanges exchange) fine tt
fine_said epoch known (Responds (Vouch view shard replica stamp id phase)) fine = fine
fine_said epoch known (Responds (Reply view shard replica stamp id phase answer)) fine = fine
fine_said epoch known (Responds (Late shard replica id phase answer)) fine = tt

-- ---- a stamped packet goes to the same replicas in the epoch as in the whole
to_shard : (epoch : Epoch) (f : ℕ) (packet : Packet) (shard : ShardId) (numbers : List ℕ)
    → map (λ replica. record { to = Replica shard (record { 0 = replica }); message = Message.Txn packet }) numbers
    ≡ outer_sends epoch (send_each (map (λ number. Replica shard (record { 0 = number })) numbers) (Stamped packet))
to_shard epoch f packet shard [] = refl
to_shard epoch f packet shard (number ∷ numbers) = ap (λ (rest : List Outgoing). record { to = Replica shard (record { 0 = number }); message = Message.Txn packet } ∷ rest) (to_shard epoch f packet shard numbers)

to_shards : (config : ConfigValue) (epoch : Epoch) (packet : Packet) (shards : List ShardId)
    → flat_map (sends_to config.f packet) shards ≡ outer_sends epoch (flat_map (λ shard. send_each (shard_replicas config shard) (Stamped packet)) shards)
unfolding sends_to shard_replicas
to_shards config epoch packet [] = refl
to_shards config epoch packet (shard ∷ shards) =
    (λ i. to_shard epoch config.f packet shard (range_with_len 0 (2 * config.f + 1)) i ++ to_shards config epoch packet shards i)
    ∙ sym (outer_sends-append epoch (send_each (shard_replicas config shard) (Stamped packet)) (flat_map (λ shard. send_each (shard_replicas config shard) (Stamped packet)) shards))

pub stamped_sends : (config : ConfigValue) (epoch : Epoch) (packet : Packet) → sends_of config.f packet ≡ outer_sends epoch (packet_sends config packet)
unfolding sends_of packet_sends
stamped_sends config epoch packet = to_shards config epoch packet (participants_of packet.body)
