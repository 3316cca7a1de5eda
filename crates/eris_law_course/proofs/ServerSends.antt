-- No server sends an Ask. So each Ask among the sent messages is a client's; used where stamped packets are followed to
-- the clients that asked for them.
use Rattle.std.proofs.Common.{ℕ, List}
use Rattle.std.specs.List.{range_with_len}
use Rattle.std.specs.Prelude.{⊤}
use Rattle.std.proofs.lemmas.Bool.{cond_both}
use Rattle.eris_base.specs.declared.ids.Epoch.{Epoch}
use Rattle.eris_base.specs.ConfigLimits.{ConfigValue}
use Rattle.eris_base.specs.Each.{Each}
use Rattle.eris_base.proofs.Each.{Each-any}
use Rattle.eris_txn.specs.declared.packet.Packet.{Packet}
use Rattle.eris_msg.specs.declared.message.Message.{Message}
use Rattle.eris_msg.specs.declared.outgoing.Outgoing.{Outgoing}
use Rattle.eris_sequencer.specs.Asks.{sends_of}
use Rattle.eris_rules.specs.declared.coord_input.CoordInput.{CoordInput}
use Rattle.eris_rules.specs.declared.replica_input.ReplicaInput.{ReplicaInput}
use Rattle.eris_rules.specs.Addressees.{shard_replicas, all_replicas}
use Rattle.eris_rules.specs.Coordinators.{coord_steps_in, start_of, starts, raises_target, after_closing, starts_shard, starts_all, closes, coord_step, nudge_step, tell_all}
use Rattle.eris_rules.specs.CoordStates.{CoordState, CoordOut, is_frozen}
use Rattle.eris_rules.specs.EpochMessages.{EpochMessage, EpochSend, Stamped, Instructs, Notifies, Exchanges, Responds, Request, Found, Dropped, Find, Has, TempDropped, ViewChange, StartView, SyncAsk, Ack, Settled, Vouch, Reply, Late}
use Rattle.eris_rules.specs.EpochCoords.{nudge_row}
use Rattle.eris_rules.specs.Outer.{outer, outer_sends, tell_each}
use Rattle.eris_rules.specs.ReplicaStates.{Identity, ReplicaState, ReplicaOut}
use Rattle.eris_rules.specs.Replicas.{steps_in, steps, asks_start, promises, replica_step}
use Rattle.eris_law_epoch.proofs.Members.{Each-map, Each-flat_map}
use Rattle.eris_law_agreement.proofs.CoordLeaves.{CoordLeaf, coord_leaf, noting}
use Rattle.eris_law_agreement.proofs.EpochGrowth.{each_told, each_packet_send}
use Rattle.eris_law_agreement.proofs.ReplicaLeaves.{ReplicaLeaf, replica_leaf}

-- any message but an Ask
abbrev pub IsNoAsk : Message → Type 0
IsNoAsk (Message.Ask asker id body) = ⊥
IsNoAsk message = ⊤

abbrev pub IsNoAskSent : Outgoing → Type 0
IsNoAskSent one = IsNoAsk one.message

abbrev pub NoAsks : List Outgoing → Type 0
NoAsks sends = Each IsNoAskSent sends

-- what is sent for a message of one epoch is none
no_ask_outer : (epoch : Epoch) (message : EpochMessage) → IsNoAsk (outer epoch message)
no_ask_outer epoch (Stamped packet) = tt
no_ask_outer epoch (Instructs (Request place)) = tt
no_ask_outer epoch (Instructs (Found packet)) = tt
no_ask_outer epoch (Instructs (Dropped place)) = tt
no_ask_outer epoch (Notifies (Find replica place)) = tt
no_ask_outer epoch (Notifies (Has packet)) = tt
no_ask_outer epoch (Notifies (TempDropped place shard replica view)) = tt
no_ask_outer epoch (Exchanges (ViewChange replica view part)) = tt
no_ask_outer epoch (Exchanges (StartView view part)) = tt
no_ask_outer epoch (Exchanges (SyncAsk view)) = tt
no_ask_outer epoch (Exchanges (Ack replica view length)) = tt
no_ask_outer epoch (Exchanges (Settled view number places)) = tt
no_ask_outer epoch (Responds (Vouch view shard replica stamp id phase)) = tt
no_ask_outer epoch (Responds (Reply view shard replica stamp id phase answer)) = tt
no_ask_outer epoch (Responds (Late shard replica id phase answer)) = tt

inner_no_asks : (epoch : Epoch) (sends : List EpochSend) → NoAsks (outer_sends epoch sends)
inner_no_asks epoch sends = Each-map IsNoAskSent _ sends (Each-any (λ one. IsNoAsk (outer epoch one.message)) (λ one. no_ask_outer epoch one.message) sends)

-- ---- a replica
leaf_no_asks : (me : Identity) (state : ReplicaState) (input : ReplicaInput) (out : ReplicaOut) → ReplicaLeaf me state input out → NoAsks out.sends
unfolding steps steps_in asks_start promises
leaf_no_asks me state _ _ (ReplicaLeaf.Nothing input) = tt
leaf_no_asks me state _ _ (ReplicaLeaf.Within input inner live means) = inner_no_asks state.epoch _
leaf_no_asks me state _ _ (ReplicaLeaf.AsksStart input epoch) = (tt, tt)
leaf_no_asks me state _ _ (ReplicaLeaf.Promises epoch up above) = (tt, tt)
leaf_no_asks me state _ _ (ReplicaLeaf.Begins epoch shard packets same above up) = tt

pub replica_no_asks : (me : Identity) (state : ReplicaState) (input : ReplicaInput) → NoAsks (replica_step me state input).sends
replica_no_asks me state input = leaf_no_asks me state input _ (replica_leaf me state input)

-- ---- the coordinator
starts_no_asks : (config : ConfigValue) (state : CoordState) → NoAsks (starts_all config state)
unfolding starts_all starts_shard
starts_no_asks config state =
    Each-flat_map IsNoAskSent _ (range_with_len 0 config.shards)
    (Each-any (λ number. NoAsks (tell_each (shard_replicas config (record { 0 = number })) (start_of state (record { 0 = number }))))
    (λ number. each_told IsNoAskSent (shard_replicas config (record { 0 = number })) (start_of state (record { 0 = number })) (λ node. tt)) _)

coord_leaf_no_asks : (config : ConfigValue) (state : CoordState) (message : Message) (out : CoordOut) → CoordLeaf config state message out → NoAsks out.sends
unfolding coord_steps_in starts raises_target closes
coord_leaf_no_asks config state _ _ (CoordLeaf.Nothing message) = tt
coord_leaf_no_asks config state _ _ (CoordLeaf.Within message inner ok is thawed) = inner_no_asks state.current _
coord_leaf_no_asks config state _ _ (CoordLeaf.Starts message shard replica) = (tt, tt)
coord_leaf_no_asks config state _ _ (CoordLeaf.Raises shard replica epoch up) = each_told IsNoAskSent (all_replicas config) (Message.EpochAsk epoch) (λ node. tt)
coord_leaf_no_asks config state _ _ (CoordLeaf.Notes replica part up ok) = tt
coord_leaf_no_asks config state _ _ (CoordLeaf.Closes replica part up ok ready) = starts_no_asks config (after_closing config (noting state replica part))

pub coord_no_asks : (config : ConfigValue) (state : CoordState) (message : Message) → NoAsks (coord_step config state (CoordInput.Message message)).sends
unfolding coord_step
coord_no_asks config state message = coord_leaf_no_asks config state message _ (coord_leaf config state message)

pub nudge_no_asks : (config : ConfigValue) (state : CoordState) → NoAsks (coord_step config state CoordInput.Nudge).sends
unfolding coord_step nudge_step coord_steps_in
nudge_no_asks config state =
    cond_both (is_frozen state) (record { state = state; sends = tell_all config (Message.EpochAsk state.target) }) (coord_steps_in state (nudge_row config state.inner)) (λ out. NoAsks out.sends)
    (λ h. each_told IsNoAskSent (all_replicas config) (Message.EpochAsk state.target) (λ node. tt)) (λ h. inner_no_asks state.current _)

-- ---- a stamped packet
pub packet_no_asks : (f : ℕ) (packet : Packet) → NoAsks (sends_of f packet)
packet_no_asks f packet = each_packet_send IsNoAskSent f packet (λ node. tt)
