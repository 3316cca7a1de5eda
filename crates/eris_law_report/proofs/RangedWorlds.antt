-- A WORLD IN RANGE, and how a step of each kind of node keeps it so. What its nodes keep and what was sent is in the messages'
-- ranges, each stamped packet too; its clients and epochs are no more than what the run began; and what the coordinator has decided
-- is no more than what was sent.
use Rattle.std.proofs.Common.{◌≡◌, ◌<◌, ◌≤◌, inl, inr, ℕ, zero, suc, ◌+◌, ◌*◌, ◌^◌, true, length, map, replicate, Option, Some, None, List, [], ◌∷◌, ◌++◌, ap, sym, ◌∙◌, subst, arith}
use Rattle.std.specs.Prelude.{slice_get, slice_set}
use Rattle.std.specs.List.{flat_map, range_with_len}
use Rattle.std.proofs.lemmas.Bool.{ltb-true}
use Rattle.std.proofs.lemmas.List.{length-append, length-set}
use Rattle.eris_base.specs.declared.ids.ClientId.{ClientId}
use Rattle.eris_base.specs.declared.ids.Epoch.{Epoch}
use Rattle.eris_base.specs.declared.ids.Node.TheVariants.{Replica}
use Rattle.eris_base.specs.declared.ids.ReplicaId.{ReplicaId}
use Rattle.eris_base.specs.declared.ids.ShardId.{ShardId}
use Rattle.eris_base.specs.ConfigLimits.{ConfigValue, IsConfig}
use Rattle.eris_base.specs.Each.{Each}
use Rattle.eris_base.proofs.Each.{Each-append}
use Rattle.eris_base.proofs.IdLaws.{client_equal}
use Rattle.eris_txn.specs.declared.history.HistoryEvent.{HistoryEvent}
use Rattle.eris_txn.specs.declared.packet.Packet.{Packet}
use Rattle.eris_txn.specs.Bodies.{participants_of}
use Rattle.eris_msg.specs.declared.message.Message.{Message}
use Rattle.eris_msg.specs.declared.message.Message.TheVariants as kinds
use Rattle.eris_msg.specs.declared.outgoing.Outgoing.{Outgoing}
use Rattle.eris_msg.specs.Spellings.{message_fits}
use Rattle.eris_msg.proofs.MessageFits.{txn_fits}
use Rattle.eris_sequencer.specs.declared.stamping.Stamping.{Stamping}
use Rattle.eris_sequencer.specs.Asks.{Asked, ask, sends_of, sends_to}
use Rattle.eris_sequencer.specs.Sequencers.{new_stamping, newest_of, replace}
use Rattle.eris_sequencer.specs.StampingFacts.{AreStampings}
use Rattle.eris_sequencer.specs.Stamps.{next_packet, stamped_next}
use Rattle.eris_sequencer.proofs.AskLaws.{IsStamped, ask-cases}
use Rattle.eris_sequencer.proofs.SequencerLaws.{AreStampings-asked, AreStampings-replaced, in_place-shards, some_shard}
use Rattle.eris_in_place.specs.MessageRanges.{MessageFits, PacketFits, PacketsFit, SendsFit}
use Rattle.eris_rules.specs.declared.coord_input.CoordInput.{CoordInput}
use Rattle.eris_rules.specs.declared.replica_input.ReplicaInput.{ReplicaInput}
use Rattle.eris_rules.specs.Addressees.{replica_count}
use Rattle.eris_rules.specs.ClientStates.{ClientIdentity, ClientOut, ClientState}
use Rattle.eris_rules.specs.Coordinators.{coord_step}
use Rattle.eris_rules.specs.Happenings.{after_client, after_coordinator, after_replica, after_sequencer, client_acts_by, coordinator_takes, replica_steps, sequencer_takes}
use Rattle.eris_rules.specs.ReplicaStates.{ReplicaState}
use Rattle.eris_rules.specs.Replicas.{replica_step}
use Rattle.eris_rules.specs.Worlds.{WorldState, client_at, replica_at, with_event, with_replica, with_sends}
use Rattle.eris_client.specs.ClientRanges as clients
use Rattle.eris_coord.specs.Fitting as coordinators
use Rattle.eris_coord.proofs.Fits.{steps_fit}
use Rattle.eris_law_agreement.proofs.Cells.{cell}
use Rattle.eris_law_agreement.proofs.Moves.{me_at}
use Rattle.eris_law_epoch.proofs.Frame.{get-set}
use Rattle.eris_law_event_range.proofs.AskRanges.{asks_are_in_range}
use Rattle.eris_law_range.specs.Fitting.{ReplicaFits, ReplicaInputFits}
use Rattle.eris_law_range.proofs.EpochRanges.{replica_step_fits}
use Rattle.eris_law_report.proofs.Cells.{each_got, each_set, lengths, same_lengths}
use Rattle.eris_law_report.proofs.ClientEvents.{EventFits, HappenedFits}
use Rattle.eris_law_report.proofs.Decided.{coordinator_tells, decisions}
use Rattle.eris_law_report.proofs.Sending.{AreSpelled}

abbrev pub client_me : ConfigValue → ClientId → ClientIdentity
client_me config client = record { config = config; client = client }

-- a client that submitted at most so many transactions
pub record IsRangedClient (config : ConfigValue) (count : ℕ) (client : ClientId) (state : ClientState) : Type 0 where
  pub fits : clients.StateFits (client_me config client) state
  pub few : state.submitted ≤ count

-- the packets that a sequencer stamped
abbrev pub StampedFits : Stamping → Type 0
StampedFits stamping = PacketsFit stamping.stamped

-- a world after a run that began so many transactions and epochs, but for the counts of lists in what was sent
pub record IsRangedWorld (config : ConfigValue) (count : ℕ) (world : WorldState) : Type 0 where
  pub stampings : AreStampings config world.stampings
  pub few_epochs : length world.stampings ≤ count + 1
  pub stamped : Each StampedFits world.stampings
  pub coordinator : coordinators.StateFits world.coordinator
  pub decided : decisions world.coordinator.inner ≤ length world.sent
  pub replicas : (shard : ShardId) (replica : ReplicaId) (state : ReplicaState) → replica_at world.replicas shard replica ≡ Some state → ReplicaFits (me_at config shard replica) state
  pub rows : lengths world.replicas ≡ replicate config.shards (replica_count config)
  pub of_clients : (client : ClientId) (state : ClientState) → client_at world.clients client ≡ Some state → IsRangedClient config count client state
  pub sent : SendsFit world.sent
  pub history : Each EventFits world.history

-- and with these
pub record IsSentWorld (config : ConfigValue) (count : ℕ) (world : WorldState) : Type 0 where
  pub ranged : IsRangedWorld config count world
  pub spelled : AreSpelled world.sent
  pub few_sent : length world.sent ≤ 262144

-- ---- what a sequencer stamps
first_of_each : (packet : Packet) (shard : ShardId) (from count : ℕ) (rest : List Outgoing) → 0 < count
    → SendsFit (map (λ replica. let send : Outgoing = record { to = Replica shard (record { 0 = replica }); message = kinds.Txn packet } in send) (range_with_len from count) ++ rest) → PacketFits packet
first_of_each packet shard from zero rest some h = absurd (omega (arith, some))
first_of_each packet shard from (suc count) rest some h = sym (txn_fits packet) ∙ h.0

first_of_shards : (f : ℕ) (packet : Packet) (shards : List ShardId) → 0 < length shards → SendsFit (flat_map (sends_to f packet) shards) → PacketFits packet
unfolding sends_to
first_of_shards f packet [] some h = absurd (omega (arith, some))
first_of_shards f packet (shard ∷ shards) some h = first_of_each packet shard 0 (2 * f + 1) (flat_map (sends_to f packet) shards) (omega arith) h

sent_packet : (f : ℕ) (packet : Packet) → 0 < length (participants_of packet.body) → SendsFit (sends_of f packet) → PacketFits packet
unfolding sends_of
sent_packet f packet some h = first_of_shards f packet (participants_of packet.body) some h

stamped_once : (config : ConfigValue) (stampings : List Stamping) (epoch : Epoch) (message : Message) (asked : Asked) → IsStamped config stampings epoch message asked → Each StampedFits stampings → SendsFit asked.sends
    → Each StampedFits asked.stampings
unfolding stamped_next next_packet
stamped_once config stampings epoch message asked s h sends =
    let some = ltb-true 0 (length (participants_of s.body)) (some_shard config (participants_of s.body) (in_place-shards config s.asker s.id s.body s.in_place)) in
    let packet : PacketFits (next_packet s.stamping.sequencer s.id s.asker s.body) = sent_packet config.f (next_packet s.stamping.sequencer s.id s.asker s.body) some (subst SendsFit s.sent sends) in
    let before = each_got StampedFits stampings epoch.0 s.stamping h s.found in
    subst (Each StampedFits) (sym s.changes)
    (each_set StampedFits stampings epoch.0 (stamped_next s.stamping s.id s.asker s.body) h
    (Each-append PacketFits s.stamping.stamped (next_packet s.stamping.sequencer s.id s.asker s.body ∷ []) before (packet, tt)))

stamped_after : (config : ConfigValue) (stampings : List Stamping) (epoch : Epoch) (message : Message) → Each StampedFits stampings → SendsFit (ask config stampings epoch message).sends
    → Each StampedFits (ask config stampings epoch message).stampings
stamped_after config stampings epoch message h sends =
    elim (ask-cases config stampings epoch message) [
      | inl none ↦ subst (λ (asked : Asked). Each StampedFits asked.stampings) (sym none) h
      | inr s ↦ stamped_once config stampings epoch message (ask config stampings epoch message) s h sends
    ]

as_many : (config : ConfigValue) (stampings : List Stamping) (epoch : Epoch) (message : Message) → length (ask config stampings epoch message).stampings ≡ length stampings
as_many config stampings epoch message =
    elim (ask-cases config stampings epoch message) [
      | inl none ↦ ap (λ (asked : Asked). length asked.stampings) none
      | inr s ↦ ap (λ (some : List Stamping). length some) s.changes ∙ length-set stampings epoch.0 _
    ]

happened_fits : (history : List HistoryEvent) (event : Option HistoryEvent) → Each EventFits history → HappenedFits event → Each EventFits (with_event history event)
happened_fits history None h k = h
happened_fits history (Some event) h k = Each-append EventFits history (event ∷ []) h (k, tt)

module _ (config : ConfigValue) (limits : IsConfig config) (count after : ℕ) (le : count ≤ after) where
  may_more : (client : ClientId) (state : ClientState) → IsRangedClient config count client state → IsRangedClient config after client state
  may_more client state h = record { fits = h.fits; few = omega (arith, h.few, le) }

  -- nothing changes but what waits and who crashed
  pub rests : (world : WorldState) (waiting : List ℕ) (crashed : List (ShardId × ReplicaId)) → IsRangedWorld config count world → IsRangedWorld config after (record world { waiting = waiting; crashed = crashed })
  rests world waiting crashed h = record {
    stampings = h.stampings;
    few_epochs = omega (arith, h.few_epochs, le);
    stamped = h.stamped;
    coordinator = h.coordinator;
    decided = h.decided;
    replicas = h.replicas;
    rows = h.rows;
    of_clients = λ client state is. may_more client state (h.of_clients client state is);
    sent = h.sent;
    history = h.history;
  }

  -- ---- a replica
  module _ (world : WorldState) (h : IsRangedWorld config count world) where
    replicas_after : (shard : ShardId) (replica : ReplicaId) (old made : ReplicaState) → replica_at world.replicas shard replica ≡ Some old → ReplicaFits (me_at config shard replica) made
        → (a : ShardId) (b : ReplicaId) (state : ReplicaState) → replica_at (with_replica world.replicas shard replica made) a b ≡ Some state → ReplicaFits (me_at config a b) state
    replicas_after shard replica old made is k a b state at =
        elim (cell world.replicas shard replica old made is a b) [
          | inl here ↦ written here.0 here.1 here.2
          | inr same ↦ h.replicas a b state (sym same ∙ at)
        ]
      where
        written : a ≡ shard → b ≡ replica → replica_at (with_replica world.replicas shard replica made) a b ≡ Some made → ReplicaFits (me_at config a b) state
        written e g there =
            let one : made ≡ state = cc in
            subst (ReplicaFits (me_at config a b)) one
            (subst (λ (s : ShardId). ReplicaFits (me_at config s b) made) (sym e) (subst (λ (r : ReplicaId). ReplicaFits (me_at config shard r) made) (sym g) k))

    pub replica_keeps : (shard : ShardId) (replica : ReplicaId) (input : ReplicaInput) (found : Option ReplicaState) → replica_at world.replicas shard replica ≡ found → ReplicaInputFits input
        → IsRangedWorld config after (replica_steps config world shard replica input found)
    unfolding after_replica with_sends
    replica_keeps shard replica input None is k = rests world world.waiting world.crashed h
    replica_keeps shard replica input (Some state) is k =
        let out = replica_step (me_at config shard replica) state input in
        let step = replica_step_fits (me_at config shard replica) state input (h.replicas shard replica state is) k in
        record {
          stampings = h.stampings;
          few_epochs = omega (arith, h.few_epochs, le);
          stamped = h.stamped;
          coordinator = h.coordinator;
          decided = omega (arith, h.decided, length-append world.sent out.sends);
          replicas = replicas_after shard replica state out.state is step.state;
          rows = same_lengths world.replicas shard replica out.state ∙ h.rows;
          of_clients = λ client one at. may_more client one (h.of_clients client one at);
          sent = Each-append (λ (one : Outgoing). MessageFits one.message) world.sent out.sends h.sent step.sends;
          history = h.history;
        }

    -- ---- the coordinator
    pub coordinator_keeps : (input : CoordInput) → coordinators.InputFits input → IsRangedWorld config after (coordinator_takes config world input)
    unfolding coordinator_takes after_coordinator with_sends
    coordinator_keeps input k =
        let out = coord_step config world.coordinator input in
        let step = steps_fit config world.coordinator input limits h.coordinator k in
        record {
          stampings = h.stampings;
          few_epochs = omega (arith, h.few_epochs, le);
          stamped = h.stamped;
          coordinator = step.state;
          decided = omega (arith, h.decided, coordinator_tells config limits world.coordinator input, length-append world.sent out.sends);
          replicas = h.replicas;
          rows = h.rows;
          of_clients = λ client one at. may_more client one (h.of_clients client one at);
          sent = Each-append (λ (one : Outgoing). MessageFits one.message) world.sent out.sends h.sent step.sends;
          history = h.history;
        }

    -- ---- a sequencer
    pub sequencer_keeps : (epoch : Epoch) (message : Message) → message_fits message ≡ true → IsRangedWorld config after (sequencer_takes config world epoch message)
    unfolding sequencer_takes after_sequencer with_sends
    sequencer_keeps epoch message k =
        let out = ask config world.stampings epoch message in
        let sends = asks_are_in_range config world.stampings epoch message h.stampings limits.few_shards k in
        record {
          stampings = AreStampings-asked config world.stampings epoch message h.stampings;
          few_epochs = omega (arith, h.few_epochs, le, as_many config world.stampings epoch message);
          stamped = stamped_after config world.stampings epoch message h.stamped sends;
          coordinator = h.coordinator;
          decided = omega (arith, h.decided, length-append world.sent out.sends);
          replicas = h.replicas;
          rows = h.rows;
          of_clients = λ client one at. may_more client one (h.of_clients client one at);
          sent = Each-append (λ (one : Outgoing). MessageFits one.message) world.sent out.sends h.sent sends;
          history = h.history;
        }

    -- one more sequencer
    pub replace_keeps : count + 1 ≤ after → after < 2 ^ 32 → IsRangedWorld config after (record world { stampings = replace config world.stampings })
    unfolding replace new_stamping newest_of
    replace_keeps more room =
        record {
          stampings = AreStampings-replaced config world.stampings h.stampings (omega (arith, h.few_epochs, more, room));
          few_epochs = omega (arith, h.few_epochs, more, length-append world.stampings (new_stamping config (record { 0 = length world.stampings }) ∷ []));
          stamped = Each-append StampedFits world.stampings (new_stamping config (record { 0 = length world.stampings }) ∷ []) h.stamped (tt, tt);
          coordinator = h.coordinator;
          decided = h.decided;
          replicas = h.replicas;
          rows = h.rows;
          of_clients = λ client one at. may_more client one (h.of_clients client one at);
          sent = h.sent;
          history = h.history;
        }

    -- ---- a client
    clients_after : (client : ClientId) (old made : ClientState) → client_at world.clients client ≡ Some old → IsRangedClient config after client made
        → (other : ClientId) (state : ClientState) → client_at (slice_set world.clients client.0 made) other ≡ Some state → IsRangedClient config after other state
    unfolding client_at
    clients_after client old made is k other state at =
        elim (get-set world.clients client.0 other.0 old made is) [
          | inl here ↦ written here.0 here.1
          | inr same ↦ may_more other state (h.of_clients other state (sym same ∙ at))
        ]
      where
        written : other.0 ≡ client.0 → slice_get (slice_set world.clients client.0 made) other.0 ≡ Some made → IsRangedClient config after other state
        written e there =
            let one : made ≡ state = cc in
            subst (IsRangedClient config after other) one (subst (λ (c : ClientId). IsRangedClient config after c made) (sym (client_equal other client e)) k)

    -- what an act leaves, sends and has happen
    pub record ActFits (client : ClientId) (out : ClientOut) : Type 0 where
      pub step : clients.StepFits (client_me config client) out
      pub few : out.state.submitted ≤ after
      pub event : HappenedFits out.event

    pub client_keeps : (client : ClientId) (act : ClientIdentity → ClientState → ClientOut) (found : Option ClientState) → client_at world.clients client ≡ found
        → ((state : ClientState) → IsRangedClient config count client state → ActFits client (act (client_me config client) state)) → IsRangedWorld config after (client_acts_by config world client act found)
    unfolding after_client with_sends
    client_keeps client act None is k = rests world world.waiting world.crashed h
    client_keeps client act (Some state) is k =
        let out = act (client_me config client) state in
        let fits = k state (h.of_clients client state is) in
        record {
          stampings = h.stampings;
          few_epochs = omega (arith, h.few_epochs, le);
          stamped = h.stamped;
          coordinator = h.coordinator;
          decided = omega (arith, h.decided, length-append world.sent out.sends);
          replicas = h.replicas;
          rows = h.rows;
          of_clients = clients_after client state out.state is (record { fits = fits.step.state; few = fits.few });
          sent = Each-append (λ (one : Outgoing). MessageFits one.message) world.sent out.sends h.sent fits.step.sends;
          history = happened_fits world.history out.event h.history fits.event;
        }
