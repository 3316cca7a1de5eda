-- EACH EVENT KEEPS A WORLD IN RANGE, where the event is in the ranges of a script's lines. So a run does.
use Rattle.std.proofs.Common.{◌≡◌, ◌<◌, ◌≤◌, ◌&&◌, ◌-◌, ◌^◌, ℕ, ◌+◌, true, nat_le, nat_lt, replicate, unwrap_or, IfSome, OnSome, Option, Some, None, List, [], ◌∷◌, refl, sym, ◌∙◌, subst, arith}
use Rattle.std.specs.Prelude.{slice_get, if◌then◌else◌}
use Rattle.std.specs.List.{list_all}
use Rattle.std.proofs.lemmas.Bool.{and_from, and_parts, cond_both, le-leb, leb-true, lt-ltb}
use Rattle.std.proofs.lemmas.List.{length-replicate}
use Rattle.eris_base.specs.declared.ids.ClientId.{ClientId}
use Rattle.eris_base.specs.declared.ids.Epoch.{Epoch}
use Rattle.eris_base.specs.declared.ids.Node.{Node}
use Rattle.eris_base.specs.declared.ids.Node.TheVariants.{Sequencer, Coordinator, Replica, Client}
use Rattle.eris_base.specs.declared.ids.ReplicaId.{ReplicaId}
use Rattle.eris_base.specs.declared.ids.ShardId.{ShardId}
use Rattle.eris_base.specs.declared.ids.TxnId.{TxnId}
use Rattle.eris_base.specs.ConfigLimits.{ConfigValue, IsConfig}
use Rattle.eris_txn.specs.declared.txn.Txn.{Txn}
use Rattle.eris_txn.specs.declared.txn.Txn.TheVariants.{Whole, General}
use Rattle.eris_txn.specs.PlanValues.{PlanValue}
use Rattle.eris_codec.specs.Fields as f
use Rattle.eris_msg.specs.declared.message.Message.{Message}
use Rattle.eris_msg.specs.declared.outgoing.Outgoing.{Outgoing}
use Rattle.eris_msg.specs.Spellings.{message_fits}
use Rattle.eris_event.specs.declared.event.Event.{Event}
use Rattle.eris_event.specs.declared.event.Event.TheVariants as event
use Rattle.eris_event.specs.declared.refusal.Refusal.{Refusal}
use Rattle.eris_event.specs.EventRanges.{are_ops, fits_client, fits_event, is_plan}
use Rattle.eris_report_range.specs.ReportRanges.{is_ranged_client, is_ranged_number, is_ranged_txn}
use Rattle.eris_sequencer.specs.Sequencers.{first_stampings, new_stamping, newest_of}
use Rattle.eris_sequencer.proofs.SequencerLaws.{AreStampings-first}
use Rattle.eris_in_place.specs.MessageRanges.{MessageFits}
use Rattle.eris_rules.specs.declared.coord_input.CoordInput.{CoordInput}
use Rattle.eris_rules.specs.declared.replica_input.ReplicaInput.{ReplicaInput}
use Rattle.eris_rules.specs.declared.transaction.Transaction.{Transaction}
use Rattle.eris_rules.specs.Addressees.{replica_count}
use Rattle.eris_rules.specs.ClientStates.{ClientIdentity, ClientOut, ClientState, first_client, transaction_at}
use Rattle.eris_rules.specs.Clients.{abort, client_step, retry, submit}
use Rattle.eris_rules.specs.CoordStates.{begun_epoch, first_coordinator, nothing_asked}
use Rattle.eris_rules.specs.Happenings.{aborts_plan, arrives, client_acts, comes_to, delivers, flows, happens, loses, plan_of_transaction, replica_steps, replica_takes, submitted_at, transaction_of}
use Rattle.eris_rules.specs.Refusals.{cause, limit_met, refusal}
use Rattle.eris_rules.specs.ReplicaStates.{ReplicaState, first_state}
use Rattle.eris_rules.specs.Runs.{run, run_from, taken_by, world_after}
use Rattle.eris_rules.specs.Worlds.{WorldState, client_at, first_replicas, first_world, has_crashed, no_longer_waiting, replica_at}
use Rattle.eris_client.specs.ClientRanges.{PlanFits, TxnFits}
use Rattle.eris_client.specs.ClientRanges as clients
use Rattle.eris_client.proofs.Fits as client_laws
use Rattle.eris_coord.proofs.Fits.{first_fits}
use Rattle.eris_law_agreement.proofs.Cells.{state_of-some}
use Rattle.eris_law_agreement.proofs.EpochInvariants.{first_states}
use Rattle.eris_law_agreement.proofs.Moves.{me_at}
use Rattle.eris_law_event_range.proofs.EventRanges.{ops_are_in_range, plan_is_in_range, shard_fits}
use Rattle.eris_law_range.specs.Fitting.{ReplicaFits, ReplicaInputFits}
use Rattle.eris_law_range.proofs.EpochRanges.{first_state_fits}
use Rattle.eris_law_report.specs.RangedRuns.{beginnings, is_beginning}
use Rattle.eris_law_report.proofs.Cells.{each_got, lengths, lengths_new, one_of_copies, within_rows}
use Rattle.eris_law_report.proofs.ClientEvents.{HappenedFits, Quiet, abort_quiet, retry_quiet, step_quiet, submit_counts, submit_happens}
use Rattle.eris_law_report.proofs.RangedWorlds.{IsRangedClient, IsRangedWorld, IsSentWorld, client_keeps, client_me, coordinator_keeps, replace_keeps, replica_keeps, rests, sequencer_keeps}
use Rattle.eris_law_report.proofs.Sending.{second_none, spelled, within_limits}
use Rattle.eris_law_report.proofs.Versions.{ops_fit, plan_fits}

-- ---- clients
known_client : (config : ConfigValue) (count : ℕ) (client : ClientId) (state : ClientState) → IsRangedClient config count client state → is_ranged_client client ≡ true
unfolding f.client f.from_to f.byte
known_client config count client state h =
    let le = leb_of client.0 127 (and_parts (nat_lt client.0 256) (nat_le 0 client.0 && nat_le client.0 127) h.fits.client).1 in lt-ltb client.0 128 (omega (arith, le))
  where
    leb_of : (n most : ℕ) → (nat_le 0 n && nat_le n most) ≡ true → n ≤ most
    leb_of n most k = leb-true n most (and_parts (nat_le 0 n) (nat_le n most) k).1

module _ (config : ConfigValue) (limits : IsConfig config) (count after : ℕ) (le : count ≤ after) where
  rests_as : (world : WorldState) → IsSentWorld config count world → IsRangedWorld config after world
  rests_as world h = rests config limits count after le world world.waiting world.crashed h.ranged

  module _ (world : WorldState) (h : IsSentWorld config count world) where
    -- what a client does without a submission
    quiet_acts : (client : ClientId) (act : ClientIdentity → ClientState → ClientOut)
        → ((state : ClientState) → IsRangedClient config count client state → clients.StepFits (client_me config client) (act (client_me config client) state))
        → ((state : ClientState) → is_ranged_client client ≡ true → Quiet state (act (client_me config client) state))
        → IsRangedWorld config after (client_acts config world client act)
    unfolding client_acts
    quiet_acts client act steps quiet =
        client_keeps config limits count after le world h.ranged client act (client_at world.clients client) refl
        (λ state k. let still = quiet state (known_client config count client state k) in
        record { step = steps state k; few = omega (arith, k.few, still.counts, le); event = still.event })

    message_acts : (client : ClientId) (message : Message) → IsRangedWorld config after (client_acts config world client (λ me state. client_step me state message))
    message_acts client message =
        quiet_acts client (λ me state. client_step me state message)
        (λ state k. client_laws.step-fits (client_me config client) state k.fits message)
        (λ state known. step_quiet (client_me config client) known state message)

    retry_acts : (client : ClientId) (number : ℕ) → IsRangedWorld config after (client_acts config world client (λ me state. retry me state number))
    retry_acts client number =
        quiet_acts client (λ me state. retry me state number)
        (λ state k. client_laws.retry-fits (client_me config client) state k.fits number)
        (λ state known. retry_quiet (client_me config client) known state number)

    -- a transaction of which an abort is asked is kept by its client, in range
    asked_plan : (id : TxnId) (plan : PlanValue) → plan_of_transaction (submitted_at world id) ≡ Some plan → (f.id.fits id ≡ true) × PlanFits plan
    unfolding submitted_at
    asked_plan id plan is = by_owner (client_at world.clients id.client) refl is
      where
        by_kept : (found : Option Transaction) → plan_of_transaction found ≡ Some plan → IfSome (plan_of_transaction found) PlanFits → OnSome found (f.id.fits id ≡ true) → (f.id.fits id ≡ true) × PlanFits plan
        by_kept None e p i = absurd cc
        by_kept (Some transaction) e p i = (i, subst (λ (o : Option PlanValue). IfSome o PlanFits) e p)

        by_owner : (owner : Option ClientState) → client_at world.clients id.client ≡ owner → plan_of_transaction (transaction_of owner id) ≡ Some plan → (f.id.fits id ≡ true) × PlanFits plan
        by_owner None e k = absurd cc
        by_owner (Some state) e k =
            let owner = h.ranged.of_clients id.client state e in
            by_kept (transaction_at state id) k (client_laws.plan_kept (client_me config id.client) state id owner.fits) (client_laws.id_kept (client_me config id.client) state id owner.fits)

    abort_acts : (asker : ClientId) (id : TxnId) (found : Option PlanValue) → plan_of_transaction (submitted_at world id) ≡ found → IsRangedWorld config after (aborts_plan config world asker id found)
    abort_acts asker id None is = rests_as world h
    abort_acts asker id (Some plan) is =
        let asked = asked_plan id plan is in
        quiet_acts asker (λ me state. abort me state id plan.keys)
        (λ state k. client_laws.abort-fits (client_me config asker) state k.fits id plan.keys asked.0 asked.1.keys)
        (λ state known. abort_quiet (client_me config asker) known state id plan.keys)

    -- a submission
    submit_acts : count + 1 ≤ after → after < 2 ^ 32 → (client : ClientId) (txn : Txn) → TxnFits txn → is_ranged_txn txn ≡ true → IsRangedWorld config after (client_acts config world client (λ me state. submit me state txn))
    unfolding client_acts
    submit_acts more room client txn fits ranged =
        client_keeps config limits count after le world h.ranged client (λ me state. submit me state txn) (client_at world.clients client) refl
        (λ state k. record {
          step = client_laws.submit-fits (client_me config client) state txn k.fits (omega (arith, k.few, more, room)) fits;
          few = omega (arith, k.few, more, submit_counts (client_me config client) state txn);
          event = subst HappenedFits (sym (submit_happens (client_me config client) state txn)) (
            (
              and_from (is_ranged_client client) (is_ranged_number (state.submitted + 1)) (known_client config count client state k)
                  (and_from (nat_lt 0 (state.submitted + 1)) (nat_le (state.submitted + 1) (2 ^ 32 - 1)) (lt-ltb 0 (state.submitted + 1) (omega arith))
                  (le-leb (state.submitted + 1) (2 ^ 32 - 1) (omega (arith, k.few, more, room)))),
              ranged,
            ),
            tt,
          );
        })

    -- ---- a message that comes
    replica_gets : (shard : ShardId) (replica : ReplicaId) (input : ReplicaInput) → ReplicaInputFits input → IsRangedWorld config after (replica_takes config world shard replica input)
    unfolding replica_takes
    replica_gets shard replica input k =
        cond_both (has_crashed world shard replica) world (replica_steps config world shard replica input (replica_at world.replicas shard replica)) (IsRangedWorld config after)
        (λ e. rests_as world h)
        (λ e. replica_keeps config limits count after le world h.ranged shard replica input (replica_at world.replicas shard replica) refl k)

    comes : (epoch : Option Epoch) (node : Node) (message : Message) → MessageFits message → message_fits message ≡ true → IsRangedWorld config after (comes_to config world epoch node message)
    comes epoch Sequencer message m k = sequencer_keeps config limits count after le world h.ranged (unwrap_or epoch (newest_of world.stampings)) message k
    comes epoch Coordinator message m k = coordinator_keeps config limits count after le world h.ranged (CoordInput.Message message) k
    comes epoch (Replica shard replica) message m k = replica_gets shard replica (ReplicaInput.Message message) m
    comes epoch (Client client) message m k = message_acts client message

    arrive : (number : ℕ) (epoch : Option Epoch) (found : Option Outgoing) → slice_get world.sent number ≡ found → IsRangedWorld config after (arrives config world epoch found)
    arrive number epoch None is = rests_as world h
    arrive number epoch (Some one) is =
        comes epoch one.to one.message
        (each_got (λ (one : Outgoing). MessageFits one.message) world.sent number one h.ranged.sent is)
        (each_got (λ (one : Outgoing). message_fits one.message ≡ true) world.sent number one h.spelled is)

-- a message that waits no more
taken : (config : ConfigValue) (limits : IsConfig config) (count : ℕ) (world : WorldState) (number : ℕ) → IsSentWorld config count world → IsSentWorld config count (no_longer_waiting world number)
unfolding no_longer_waiting
taken config limits count world number h =
    record { ranged = rests config limits count count (omega arith) world _ world.crashed h.ranged; spelled = h.spelled; few_sent = h.few_sent }

module _ (config : ConfigValue) (limits : IsConfig config) (count after : ℕ) (le : count ≤ after) (world : WorldState) (h : IsSentWorld config count world) where
  deliver : (number : ℕ) (epoch : Option Epoch) → IsRangedWorld config after (delivers config world number epoch)
  unfolding delivers no_longer_waiting
  deliver number epoch = arrive config limits count after le (no_longer_waiting world number) (taken config limits count world number h) number epoch (slice_get world.sent number) refl

  flow : (waiting : List ℕ) → IsRangedWorld config after (flows config world waiting)
  flow [] = rests_as config limits count after le world h
  flow (number ∷ numbers) = deliver number None

  lose : (waiting : List ℕ) → IsRangedWorld config after (loses world waiting)
  lose [] = rests_as config limits count after le world h
  lose (number ∷ numbers) = rests_as config limits count after le (no_longer_waiting world number) (taken config limits count world number h)

-- AN EVENT, by how much it begins
event_keeps : (config : ConfigValue) (limits : IsConfig config) (version count : ℕ) (world : WorldState) → IsSentWorld config count world → (one : Event) → fits_event version one ≡ true
    → (if is_beginning one then 1 else 0) + count < 2 ^ 32 → IsRangedWorld config ((if is_beginning one then 1 else 0) + count) (happens config world one)
unfolding happens
event_keeps config limits version count world h (event.Submit client ops) k room =
    let ops_ok = (and_parts (fits_client client) (are_ops version ops) k).1 in
    submit_acts config limits count (1 + count) (omega arith) world h (omega arith) room client (Whole ops) (ops_are_in_range version ops ops_ok) (ops_fit version ops ops_ok)
event_keeps config limits version count world h (event.General client plan) k room =
    let plan_ok = (and_parts (fits_client client) (is_plan version plan) k).1 in
    submit_acts config limits count (1 + count) (omega arith) world h (omega arith) room client (General plan) (plan_is_in_range version plan plan_ok) (plan_fits version plan plan_ok)
event_keeps config limits version count world h (event.Retry client number) k room = retry_acts config limits count (0 + count) (omega arith) world h client number
event_keeps config limits version count world h (event.Abort asker id) k room =
    abort_acts config limits count (0 + count) (omega arith) world h asker id (plan_of_transaction (submitted_at world id)) refl
event_keeps config limits version count world h (event.Deliver packet epoch) k room = deliver config limits count (0 + count) (omega arith) world h packet epoch
event_keeps config limits version count world h event.Flow k room = flow config limits count (0 + count) (omega arith) world h world.waiting
event_keeps config limits version count world h event.Lose k room = lose config limits count (0 + count) (omega arith) world h world.waiting
event_keeps config limits version count world h (event.Probe shard replica) k room = replica_gets config limits count (0 + count) (omega arith) world h shard replica ReplicaInput.Probe tt
event_keeps config limits version count world h (event.Suspect shard replica) k room = replica_gets config limits count (0 + count) (omega arith) world h shard replica ReplicaInput.Suspect tt
event_keeps config limits version count world h (event.Sync shard replica) k room = replica_gets config limits count (0 + count) (omega arith) world h shard replica ReplicaInput.Sync tt
event_keeps config limits version count world h (event.Crash shard replica) k room = rests config limits count (0 + count) (omega arith) world world.waiting _ h.ranged
event_keeps config limits version count world h event.Nudge k room = coordinator_keeps config limits count (0 + count) (omega arith) world h.ranged CoordInput.Nudge tt
event_keeps config limits version count world h event.Replace k room = replace_keeps config limits count (1 + count) (omega arith) world h.ranged (omega arith) room
event_keeps config limits version count world h (event.Noise node bytes) k room = rests_as config limits count (0 + count) (omega arith) world h

-- ---- A RUN
-- a world in range that began so few
pub record IsRangedEnd (config : ConfigValue) (world : WorldState) : Type 0 where
  pub count : ℕ
  pub few : count < 2 ^ 32
  pub sent : IsSentWorld config count world

-- an event that isn't refused
taken_keeps : (config : ConfigValue) (limits : IsConfig config) (version count : ℕ) (world : WorldState) → IsSentWorld config count world → (one : Event) → fits_event version one ≡ true
    → (if is_beginning one then 1 else 0) + count < 2 ^ 32 → refusal config world one ≡ None → IsSentWorld config ((if is_beginning one then 1 else 0) + count) (happens config world one)
unfolding refusal
taken_keeps config limits version count world h one k room none =
    let met = second_none (cause config world one) (limit_met (happens config world one).sent) none in
    let ranged = event_keeps config limits version count world h one k room in
    record { ranged = ranged; spelled = spelled (happens config world one).sent ranged.sent met; few_sent = (within_limits (happens config world one).sent met).few }

none_left : (config : ConfigValue) (events : List Event) (last : WorldState) → run_from config None events ≡ Some last → ⊥
unfolding run_from
none_left config events last e = absurd cc

runs_keep : (config : ConfigValue) (limits : IsConfig config) (version count : ℕ) (world : WorldState) → IsSentWorld config count world → (events : List Event) → list_all (fits_event version) events ≡ true
    → beginnings events + count < 2 ^ 32 → (last : WorldState) → run_from config (Some world) events ≡ Some last → IsRangedEnd config last
unfolding run_from world_after
runs_keep config limits version count world h [] k room last is =
    let same : world ≡ last = cc in subst (IsRangedEnd config) same (record { count = count; few = omega (arith, room); sent = h })
runs_keep config limits version count world h (one ∷ events) k room last is =
    by_refusal (refusal config world one) refl is
    (λ next. runs_keep config limits version ((if is_beginning one then 1 else 0) + count) (happens config world one) next events parts.1 (omega (arith, room)) last)
  where
    parts : (fits_event version one ≡ true) × (list_all (fits_event version) events ≡ true)
    parts = and_parts (fits_event version one) (list_all (fits_event version) events) k

    by_refusal : (found : Option Refusal) → refusal config world one ≡ found → run_from config (taken_by (happens config world one) found) events ≡ Some last
        → (IsSentWorld config ((if is_beginning one then 1 else 0) + count) (happens config world one) → run_from config (Some (happens config world one)) events ≡ Some last → IsRangedEnd config last)
        → IsRangedEnd config last
    by_refusal None e run rest = rest (taken_keeps config limits version count world h one parts.0 (omega (arith, room)) e) run
    by_refusal (Some why) e run rest = absurd (none_left config events last run)

-- ---- AT THE START
module _ (config : ConfigValue) (limits : IsConfig config) where
  first_lengths : lengths (first_world config).replicas ≡ replicate config.shards (replica_count config)
  unfolding first_world first_replicas
  first_lengths =
      lengths_new (λ number. first_replicas config (record { 0 = number })) (replica_count config)
      (λ number. length-replicate (replica_count config) (first_state (record { 0 = number }))) 0 config.shards

  replica_in_range : (replica : ReplicaId) → replica.0 < replica_count config → f.replica.fits replica ≡ true
  unfolding f.replica f.from_to f.byte
  replica_in_range replica lt =
      and_from (nat_lt replica.0 256) (nat_le 0 replica.0 && nat_le replica.0 6) (lt-ltb replica.0 256 (omega (arith, lt, limits.few_faults)))
      (and_from (nat_le 0 replica.0) (nat_le replica.0 6) (le-leb 0 replica.0 (omega arith)) (le-leb replica.0 6 (omega (arith, lt, limits.few_faults))))

  first_replica : (shard : ShardId) (replica : ReplicaId) (state : ReplicaState) → replica_at (first_world config).replicas shard replica ≡ Some state → ReplicaFits (me_at config shard replica) state
  first_replica shard replica state is =
      let within = within_rows (first_world config).replicas config.shards (replica_count config) first_lengths shard replica state is in
      let same : state ≡ first_state shard = sym (state_of-some (first_world config).replicas shard replica state is) ∙ first_states config shard replica in
      subst (ReplicaFits (me_at config shard replica)) (sym same)
      (first_state_fits (me_at config shard replica) limits (shard_fits shard (omega (arith, within.0, limits.few_shards))) (replica_in_range replica within.1))

  first_of_clients : (client : ClientId) (state : ClientState) → client_at (first_world config).clients client ≡ Some state → IsRangedClient config 0 client state
  unfolding client_at first_world first_client
  first_of_clients client state is =
      let one = one_of_copies config.clients first_client client.0 state is in
      subst (IsRangedClient config 0 client) (sym one.1)
      (record { fits = client_laws.first-fits config client (lt-ltb client.0 config.clients one.0) limits; few = omega arith })

  first_ranged : IsRangedWorld config 0 (first_world config)
  unfolding first_world first_stampings new_stamping first_coordinator begun_epoch nothing_asked
  first_ranged = record {
    stampings = AreStampings-first config;
    few_epochs = omega arith;
    stamped = (tt, tt);
    coordinator = first_fits;
    decided = omega arith;
    replicas = first_replica;
    rows = first_lengths;
    of_clients = first_of_clients;
    sent = tt;
    history = tt;
  }

  first_sent : IsSentWorld config 0 (first_world config)
  unfolding first_world
  first_sent = record { ranged = first_ranged; spelled = tt; few_sent = omega arith }

  -- THE WORLD AFTER A RUN is in range
  pub run_ranged : (version : ℕ) (events : List Event) → list_all (fits_event version) events ≡ true → beginnings events < 2 ^ 32 → (world : WorldState) → run config events ≡ Some world → IsRangedEnd config world
  unfolding run
  run_ranged version events k room world is = runs_keep config limits version 0 (first_world config) first_sent events k (omega (arith, room)) world is
