-- The `sent` lines of a trace are the run's sent packets, in order: each event sends what its step tells, and nothing else.
use Rattle.std.proofs.Common.{◌≡◌, ℕ, ◌+◌, ◌≤◌, Bool, true, false, cond, List, [], ◌∷◌, ◌++◌, Option, Some, None, map, length, drop, refl, sym, ap, ◌∙◌, append-nil, append_assoc, arith}
use Rattle.std.specs.Prelude.{slice_get}
use Rattle.std.specs.List.{range_with_len}
use Rattle.eris_base.specs.declared.ids.ClientId.{ClientId}
use Rattle.eris_base.specs.declared.ids.Epoch.{Epoch}
use Rattle.eris_base.specs.declared.ids.Node.{Node}
use Rattle.eris_base.specs.declared.ids.Node.TheVariants.{Sequencer, Coordinator, Replica, Client}
use Rattle.eris_base.specs.declared.ids.ReplicaId.{ReplicaId}
use Rattle.eris_base.specs.declared.ids.ShardId.{ShardId}
use Rattle.eris_base.specs.declared.ids.TxnId.{TxnId}
use Rattle.eris_base.specs.ConfigLimits.{ConfigValue}
use Rattle.eris_txn.specs.declared.history.HistoryEvent.{HistoryEvent}
use Rattle.eris_txn.specs.PlanValues.{PlanValue}
use Rattle.eris_msg.specs.declared.message.Message.{Message}
use Rattle.eris_msg.specs.declared.outgoing.Outgoing.{Outgoing}
use Rattle.eris_event.specs.declared.event.Event.{Event}
use Rattle.eris_event.specs.declared.refusal.Refusal.{Refusal}
use Rattle.eris_rules.specs.declared.coord_input.CoordInput.{CoordInput}
use Rattle.eris_rules.specs.declared.replica_input.ReplicaInput.{ReplicaInput}
use Rattle.eris_rules.specs.ClientStates.{ClientIdentity, ClientOut, ClientState}
use Rattle.eris_rules.specs.Happenings.{after_client, after_coordinator, after_replica, after_sequencer, aborts_plan, arrives, client_acts, client_acts_by, comes_to, coordinator_takes, delivers, flows, happens, loses, plan_of_transaction, replica_steps, replica_takes, sequencer_takes, submitted_at}
use Rattle.eris_rules.specs.Refusals.{refusal}
use Rattle.eris_rules.specs.ReplicaStates.{ReplicaState}
use Rattle.eris_rules.specs.Runs.{run, run_from, taken_by, world_after}
use Rattle.eris_rules.specs.Worlds.{WorldState, client_at, first_world, has_crashed, no_longer_waiting, replica_at, with_event, with_sends}
use Rattle.eris_rules.proofs.RunLaws.{none_run}
use Rattle.eris_trace.specs.declared.action.Action.{Action}
use Rattle.eris_trace.specs.declared.action.Action.TheVariants.{Delivers, Loses, Calls, Nothing}
use Rattle.eris_trace.specs.Items.{Item, Moment, Said, Stepped, Sent, Happened, Changed, Waiting, Lost, action_of, done_items, event_items, first_moment, items_of, left_by, moment_after, moment_after_all, sent_items, standing_of, step_items, with_lowest, with_packet}
use Rattle.eris_trace.specs.SentLines.{TellsSent, numbered, sent_in}

-- ---- lists
sent_in-append : (some others : List Item) → sent_in (some ++ others) ≡ sent_in some ++ sent_in others
sent_in-append [] others = refl
sent_in-append (Said number text ∷ some) others = sent_in-append some others
sent_in-append (Stepped number action ∷ some) others = sent_in-append some others
sent_in-append (Sent number from one ∷ some) others = ap (λ rest. (number, one) ∷ rest) (sent_in-append some others)
sent_in-append (Happened event ∷ some) others = sent_in-append some others
sent_in-append (Changed old new ∷ some) others = sent_in-append some others
sent_in-append (Waiting number node ∷ some) others = sent_in-append some others
sent_in-append (Lost number node ∷ some) others = sent_in-append some others

sent_in-sent_items : (from : Node) (number : ℕ) (sends : List Outgoing) → sent_in (sent_items from number sends) ≡ numbered number sends
sent_in-sent_items from number [] = refl
sent_in-sent_items from number (one ∷ more) = ap (λ rest. (number, one) ∷ rest) (sent_in-sent_items from (number + 1) more)

sent_in-happened : (events : List HistoryEvent) → sent_in (map Happened events) ≡ []
sent_in-happened [] = refl
sent_in-happened (event ∷ events) = sent_in-happened events

numbered-append : (number : ℕ) (some others : List Outgoing) → numbered number (some ++ others) ≡ numbered number some ++ numbered (number + length some) others
numbered-append number [] others = ap (λ n. numbered n others) (omega arith)
numbered-append number (one ∷ some) others = ap (λ rest. (number, one) ∷ rest)
    (numbered-append (number + 1) some others ∙ ap (λ n. numbered (number + 1) some ++ numbered n others) (omega arith))

pub drop-front : (some others : List Outgoing) → drop (length some) (some ++ others) ≡ others
drop-front [] others = refl
drop-front (one ∷ some) others = drop-front some others

pub length-joined : (some others : List Outgoing) → length (some ++ others) ≡ length some + length others
length-joined [] others = omega arith
length-joined (one ∷ some) others = let more = length-joined some others in omega (arith, more)

-- ---- what an event sends, what waits after it, and that the history only grows; where nothing happens nothing is sent
pub record Sends (action : Action) (before after : WorldState) : Type 0 where
  pub more : List Outgoing
  pub sent : after.sent ≡ before.sent ++ more
  pub none : action ≡ Nothing → more ≡ []
  pub waits : (action ≡ Nothing → ⊥) → after.waiting ≡ left_by action before.waiting ++ range_with_len (length before.sent) (length more)
  pub grows : length before.history ≤ length after.history

idle : (world : WorldState) → Sends Nothing world world
idle world = record { more = []; sent = sym (append-nil world.sent); none = λ _. refl; waits = λ some. absurd (some refl); grows = omega arith }

-- a node is called, and sends nothing
silent : (node : Node) (world after : WorldState) → after.sent ≡ world.sent → after.waiting ≡ world.waiting → after.history ≡ world.history → Sends (Calls node) world after
silent node world after sent waiting history = record {
  more = [];
  sent = sent ∙ sym (append-nil world.sent);
  none = λ _. refl;
  waits = λ _. waiting ∙ sym (append-nil world.waiting);
  grows = let same : length after.history ≡ length world.history = ap length history in omega arith;
}

with_event-grows : (history : List HistoryEvent) (event : Option HistoryEvent) → length history ≤ length (with_event history event)
with_event-grows history None = omega arith
with_event-grows history (Some event) = let more = length-joined-events history (event ∷ []) in omega (arith, more)
  where
    length-joined-events : (some others : List HistoryEvent) → length (some ++ others) ≡ length some + length others
    length-joined-events [] others = omega arith
    length-joined-events (one ∷ some) others = let rest = length-joined-events some others in omega (arith, rest)

module _ (config : ConfigValue) where
  replica_sends : (node : Node) (world : WorldState) (shard : ShardId) (replica : ReplicaId) (input : ReplicaInput) (found : Option ReplicaState)
      → Sends (Calls node) world (replica_steps config world shard replica input found)
  unfolding after_replica with_sends
  replica_sends node world shard replica input None = silent node world world refl refl refl
  replica_sends node world shard replica input (Some state) = record { more = _; sent = refl; none = λ e. cc; waits = λ _. refl; grows = omega arith }

  takes : (node : Node) (world : WorldState) (shard : ShardId) (replica : ReplicaId) (input : ReplicaInput) → Sends (Calls node) world (replica_takes config world shard replica input)
  unfolding replica_takes
  takes node world shard replica input = by_crash (has_crashed world shard replica)
    where
      by_crash : (b : Bool) → Sends (Calls node) world (cond b world (replica_steps config world shard replica input (replica_at world.replicas shard replica)))
      by_crash true = silent node world world refl refl refl
      by_crash false = replica_sends node world shard replica input (replica_at world.replicas shard replica)

  coordinator_gets : (node : Node) (world : WorldState) (input : CoordInput) → Sends (Calls node) world (coordinator_takes config world input)
  unfolding coordinator_takes after_coordinator with_sends
  coordinator_gets node world input = record { more = _; sent = refl; none = λ e. cc; waits = λ _. refl; grows = omega arith }

  sequencer_gets : (node : Node) (world : WorldState) (epoch : Epoch) (message : Message) → Sends (Calls node) world (sequencer_takes config world epoch message)
  unfolding sequencer_takes after_sequencer with_sends
  sequencer_gets node world epoch message = record { more = _; sent = refl; none = λ e. cc; waits = λ _. refl; grows = omega arith }

  acts_by : (node : Node) (world : WorldState) (client : ClientId) (act : ClientIdentity → ClientState → ClientOut) (found : Option ClientState)
      → Sends (Calls node) world (client_acts_by config world client act found)
  unfolding after_client with_sends
  acts_by node world client act None = silent node world world refl refl refl
  acts_by node world client act (Some state) = record { more = _; sent = refl; none = λ e. cc; waits = λ _. refl; grows = with_event-grows world.history _ }

  acts : (node : Node) (world : WorldState) (client : ClientId) (act : ClientIdentity → ClientState → ClientOut) → Sends (Calls node) world (client_acts config world client act)
  unfolding client_acts
  acts node world client act = acts_by node world client act (client_at world.clients client)

  comes : (world : WorldState) (epoch : Option Epoch) (node : Node) (message : Message) → Sends (Calls node) world (comes_to config world epoch node message)
  comes world epoch Sequencer message = sequencer_gets Sequencer world _ message
  comes world epoch Coordinator message = coordinator_gets Coordinator world (CoordInput.Message message)
  comes world epoch (Replica shard replica) message = takes (Replica shard replica) world shard replica (ReplicaInput.Message message)
  comes world epoch (Client client) message = acts (Client client) world client _

  -- a message that comes is one that is delivered, and waits no more
  arrived : (world : WorldState) (number : ℕ) (epoch : Option Epoch) (found : Option Outgoing)
      → Sends (with_packet Delivers number found) world (arrives config (no_longer_waiting world number) epoch found)
  unfolding no_longer_waiting
  arrived world number epoch None = record { more = []; sent = sym (append-nil world.sent); none = λ _. refl; waits = λ some. absurd (some refl); grows = omega arith }
  arrived world number epoch (Some one) =
      let sends = comes (no_longer_waiting world number) epoch one.to one.message in
      record { more = sends.more; sent = sends.sent; none = λ e. cc; waits = λ _. sends.waits (λ e. cc); grows = sends.grows }

  delivered : (world : WorldState) (number : ℕ) (epoch : Option Epoch) → Sends (with_packet Delivers number (slice_get world.sent number)) world (delivers config world number epoch)
  unfolding delivers
  delivered world number epoch = arrived world number epoch (slice_get world.sent number)

  flowed : (world : WorldState) (waiting : List ℕ) → Sends (with_lowest Delivers world.sent waiting) world (flows config world waiting)
  flowed world [] = idle world
  flowed world (number ∷ numbers) = delivered world number None

  lost_one : (world : WorldState) (number : ℕ) (found : Option Outgoing) → Sends (with_packet Loses number found) world (no_longer_waiting world number)
  unfolding no_longer_waiting
  lost_one world number None = record { more = []; sent = sym (append-nil world.sent); none = λ _. refl; waits = λ some. absurd (some refl); grows = omega arith }
  lost_one world number (Some one) = record { more = []; sent = sym (append-nil world.sent); none = λ e. cc; waits = λ _. sym (append-nil _); grows = omega arith }

  lost : (world : WorldState) (waiting : List ℕ) → Sends (with_lowest Loses world.sent waiting) world (loses world waiting)
  lost world [] = idle world
  lost world (number ∷ numbers) = lost_one world number (slice_get world.sent number)

  aborted : (node : Node) (world : WorldState) (asker : ClientId) (id : TxnId) (plan : Option PlanValue) → Sends (Calls node) world (aborts_plan config world asker id plan)
  aborted node world asker id None = silent node world world refl refl refl
  aborted node world asker id (Some plan) = acts node world asker _

  pub event_sends : (world : WorldState) (event : Event) → Sends (action_of world event) world (happens config world event)
  unfolding happens action_of
  event_sends world (Event.Submit client ops) = acts (Client client) world client _
  event_sends world (Event.General client plan) = acts (Client client) world client _
  event_sends world (Event.Retry client number) = acts (Client client) world client _
  event_sends world (Event.Abort asker id) = aborted (Client asker) world asker id (plan_of_transaction (submitted_at world id))
  event_sends world (Event.Deliver packet epoch) = delivered world packet epoch
  event_sends world Event.Flow = flowed world world.waiting
  event_sends world Event.Lose = lost world world.waiting
  event_sends world (Event.Probe shard replica) = takes (Replica shard replica) world shard replica ReplicaInput.Probe
  event_sends world (Event.Suspect shard replica) = takes (Replica shard replica) world shard replica ReplicaInput.Suspect
  event_sends world (Event.Sync shard replica) = takes (Replica shard replica) world shard replica ReplicaInput.Sync
  event_sends world (Event.Crash shard replica) = silent (Replica shard replica) world _ refl refl refl
  event_sends world Event.Nudge = coordinator_gets Coordinator world CoordInput.Nudge
  event_sends world Event.Replace = silent Sequencer world _ refl refl refl
  event_sends world (Event.Noise node bytes) = silent node world world refl refl refl

  -- ---- what a step tells is what it sends
  sent_in-done : (node : Node) (before after : WorldState) (more : List Outgoing) → after.sent ≡ before.sent ++ more → sent_in (done_items node before after) ≡ numbered (length before.sent) more
  unfolding done_items
  sent_in-done node before after more e =
      let sent = sent_items node (length before.sent) (drop (length before.sent) after.sent) in
      let happened = map Happened (drop (length before.history) after.history) in
      sent_in-append (sent ++ happened) (Changed (standing_of before) (standing_of after) ∷ [])
      ∙ append-nil (sent_in (sent ++ happened))
      ∙ sent_in-append sent happened
      ∙ ap (λ told. sent_in sent ++ told) (sent_in-happened (drop (length before.history) after.history))
      ∙ append-nil (sent_in sent)
      ∙ sent_in-sent_items node (length before.sent) (drop (length before.sent) after.sent)
      ∙ ap (λ list. numbered (length before.sent) (drop (length before.sent) list)) e
      ∙ ap (numbered (length before.sent)) (drop-front before.sent more)

  sent_in-step : (number : ℕ) (action : Action) (before after : WorldState) (sends : Sends action before after) → sent_in (step_items number action before after) ≡ numbered (length before.sent) sends.more
  sent_in-step number (Delivers packet node) before after sends = sent_in-done node before after sends.more sends.sent
  sent_in-step number (Loses packet node) before after sends = sent_in-done node before after sends.more sends.sent
  sent_in-step number (Calls node) before after sends = sent_in-done node before after sends.more sends.sent
  sent_in-step number Nothing before after sends = sym (ap (numbered (length before.sent)) (sends.none refl))

  -- ---- and so for events one after another
  pub record Tells (moment : Moment) (events : List Event) : Type 0 where
    pub more : List Outgoing
    pub sent : (moment_after_all config moment events).world.sent ≡ moment.world.sent ++ more
    pub told : sent_in (items_of config moment events) ≡ numbered (length moment.world.sent) more

  joined : (moment : Moment) (event : Event) (events : List Event) (sends : Sends (action_of moment.world event) moment.world (happens config moment.world event))
      → Tells (moment_after config moment event) events → Tells moment (event ∷ events)
  unfolding moment_after_all items_of event_items moment_after
  joined moment event events sends rest = record {
    more = sends.more ++ rest.more;
    sent = rest.sent ∙ ap (λ list. list ++ rest.more) sends.sent ∙ append_assoc moment.world.sent sends.more rest.more;
    told =
        sent_in-append (step_items (moment.steps + 1) (action_of moment.world event) moment.world (happens config moment.world event)) _
        ∙ ap (λ list. list ++ sent_in (items_of config (moment_after config moment event) events)) (sent_in-step (moment.steps + 1) (action_of moment.world event) moment.world (happens config moment.world event) sends)
        ∙ ap (λ list. numbered (length moment.world.sent) sends.more ++ list)
        (rest.told ∙ ap (λ n. numbered n rest.more) (ap length sends.sent ∙ length-joined moment.world.sent sends.more))
        ∙ sym (numbered-append (length moment.world.sent) sends.more rest.more);
  }

  pub tells : (moment : Moment) (events : List Event) → Tells moment events
  unfolding moment_after_all items_of
  tells moment [] = record { more = []; sent = sym (append-nil moment.world.sent); told = refl }
  tells moment (event ∷ events) = joined moment event events (event_sends moment.world event) (tells (moment_after config moment event) events)

  -- ---- the world of a run is that of its last moment
  pub world_of_run : (moment : Moment) (events : List Event) (world : WorldState) → run_from config (Some moment.world) events ≡ Some world → (moment_after_all config moment events).world ≡ world
  unfolding run_from moment_after_all moment_after world_after
  world_of_run moment [] world ran = cc
  world_of_run moment (event ∷ events) world ran =
      by_refusal (λ went. world_of_run (moment_after config moment event) events world went) (refusal config moment.world event) ran
    where
      by_refusal : (run_from config (Some (moment_after config moment event).world) events ≡ Some world → (moment_after_all config (moment_after config moment event) events).world ≡ world)
          → (found : Option Refusal) → run_from config (taken_by (happens config moment.world event) found) events ≡ Some world
          → (moment_after_all config (moment_after config moment event) events).world ≡ world
      by_refusal later None went = later went
      by_refusal later (Some cause) went = absurd (none_run config events world went)

pub tells_sent : TellsSent
unfolding run first_moment first_world
tells_sent config events world ran =
    let told = tells config (first_moment config) events in
    told.told ∙ ap (numbered 0) (sym told.sent ∙ ap (λ (w : WorldState). w.sent) (world_of_run config (first_moment config) events world ran))
