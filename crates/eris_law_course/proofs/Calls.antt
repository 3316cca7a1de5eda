-- What an input of a client says of the event: a message that came in place was sent, a call to submit or to abort is
-- the event of that name. So no client is called to abort a transaction of its own, as such an event is refused.
use Rattle.std.proofs.Common.{◌≡◌, ℕ, zero, suc, Bool, true, false, cond, ◌==◌, ◌&&◌, not, List, [], ◌∷◌, Option, Some, None, refl, sym, ap, ◌∙◌, subst}
use Rattle.std.specs.Option.{option_map, option_or}
use Rattle.std.specs.Prelude.{slice_get, if◌then◌else◌}
use Rattle.std.proofs.lemmas.Bool.{both_ways, eqb-true, eq-eqb}
use Rattle.eris_base.specs.declared.ids.ClientId.{ClientId}
use Rattle.eris_base.specs.declared.ids.Node.{Node}
use Rattle.eris_base.specs.declared.ids.Node.TheVariants.{Sequencer, Coordinator, Replica, Client}
use Rattle.eris_base.specs.declared.ids.TxnId.{TxnId}
use Rattle.eris_base.specs.ConfigLimits.{ConfigValue}
use Rattle.eris_txn.specs.declared.key.Key.{Key}
use Rattle.eris_txn.specs.declared.txn.Txn.{Txn}
use Rattle.eris_txn.specs.declared.txn.Txn.TheVariants.{Whole, General}
use Rattle.eris_txn.specs.PlanValues.{PlanValue}
use Rattle.eris_msg.specs.declared.message.Message.{Message}
use Rattle.eris_msg.specs.declared.outgoing.Outgoing.{Outgoing}
use Rattle.eris_event.specs.declared.event.Event.{Event}
use Rattle.eris_event.specs.declared.refusal.Refusal.{Refusal}
use Rattle.eris_event.specs.declared.refusal.Refusal.TheVariants.{NoSuchClient, OwnTxn}
use Rattle.eris_rules.specs.Happenings.{happens, plan_of_transaction, submitted_at}
use Rattle.eris_rules.specs.InPlace.{is_in_place_at_client}
use Rattle.eris_rules.specs.Known.{knows_client}
use Rattle.eris_rules.specs.Refusals.{abort_cause, cause, general_cause, limit_met, refusal}
use Rattle.eris_rules.specs.Runs.{taken_by, world_after, run_from, run}
use Rattle.eris_rules.specs.Worlds.{WorldState, first_world}
use Rattle.eris_serial.specs.Transactions.{CanRun}
use Rattle.eris_law_epoch.specs.Members.{In}
use Rattle.eris_law_epoch.proofs.Members.{In-get}
use Rattle.eris_law_agreement.specs.OwnSteps.{delivered_by, lowest}
use Rattle.eris_law_agreement.specs.WorldMoments.{moment_from, world_at}
use Rattle.eris_law_agreement.proofs.Moments.{moment-cons, taken}
use Rattle.eris_law_client.specs.ClientRuns.{AbortsOthers, ClientInput, Submits, Retries, Aborts, Gets}
use Rattle.eris_law_course.specs.Accepted.{IsAccepted, IsEventFit}
use Rattle.eris_law_course.specs.Inputs.{identity, nothing, given, heard, hears, called, input_of, inputs_from, inputs_of}

-- ---- the inputs by their places
input-from : (config : ConfigValue) (client : ClientId) (world : WorldState) (events : List Event) (i : ℕ)
    → slice_get (inputs_from config world events client) i ≡ option_map (λ event. input_of (moment_from config world events i) event client) (slice_get events i)
unfolding inputs_from moment_from
input-from config client world [] i = refl
input-from config client world (event ∷ events) zero = refl
input-from config client world (event ∷ events) (suc i) =
    input-from config client (happens config world event) events i
    ∙ ap (λ before. option_map (λ one. input_of before one client) (slice_get events i)) (sym (moment-cons config world event events i))

pub input-at : (config : ConfigValue) (events : List Event) (client : ClientId) (i : ℕ)
    → slice_get (inputs_of config events client) i ≡ option_map (λ event. input_of (world_at config events i) event client) (slice_get events i)
input-at config events client i = input-from config client (first_world config) events i

-- the event that an input is
pub record IsInputAt (config : ConfigValue) (events : List Event) (client : ClientId) (i : ℕ) (input : ClientInput) : Type 0 where
  pub event : Event
  pub there : slice_get events i ≡ Some event
  pub is : input_of (world_at config events i) event client ≡ input

pub event_of : (config : ConfigValue) (events : List Event) (client : ClientId) (i : ℕ) (input : ClientInput) → slice_get (inputs_of config events client) i ≡ Some input
    → IsInputAt config events client i input
event_of config events client i input h = by_event (slice_get events i) refl (sym (input-at config events client i) ∙ h)
  where
    by_event : (found : Option Event) → slice_get events i ≡ found → option_map (λ event. input_of (world_at config events i) event client) found ≡ Some input → IsInputAt config events client i input
    by_event None e k = absurd (cc)
    by_event (Some event) e k = record { event = event; there = e; is = cc }

-- ---- what is given to a client
not_given : (to client : ClientId) (input other : ClientInput) (P : Type 0) → given to input client ≡ other → ((to.0 == client.0) ≡ true → input ≡ other → P) → (nothing ≡ other → P) → P
not_given to client input other P h own never = by_test (to.0 == client.0) refl h
  where
    by_test : (b : Bool) → (to.0 == client.0) ≡ b → cond b input nothing ≡ other → P
    by_test true e k = own e k
    by_test false e k = never k

-- ---- a call to submit
no_submit : (txn : Txn) (P : Type 0) → nothing ≡ Submits txn → P
unfolding nothing
no_submit txn P h = absurd (cc)

heard_submit : (node : Node) (message : Message) (client : ClientId) (txn : Txn) (P : Type 0) → heard node message client ≡ Submits txn → P
heard_submit Sequencer message client txn P h = no_submit txn P h
heard_submit Coordinator message client txn P h = no_submit txn P h
heard_submit (Replica shard replica) message client txn P h = no_submit txn P h
heard_submit (Client to) message client txn P h = not_given to client (Gets message) (Submits txn) P h (λ own k. absurd (cc)) (no_submit txn P)

hears_submit : (found : Option Outgoing) (client : ClientId) (txn : Txn) (P : Type 0) → hears found client ≡ Submits txn → P
hears_submit None client txn P h = no_submit txn P h
hears_submit (Some one) client txn P h = heard_submit one.to one.message client txn P h

called_submit : (asker : ClientId) (id : TxnId) (plan : Option PlanValue) (client : ClientId) (txn : Txn) (P : Type 0) → called asker id plan client ≡ Submits txn → P
called_submit asker id None client txn P h = no_submit txn P h
called_submit asker id (Some plan) client txn P h = not_given asker client (Aborts id plan.keys) (Submits txn) P h (λ own k. absurd (cc)) (no_submit txn P)

whole_is : (txn other : Txn) → Submits txn ≡ Submits other → txn ≡ other
whole_is txn other h = cc

-- what is submitted can be run
pub submits_fit : (world : WorldState) (event : Event) (client : ClientId) (txn : Txn) → IsEventFit event → input_of world event client ≡ Submits txn → CanRun txn
unfolding input_of
submits_fit world (Event.Submit to ops) client txn fit h = not_given to client (Submits (Whole ops)) (Submits txn) (CanRun txn) h (λ own k. subst CanRun (whole_is (Whole ops) txn k) fit) (no_submit txn (CanRun txn))
submits_fit world (Event.General to plan) client txn fit h = not_given to client (Submits (General plan)) (Submits txn) (CanRun txn) h (λ own k. subst CanRun (whole_is (General plan) txn k) fit) (no_submit txn (CanRun txn))
submits_fit world (Event.Retry to number) client txn fit h = not_given to client (Retries number) (Submits txn) (CanRun txn) h (λ own k. absurd (cc)) (no_submit txn (CanRun txn))
submits_fit world (Event.Abort asker id) client txn fit h = called_submit asker id (plan_of_transaction (submitted_at world id)) client txn (CanRun txn) h
submits_fit world (Event.Deliver packet epoch) client txn fit h = hears_submit (delivered_by world (Event.Deliver packet epoch)) client txn (CanRun txn) h
submits_fit world Event.Flow client txn fit h = hears_submit (delivered_by world Event.Flow) client txn (CanRun txn) h
submits_fit world Event.Lose client txn fit h = no_submit txn (CanRun txn) h
submits_fit world (Event.Probe s r) client txn fit h = no_submit txn (CanRun txn) h
submits_fit world (Event.Suspect s r) client txn fit h = no_submit txn (CanRun txn) h
submits_fit world (Event.Sync s r) client txn fit h = no_submit txn (CanRun txn) h
submits_fit world (Event.Crash s r) client txn fit h = no_submit txn (CanRun txn) h
submits_fit world Event.Nudge client txn fit h = no_submit txn (CanRun txn) h
submits_fit world Event.Replace client txn fit h = no_submit txn (CanRun txn) h
submits_fit world (Event.Noise node bytes) client txn fit h = no_submit txn (CanRun txn) h

-- ---- a call to abort
pub record IsCalledBy (world : WorldState) (event : Event) (client : ClientId) (id : TxnId) (keys : List Key) : Type 0 where
  pub asker : ClientId
  pub event_is : event ≡ Event.Abort asker id
  pub asks : (asker.0 == client.0) ≡ true
  pub plan : PlanValue
  pub found : plan_of_transaction (submitted_at world id) ≡ Some plan
  pub keys_are : keys ≡ plan.keys

no_abort : (id : TxnId) (keys : List Key) (P : Type 0) → nothing ≡ Aborts id keys → P
unfolding nothing
no_abort id keys P h = absurd (cc)

heard_abort : (node : Node) (message : Message) (client : ClientId) (id : TxnId) (keys : List Key) (P : Type 0) → heard node message client ≡ Aborts id keys → P
heard_abort Sequencer message client id keys P h = no_abort id keys P h
heard_abort Coordinator message client id keys P h = no_abort id keys P h
heard_abort (Replica shard replica) message client id keys P h = no_abort id keys P h
heard_abort (Client to) message client id keys P h = not_given to client (Gets message) (Aborts id keys) P h (λ own k. absurd (cc)) (no_abort id keys P)

hears_abort : (found : Option Outgoing) (client : ClientId) (id : TxnId) (keys : List Key) (P : Type 0) → hears found client ≡ Aborts id keys → P
hears_abort None client id keys P h = no_abort id keys P h
hears_abort (Some one) client id keys P h = heard_abort one.to one.message client id keys P h

submit_abort : (to client : ClientId) (txn : Txn) (id : TxnId) (keys : List Key) (P : Type 0) → given to (Submits txn) client ≡ Aborts id keys → P
submit_abort to client txn id keys P h = not_given to client (Submits txn) (Aborts id keys) P h (λ own k. absurd (cc)) (no_abort id keys P)

called_abort : (world : WorldState) (asker client : ClientId) (other id : TxnId) (keys : List Key) (plan : Option PlanValue) → plan_of_transaction (submitted_at world other) ≡ plan
    → called asker other plan client ≡ Aborts id keys → IsCalledBy world (Event.Abort asker other) client id keys
called_abort world asker client other id keys None e h = no_abort id keys _ h
called_abort world asker client other id keys (Some plan) e h =
    not_given asker client (Aborts other plan.keys) (Aborts id keys) (IsCalledBy world (Event.Abort asker other) client id keys) h
    (λ own k. let same : other ≡ id = cc in
    record {
      asker = asker;
      event_is = ap (λ (one : TxnId). Event.Abort asker one) same;
      asks = own;
      plan = plan;
      found = subst (λ (one : TxnId). plan_of_transaction (submitted_at world one) ≡ Some plan) same e;
      keys_are = cc;
    }) (no_abort id keys _)

pub aborts_called : (world : WorldState) (event : Event) (client : ClientId) (id : TxnId) (keys : List Key) → input_of world event client ≡ Aborts id keys → IsCalledBy world event client id keys
unfolding input_of
aborts_called world (Event.Submit to ops) client id keys h = submit_abort to client (Whole ops) id keys _ h
aborts_called world (Event.General to plan) client id keys h = submit_abort to client (General plan) id keys _ h
aborts_called world (Event.Retry to number) client id keys h = not_given to client (Retries number) (Aborts id keys) _ h (λ own k. absurd (cc)) (no_abort id keys _)
aborts_called world (Event.Abort asker other) client id keys h = called_abort world asker client other id keys (plan_of_transaction (submitted_at world other)) refl h
aborts_called world (Event.Deliver packet epoch) client id keys h = hears_abort (delivered_by world (Event.Deliver packet epoch)) client id keys _ h
aborts_called world Event.Flow client id keys h = hears_abort (delivered_by world Event.Flow) client id keys _ h
aborts_called world Event.Lose client id keys h = no_abort id keys _ h
aborts_called world (Event.Probe s r) client id keys h = no_abort id keys _ h
aborts_called world (Event.Suspect s r) client id keys h = no_abort id keys _ h
aborts_called world (Event.Sync s r) client id keys h = no_abort id keys _ h
aborts_called world (Event.Crash s r) client id keys h = no_abort id keys _ h
aborts_called world Event.Nudge client id keys h = no_abort id keys _ h
aborts_called world Event.Replace client id keys h = no_abort id keys _ h
aborts_called world (Event.Noise node bytes) client id keys h = no_abort id keys _ h

-- ---- a message
not_in_place : (config : ConfigValue) (message : Message) (P : Type 0) → nothing ≡ Gets message → is_in_place_at_client config message ≡ true → P
unfolding nothing is_in_place_at_client
not_in_place config message P h ok = by_message message (cc) ok
  where
    by_message : (one : Message) → Message.EpochAsk (record { 0 = 0 }) ≡ one → is_in_place_at_client config one ≡ true → P
    by_message one e k = absurd (both_ways _ refl (subst (λ (m : Message). is_in_place_at_client config m ≡ true) (sym e) k))

abbrev pub WasDelivered : WorldState → Message → Type 0
WasDelivered world message = (to : Node) × In (record { to = to; message = message }) world.sent

module _ (config : ConfigValue) (world : WorldState) (client : ClientId) (message : Message) (ok : is_in_place_at_client config message ≡ true) where
  heard_sent : (node : Node) (one : Message) → In (record { to = node; message = one }) world.sent → heard node one client ≡ Gets message → WasDelivered world message
  heard_sent Sequencer one i h = not_in_place config message _ h ok
  heard_sent Coordinator one i h = not_in_place config message _ h ok
  heard_sent (Replica shard replica) one i h = not_in_place config message _ h ok
  heard_sent (Client to) one i h =
      not_given to client (Gets one) (Gets message) (WasDelivered world message) h
      (λ own k. (Client to, let same : one ≡ message = cc in subst (λ (m : Message). In (record { to = Client to; message = m }) world.sent) same i))
      (λ k. not_in_place config message _ k ok)

  found_sent : (found : Option Outgoing) (number : ℕ) → slice_get world.sent number ≡ found → hears found client ≡ Gets message → WasDelivered world message
  found_sent None number e h = not_in_place config message _ h ok
  found_sent (Some one) number e h = heard_sent one.to one.message (In-get one world.sent number e) h

  flow_sent : (waiting : List ℕ) → hears (lowest world waiting) client ≡ Gets message → WasDelivered world message
  flow_sent [] h = not_in_place config message _ h ok
  flow_sent (number ∷ numbers) h = found_sent (slice_get world.sent number) number refl h

  call_sent : (to : ClientId) (input : ClientInput) → (input ≡ Gets message → ⊥) → given to input client ≡ Gets message → WasDelivered world message
  call_sent to input never h = not_given to client input (Gets message) (WasDelivered world message) h (λ own k. absurd (never k)) (λ k. not_in_place config message _ k ok)

  called_sent : (asker : ClientId) (id : TxnId) (plan : Option PlanValue) → called asker id plan client ≡ Gets message → WasDelivered world message
  called_sent asker id None h = not_in_place config message _ h ok
  called_sent asker id (Some plan) h = call_sent asker (Aborts id plan.keys) (λ k. cc) h

  -- A MESSAGE THAT CAME was sent
  pub gets_sent : (event : Event) → input_of world event client ≡ Gets message → WasDelivered world message
  unfolding input_of
  gets_sent (Event.Submit to ops) h = call_sent to (Submits (Whole ops)) (λ k. cc) h
  gets_sent (Event.General to plan) h = call_sent to (Submits (General plan)) (λ k. cc) h
  gets_sent (Event.Retry to number) h = call_sent to (Retries number) (λ k. cc) h
  gets_sent (Event.Abort asker id) h = called_sent asker id (plan_of_transaction (submitted_at world id)) h
  gets_sent (Event.Deliver packet epoch) h = found_sent (slice_get world.sent packet) packet refl h
  gets_sent Event.Flow h = flow_sent world.waiting h
  gets_sent Event.Lose h = not_in_place config message _ h ok
  gets_sent (Event.Probe s r) h = not_in_place config message _ h ok
  gets_sent (Event.Suspect s r) h = not_in_place config message _ h ok
  gets_sent (Event.Sync s r) h = not_in_place config message _ h ok
  gets_sent (Event.Crash s r) h = not_in_place config message _ h ok
  gets_sent Event.Nudge h = not_in_place config message _ h ok
  gets_sent Event.Replace h = not_in_place config message _ h ok
  gets_sent (Event.Noise node bytes) h = not_in_place config message _ h ok

-- ---- what isn't refused
none_first : (first second : Option Refusal) → option_or first second ≡ None → first ≡ None
none_first None second h = refl
none_first (Some why) second h = absurd (cc)

after_accepted : (config : ConfigValue) (world after : WorldState) (one : Event) → world_after config world one ≡ Some after → cause config world one ≡ None
unfolding world_after refusal
after_accepted config world after one t = by_refusal (option_or (cause config world one) (limit_met (happens config world one).sent)) refl t
  where
    by_refusal : (why : Option Refusal) → option_or (cause config world one) (limit_met (happens config world one).sent) ≡ why → taken_by (happens config world one) why ≡ Some after → cause config world one ≡ None
    by_refusal None r t = none_first (cause config world one) (limit_met (happens config world one).sent) r
    by_refusal (Some why) r t = absurd (cc)

accepted_from : (config : ConfigValue) (world last : WorldState) (events : List Event) → run_from config (Some world) events ≡ Some last
    → (k : ℕ) (event : Event) → slice_get events k ≡ Some event → cause config (moment_from config world events k) event ≡ None
unfolding run_from moment_from
accepted_from config world last [] h k event e = absurd (cc)
accepted_from config world last (one ∷ events) h k event e = by_next (world_after config world one) refl h k e (λ after q number there. accepted_from config after last events q number event there)
  where
    none : (others : List Event) → run_from config None others ≡ Some last → ⊥
    none others q = absurd (cc)

    by_next : (next : Option WorldState) → world_after config world one ≡ next → run_from config next events ≡ Some last
        → (k : ℕ) → slice_get (one ∷ events) k ≡ Some event
        → ((after : WorldState) → run_from config (Some after) events ≡ Some last → (number : ℕ) → slice_get events number ≡ Some event → cause config (moment_from config after events number) event ≡ None)
        → cause config (moment_from config world (one ∷ events) k) event ≡ None
    by_next None t q k e rest = absurd (none events q)
    by_next (Some after) t q zero e rest = let same : one ≡ event = cc in subst (λ (x : Event). cause config world x ≡ None) same (after_accepted config world after one t)
    by_next (Some after) t q (suc k) e rest =
        subst (λ (before : WorldState). cause config before event ≡ None)
        (ap (λ (start : WorldState). moment_from config start events k) (sym (taken config world after one t)) ∙ sym (moment-cons config world one events k))
        (rest after q k e)

-- NO EVENT OF A RUN is refused
pub accepted : (config : ConfigValue) (events : List Event) (last : WorldState) → run config events ≡ Some last → IsAccepted config events
unfolding run
accepted config events last h = accepted_from config (first_world config) last events h

-- an abort that isn't refused is of another's
abort_other : (config : ConfigValue) (world : WorldState) (asker : ClientId) (id : TxnId) → abort_cause config world asker id ≡ None → (asker.0 == id.client.0) ≡ false
unfolding abort_cause
abort_other config world asker id h = by_known (not (knows_client config asker && knows_client config id.client)) h
  where
    by_own : (b : Bool) → cond b (Some OwnTxn) (general_cause (submitted_at world id)) ≡ None → b ≡ false
    by_own true k = absurd (cc)
    by_own false k = refl

    by_known : (b : Bool) → cond b (Some NoSuchClient) (if asker.0 == id.client.0 then Some OwnTxn else general_cause (submitted_at world id)) ≡ None → (asker.0 == id.client.0) ≡ false
    by_known true k = absurd (cc)
    by_known false k = by_own (asker.0 == id.client.0) k

apart_turned : (a b c : ℕ) → (a == b) ≡ true → (a == c) ≡ false → (c == b) ≡ false
apart_turned a b c same apart = by_test (c == b) refl
  where
    by_test : (t : Bool) → (c == b) ≡ t → t ≡ false
    by_test false e = refl
    by_test true e =
        let one : a ≡ b = eqb-true a b same in
        let two : c ≡ b = eqb-true c b e in
        absurd (both_ways _ apart (eq-eqb a c (one ∙ sym two)))

-- NO CLIENT IS CALLED TO ABORT ITS OWN
pub aborts_others : (config : ConfigValue) (events : List Event) → IsAccepted config events → (client : ClientId) → AbortsOthers (identity config client) (inputs_of config events client)
unfolding cause
aborts_others config events ok client = λ at id keys h.
    let input = event_of config events client at (Aborts id keys) h in
    let by = aborts_called (world_at config events at) input.event client id keys input.is in
    apart_turned by.asker.0 client.0 id.client.0 by.asks
    (abort_other config (world_at config events at) by.asker id
    (subst (λ (event : Event). cause config (world_at config events at) event ≡ None) by.event_is (ok at input.event input.there)))
