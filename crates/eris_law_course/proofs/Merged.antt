-- THE WORLD'S HISTORY AND A CLIENT'S OWN: what was submitted can be run; what a client was called to abort is a general
-- transaction with these keys, which its owner submitted before; and a submit is of an id that nobody submitted. So the
-- world's history is at each moment one of all clients, as the laws of one client ask.
use Rattle.std.proofs.Common.{◌≡◌, inl, inr, ℕ, zero, suc, ◌≤◌, Bool, true, false, cond, List, [], ◌∷◌, ◌++◌, Option, Some, None, refl, sym, ap, ◌∙◌, subst, arith, unwrap_or}
use Rattle.eris_base.specs.declared.ids.ClientId.{ClientId}
use Rattle.eris_base.specs.declared.ids.TxnId.{TxnId}
use Rattle.eris_base.specs.ConfigLimits.{ConfigValue}
use Rattle.eris_base.specs.Each.{Each, EachAfter}
use Rattle.eris_base.specs.TxnIds.{same_id}
use Rattle.eris_base.proofs.TxnIdLaws.{same_id-true}
use Rattle.eris_txn.specs.declared.history.HistoryEvent.{HistoryEvent}
use Rattle.eris_txn.specs.declared.history.HistoryEvent.TheVariants.{Submit, Read, Answer as Answered, Told}
use Rattle.eris_txn.specs.declared.key.Key.{Key}
use Rattle.eris_txn.specs.declared.txn.Txn.{Txn}
use Rattle.eris_txn.specs.declared.txn.Txn.TheVariants.{Whole, General}
use Rattle.eris_txn.specs.PlanValues.{PlanValue}
use Rattle.eris_audit.specs.Histories.{first_submit}
use Rattle.eris_event.specs.declared.event.Event.{Event}
use Rattle.eris_rules.specs.declared.transaction.Course.{Course}
use Rattle.eris_rules.specs.declared.transaction.Course.TheVariants.{Executing, Reading, Concluding, Aborting}
use Rattle.eris_rules.specs.declared.transaction.Transaction.{Transaction}
use Rattle.eris_rules.specs.ClientStates.{ClientIdentity, ClientState, plan_of, transaction_at}
use Rattle.eris_rules.specs.Happenings.{plan_of_transaction, submitted_at, transaction_of}
use Rattle.eris_rules.specs.Worlds.{WorldState, client_at, first_world, with_event}
use Rattle.eris_serial.specs.Evidence.{IsIn, SubmitsWell}
use Rattle.eris_serial.proofs.Runnable.{Each-of}
use Rattle.eris_law_epoch.proofs.Members.{Each-at, In-get}
use Rattle.eris_law_agreement.specs.WorldMoments.{moment_from, world_at}
use Rattle.eris_law_client.specs.Bridges.{IsHistoryWith}
use Rattle.eris_law_client.specs.ClientRuns.{AbortsOthers, ClientInput, Submits, Aborts, WasCalledToAbort, history_to, moment, step_at}
use Rattle.eris_law_client.specs.Courses.{IsSoFar, events_of, id_of}
use Rattle.eris_law_client.specs.Rests.{EventRests}
use Rattle.eris_law_client.proofs.Events.{txn_by_events}
use Rattle.eris_law_client.proofs.Growing.{submit_stays}
use Rattle.eris_law_client.proofs.Resting.{event_rests, happened}
use Rattle.eris_law_client.proofs.Standing.{known_stands}
use Rattle.eris_law_course.specs.Accepted.{AreEventsFit, IsAccepted, IsEventFit, IsThere}
use Rattle.eris_law_course.specs.Inputs.{identity, inputs_of}
use Rattle.eris_law_course.proofs.Actions.{side_of}
use Rattle.eris_law_course.proofs.Calls.{aborts_called, aborts_others, event_of, submits_fit}
use Rattle.eris_law_course.proofs.Courses.{Acted, Rested, Steps, event_from, event_to, own_course, steps, submits_agree, was_there}

-- ---- histories
-- an id's first submit stands in the history
pub submit_there : (history : List HistoryEvent) (id : TxnId) (txn : Txn) → first_submit history id ≡ Some txn → IsIn (Submit id txn) history
submit_there [] id txn h = absurd (cc)
submit_there (Submit other own ∷ history) id txn h = by_test (same_id other id) refl h (submit_there history id txn)
  where
    by_test : (t : Bool) → same_id other id ≡ t → cond t (Some own) (first_submit history id) ≡ Some txn → (first_submit history id ≡ Some txn → IsIn (Submit id txn) history) → IsIn (Submit id txn) (Submit other own ∷ history)
    by_test true same k rest =
        let one : own ≡ txn = cc in
        inl (ap (λ (x : TxnId). Submit x own) (same_id-true other id same) ∙ ap (λ (t : Txn). Submit id t) one)
    by_test false apart k rest = inr (rest k)
submit_there (Read other values ∷ history) id txn h = inr (submit_there history id txn h)
submit_there (Answered other answer ∷ history) id txn h = inr (submit_there history id txn h)
submit_there (Told asker other answer ∷ history) id txn h = inr (submit_there history id txn h)

-- an id with no event wasn't submitted
pub no_submit : (history : List HistoryEvent) (id : TxnId) → events_of id history ≡ [] → first_submit history id ≡ None
no_submit [] id h = refl
no_submit (event ∷ history) id h = by_test (same_id (id_of event) id) refl h (no_submit history id)
  where
    by_event : (one : HistoryEvent) → same_id (id_of one) id ≡ false → first_submit history id ≡ None → first_submit (one ∷ history) id ≡ None
    by_event (Submit other txn) apart none = ap (λ (t : Bool). cond t (Some txn) (first_submit history id)) apart ∙ none
    by_event (Read other values) apart none = none
    by_event (Answered other answer) apart none = none
    by_event (Told asker other answer) apart none = none

    by_test : (t : Bool) → same_id (id_of event) id ≡ t → cond t (event ∷ events_of id history) (events_of id history) ≡ [] → (events_of id history ≡ [] → first_submit history id ≡ None) → first_submit (event ∷ history) id ≡ None
    by_test true same k rest = absurd (cc)
    by_test false apart k rest = by_event event apart (rest k)

-- ---- how far a general transaction is
pub record IsGeneral (id : TxnId) (events : List HistoryEvent) (plan : PlanValue) : Type 0 where
  pub rest : List HistoryEvent
  pub events_are : events ≡ Submit id (General plan) ∷ rest

same_plan : (plan other : PlanValue) → Some plan ≡ Some other → plan ≡ other
same_plan plan other h = cc

with_plan : (id : TxnId) (events : List HistoryEvent) (own plan : PlanValue) (rest : List HistoryEvent) → events ≡ Submit id (General own) ∷ rest → Some own ≡ Some plan → IsGeneral id events plan
with_plan id events own plan rest are h = record { rest = rest; events_are = are ∙ ap (λ (p : PlanValue). Submit id (General p) ∷ rest) (same_plan own plan h) }

general_so_far : (me : ClientIdentity) (inputs : List ClientInput) (number : ℕ) (id : TxnId) (events : List HistoryEvent) (plan : PlanValue) (course : Course) (finished : Bool)
    → IsSoFar me inputs number id events course finished → plan_of course ≡ Some plan → IsGeneral id events plan
general_so_far me inputs number id events plan (Executing operations) finished far h = absurd (cc)
general_so_far me inputs number id events plan (Reading own) false far h = with_plan id events own plan [] far.events_are h
general_so_far me inputs number id events plan (Reading own) true far h = with_plan id events own plan (Answered id _ ∷ []) far.events_are h
general_so_far me inputs number id events plan (Concluding own body) false far h = with_plan id events own plan (Read id far.values ∷ []) far.events_are h
general_so_far me inputs number id events plan (Concluding own body) true far h = with_plan id events own plan (Read id far.values ∷ Answered id far.outcome ∷ []) far.events_are h
general_so_far me inputs number id events plan (Aborting keys) finished far h = absurd (cc)

-- a plan that a world finds for an id is of a transaction of the id's client
pub record IsKnownPlan (world : WorldState) (id : TxnId) (plan : PlanValue) : Type 0 where
  pub state : ClientState
  pub owner : client_at world.clients id.client ≡ Some state
  pub transaction : Transaction
  pub known : transaction_at state id ≡ Some transaction
  pub plan_is : plan_of transaction.course ≡ Some plan

known_plan : (world : WorldState) (id : TxnId) (plan : PlanValue) → plan_of_transaction (submitted_at world id) ≡ Some plan → IsKnownPlan world id plan
unfolding submitted_at
known_plan world id plan h = by_owner (client_at world.clients id.client) refl h
  where
    by_found : (state : ClientState) → client_at world.clients id.client ≡ Some state → (found : Option Transaction) → transaction_at state id ≡ found → plan_of_transaction found ≡ Some plan → IsKnownPlan world id plan
    by_found state e None f k = absurd (cc)
    by_found state e (Some transaction) f k = record { state = state; owner = e; transaction = transaction; known = f; plan_is = k }

    by_owner : (found : Option ClientState) → client_at world.clients id.client ≡ found → plan_of_transaction (transaction_of found id) ≡ Some plan → IsKnownPlan world id plan
    by_owner None e k = absurd (cc)
    by_owner (Some state) e k = by_found state e (transaction_at state id) refl k

module _ (config : ConfigValue) (events : List Event) (ok : IsAccepted config events) where
  abbrev at : ℕ → WorldState
  at k = world_at config events k

  abbrev me : ClientId → ClientIdentity
  me client = identity config client

  abbrev inputs : ClientId → List ClientInput
  inputs client = inputs_of config events client

  abbrev own : ClientId → ℕ → List HistoryEvent
  own client k = history_to (me client) (inputs client) k

  abbrev fair : (client : ClientId) → AbortsOthers (me client) (inputs client)
  fair client = aborts_others config events ok client

  -- WHAT A CLIENT WAS CALLED TO ABORT is a general transaction that its owner submitted
  pub record IsAbortedPlan (k : ℕ) (id : TxnId) (keys : List Key) : Type 0 where
    pub plan : PlanValue
    pub submitted : first_submit (at k).history id ≡ Some (General plan)
    pub keys_are : keys ≡ plan.keys

  -- a plan that a moment's world has is submitted then and later
  plan_submitted : (j k : ℕ) → j ≤ k → (id : TxnId) (plan : PlanValue) → IsKnownPlan (at j) id plan → first_submit (at k).history id ≡ Some (General plan)
  plan_submitted j k le id plan known =
      let there = was_there config events id.client j known.state known.owner in
      let same : Some known.state ≡ Some (moment (me id.client) (inputs id.client) j) = sym known.owner ∙ own_course config events id.client there j in
      let state_is : known.state ≡ moment (me id.client) (inputs id.client) j = cc in
      let stands = known_stands (me id.client) (inputs id.client) (fair id.client) j id known.transaction (ap (λ (s : ClientState). transaction_at s id) (sym state_is) ∙ known.known) in
      let general = general_so_far (me id.client) (inputs id.client) j id (events_of id (own id.client j)) plan known.transaction.course known.transaction.finished stands.so_far known.plan_is in
      submits_agree config events ok id there k
      ∙ submit_stays (me id.client) (inputs id.client) j k le id (General plan) (txn_by_events id (own id.client j) general.rest (General plan) general.events_are)

  pub aborted_plan : (client : ClientId) (k : ℕ) (id : TxnId) (keys : List Key) → WasCalledToAbort (inputs client) k id keys → IsAbortedPlan k id keys
  aborted_plan client k id keys called =
      let input = event_of config events client called.at (Aborts id keys) called.called in
      let by = aborts_called (at called.at) input.event client id keys input.is in
      record {
        plan = by.plan;
        submitted = plan_submitted called.at k (omega (arith, called.before)) id by.plan (known_plan (at called.at) id by.plan by.found);
        keys_are = by.keys_are;
      }

  -- A SUBMIT IS OF A NEW ID, and of an own one
  pub is_new : (client : ClientId) → IsThere config client → (k : ℕ) (id : TxnId) (txn : Txn) → (step_at (me client) (inputs client) k).event ≡ Some (Submit id txn) → first_submit (at k).history id ≡ None
  is_new client there k id txn h =
      let rests = event_rests (me client) (inputs client) (fair client) k (Submit id txn) h in
      let owner : id.client ≡ client = ap (λ (x : TxnId). x.client) rests.id_is in
      submits_agree config events ok id (subst (IsThere config) (sym owner) there) k
      ∙ (ap (λ (c : ClientId). first_submit (own c k) id) owner ∙ no_submit (own client k) id rests.first)

  submitted_own : (client : ClientId) (k : ℕ) (id : TxnId) (txn : Txn) → first_submit (own client k) id ≡ Some txn → id.client ≡ client
  submitted_own client k id txn h =
      let so = happened (me client) (inputs client) (fair client) k (Submit id txn) (submit_there (own client k) id txn h) in
      ap (λ (x : TxnId). x.client) so.rests.id_is

  -- the events that are added, one by one
  after_append : (P : List HistoryEvent → HistoryEvent → Type 0) (before list : List HistoryEvent) (event : HistoryEvent) → EachAfter P before list → P (before ++ list) event → EachAfter P before (list ++ event ∷ [])
  after_append P before [] event each last = (subst (λ (l : List HistoryEvent). P l event) (append_nothing before) last, tt)
    where
      append_nothing : (l : List HistoryEvent) → l ++ [] ≡ l
      append_nothing [] = refl
      append_nothing (one ∷ l) = ap (λ (m : List HistoryEvent). one ∷ m) (append_nothing l)
  after_append P before (one ∷ list) event each last = (each.0, after_append P (before ++ one ∷ []) list event each.1 (subst (λ (l : List HistoryEvent). P l event) (moved before) last))
    where
      moved : (l : List HistoryEvent) → l ++ (one ∷ list) ≡ (l ++ one ∷ []) ++ list
      moved [] = refl
      moved (first ∷ l) = ap (λ (m : List HistoryEvent). first ∷ m) (moved l)

  pub each_added : (P : List HistoryEvent → HistoryEvent → Type 0) (k : ℕ)
      → ((n : ℕ) (client : ClientId) (event : HistoryEvent) → suc n ≤ k → IsThere config client → (step_at (me client) (inputs client) n).event ≡ Some event → P (at n).history event)
      → (n : ℕ) → n ≤ k → EachAfter P [] (at n).history
  unfolding moment_from first_world
  each_added P k each zero le = tt
  each_added P k each (suc n) le = by_steps (steps config events n) (each_added P k each n (omega (arith, le)))
    where
      by_event : (client : ClientId) → IsThere config client → (found : Option HistoryEvent) → (step_at (me client) (inputs client) n).event ≡ found → EachAfter P [] (at n).history → EachAfter P [] (with_event (at n).history found)
      by_event client there None e rest = rest
      by_event client there (Some event) e rest = after_append P [] (at n).history event rest (each n client event le there e)

      by_steps : Steps config events n (side_of (at (suc n))) → EachAfter P [] (at n).history → EachAfter P [] (at (suc n)).history
      by_steps (Acted client there history sent others) rest = subst (EachAfter P []) (sym history) (by_event client there (step_at (me client) (inputs client) n).event refl rest)
      by_steps (Rested history sent others) rest = subst (EachAfter P []) (sym history) rest

  module _ (fit : AreEventsFit events) where
    event_well : (client : ClientId) (k : ℕ) (event : HistoryEvent) → EventRests (me client) (inputs client) k event → SubmitsWell event
    event_well client k (Submit id txn) rests =
        let input = event_of config events client k (Submits txn) rests.called in
        submits_fit (at k) input.event client txn (Each-at IsEventFit events input.event fit (In-get input.event events k input.there)) input.is
    event_well client k (Read id values) rests = tt
    event_well client k (Answered id answer) rests = tt
    event_well client k (Told asker id answer) rests = tt

    -- WHAT WAS SUBMITTED CAN BE RUN
    pub submits_well : (k : ℕ) → Each SubmitsWell (at k).history
    submits_well k = Each-of SubmitsWell (at k).history
        (λ event i. let from = event_from config events k event i in
        let so = happened (me from.client) (inputs from.client) (fair from.client) k event from.stands in
        event_well from.client so.at event so.rests)

    -- THE WORLD'S HISTORY IS ONE OF ALL CLIENTS
    pub history_with : (client : ClientId) → IsThere config client → (k : ℕ) → IsHistoryWith (me client) (inputs client) k (at k).history
    history_with client there k =
        record {
          events = λ event i. event_to config events client there k event i;
          submits = λ id txn h. let owner = submitted_own client k id txn h in
              submits_agree config events ok id (subst (IsThere config) (sym owner) there) k ∙ (ap (λ (c : ClientId). first_submit (own c k) id) owner ∙ h);
          well = submits_well k;
          aborted = λ id keys called. let plan = aborted_plan client k id keys called in
              (plan.plan, ap (λ (found : Option Txn). unwrap_or found (Whole [])) plan.submitted, plan.keys_are);
        }
