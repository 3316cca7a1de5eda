-- A RUN OF A WHOLE WORLD IS A COURSE FOR EACH CLIENT: its state at each moment is that of its own course; the world's
-- history is the merge of the clients' histories; each id's submit stands in its owner's; and each Ask that was sent
-- rests on its asker's course.
use Rattle.std.proofs.Common.{◌≡◌, ◌⊎◌, inl, inr, ℕ, zero, suc, Bool, true, false, cond, ◌==◌, List, [], ◌∷◌, ◌++◌, Option, Some, None, refl, sym, ap, ◌∙◌, subst, arith, replicate}
use Rattle.std.specs.Option.{option_map}
use Rattle.std.specs.Prelude.{slice_get, slice_set}
use Rattle.std.proofs.lemmas.Bool.{both_ways, cases_Bool, eqb-true, eq-eqb}
use Rattle.eris_base.specs.declared.ids.ClientId.{ClientId}
use Rattle.eris_base.specs.declared.ids.Node.{Node}
use Rattle.eris_base.specs.declared.ids.TxnId.{TxnId}
use Rattle.eris_base.specs.ConfigLimits.{ConfigValue}
use Rattle.eris_base.specs.TxnIds.{same_id}
use Rattle.eris_base.proofs.TxnIdLaws.{same_id-true}
use Rattle.eris_base.proofs.IdLaws.{client_equal}
use Rattle.eris_txn.specs.declared.body.Body.{Body}
use Rattle.eris_txn.specs.declared.history.HistoryEvent.{HistoryEvent}
use Rattle.eris_txn.specs.declared.history.HistoryEvent.TheVariants.{Submit, Read, Answer as Answered, Told}
use Rattle.eris_txn.specs.declared.txn.Txn.{Txn}
use Rattle.eris_audit.specs.Histories.{first_submit}
use Rattle.eris_msg.specs.declared.message.Message.{Message}
use Rattle.eris_msg.specs.declared.outgoing.Outgoing.{Outgoing}
use Rattle.eris_event.specs.declared.event.Event.{Event}
use Rattle.eris_rules.specs.Clients.{client_step, idle}
use Rattle.eris_rules.specs.ClientStates.{ClientIdentity, ClientOut, ClientState, first_client}
use Rattle.eris_rules.specs.InPlace.{is_in_place_at_client}
use Rattle.eris_rules.specs.Worlds.{WorldState, client_at, first_world, with_event}
use Rattle.eris_serial.specs.Evidence.{IsIn}
use Rattle.eris_law_epoch.specs.Members.{In}
use Rattle.eris_law_epoch.proofs.Members.{Each-at, In-append}
use Rattle.eris_law_epoch.proofs.Frame.{get-set, get-set_same}
use Rattle.eris_law_agreement.specs.WorldMoments.{moment_from, perhaps as perhaps_happens, world_at}
use Rattle.eris_law_client.specs.ClientRuns.{AbortsOthers, ClientInput, client_does, history_to, moment, perhaps, step_at}
use Rattle.eris_law_client.proofs.Asking.{ask_rests}
use Rattle.eris_law_client.proofs.Growing.{event_stays}
use Rattle.eris_law_client.proofs.Resting.{event_rests}
use Rattle.eris_law_course.specs.Accepted.{IsAccepted, IsThere}
use Rattle.eris_law_course.specs.Inputs.{identity, nothing, given, input_now, input_of, inputs_of}
use Rattle.eris_law_course.specs.Submitted.{HasAsked, IsOfClient}
use Rattle.eris_law_course.proofs.Actions.{Acting, ItActs, NobodyActs, OthersAct, Rests, ClientSide, acting, side_of}
use Rattle.eris_law_course.proofs.Calls.{aborts_others, input-at}
use Rattle.eris_law_course.proofs.ServerSends.{IsNoAskSent}

-- what no client takes does nothing
nothing_done : (me : ClientIdentity) (state : ClientState) → client_does me state nothing ≡ idle state
unfolding client_does nothing client_step is_in_place_at_client
nothing_done me state = refl

-- what stands in a history after a step
pub in_before : (history : List HistoryEvent) (found : Option HistoryEvent) (event : HistoryEvent) → IsIn event history → IsIn event (with_event history found)
in_before history None event i = i
in_before history (Some own) event i = longer history i
  where
    longer : (list : List HistoryEvent) → IsIn event list → IsIn event (list ++ own ∷ [])
    longer [] j = absurd j
    longer (one ∷ list) (inl e) = inl e
    longer (one ∷ list) (inr j) = inr (longer list j)

pub in_last : (history : List HistoryEvent) (found : Option HistoryEvent) (event : HistoryEvent) → found ≡ Some event → IsIn event (with_event history found)
in_last history None event h = absurd (cc)
in_last history (Some own) event h = last history
  where
    last : (list : List HistoryEvent) → IsIn event (list ++ own ∷ [])
    last [] = inl (cc)
    last (one ∷ list) = inr (last list)

pub in_after : (history : List HistoryEvent) (found : Option HistoryEvent) (event : HistoryEvent) → IsIn event (with_event history found) → IsIn event history ⊎ (found ≡ Some event)
in_after history None event i = inl i
in_after history (Some own) event i = by_list history i
  where
    by_list : (list : List HistoryEvent) → IsIn event (list ++ own ∷ []) → IsIn event list ⊎ (Some own ≡ Some event)
    by_list [] (inl e) = inr (ap (λ (x : HistoryEvent). Some x) e)
    by_list [] (inr never) = absurd never
    by_list (one ∷ list) (inl e) = inl (inl e)
    by_list (one ∷ list) (inr j) = elim (by_list list j) [ inl old ↦ inl (inr old) | inr new ↦ inr new ]

-- ---- the first submit of an id after a step
-- where two histories agree on an id, they do after the same event
submit_same : (id : TxnId) (some other : List HistoryEvent) (found : Option HistoryEvent) → first_submit some id ≡ first_submit other id
    → first_submit (with_event some found) id ≡ first_submit (with_event other found) id
submit_same id some other None h = h
submit_same id some other (Some event) h = joined some ∙ (ap (λ (first : Option Txn). either first (first_submit (event ∷ []) id)) h ∙ sym (joined other))
  where
    either : Option Txn → Option Txn → Option Txn
    either None last = last
    either (Some txn) last = Some txn

    joined : (list : List HistoryEvent) → first_submit (list ++ event ∷ []) id ≡ either (first_submit list id) (first_submit (event ∷ []) id)
    joined [] = refl
    joined (Submit one txn ∷ list) = by_test (same_id one id) (joined list)
      where
        by_test : (t : Bool) → first_submit (list ++ event ∷ []) id ≡ either (first_submit list id) (first_submit (event ∷ []) id)
            → cond t (Some txn) (first_submit (list ++ event ∷ []) id) ≡ either (cond t (Some txn) (first_submit list id)) (first_submit (event ∷ []) id)
        by_test true rest = refl
        by_test false rest = rest
    joined (Read one values ∷ list) = joined list
    joined (Answered one answer ∷ list) = joined list
    joined (Told asker one answer ∷ list) = joined list

-- a step's event submits no transaction of another client
abbrev pub SubmitsOwn : ClientId → Option HistoryEvent → Type 0
SubmitsOwn client found = (id : TxnId) (txn : Txn) → found ≡ Some (Submit id txn) → id.client ≡ client

submit_other : (client : ClientId) (id : TxnId) (history : List HistoryEvent) (found : Option HistoryEvent) → SubmitsOwn client found → (client.0 == id.client.0) ≡ false
    → first_submit (with_event history found) id ≡ first_submit history id
submit_other client id history None own apart = refl
submit_other client id history (Some event) own apart = by_event event refl
  where
    unchanged : (one : HistoryEvent) → first_submit (one ∷ []) id ≡ None → (list : List HistoryEvent) → first_submit (list ++ one ∷ []) id ≡ first_submit list id
    unchanged one none [] = none
    unchanged one none (Submit other txn ∷ list) = ap (λ (rest : Option Txn). cond (same_id other id) (Some txn) rest) (unchanged one none list)
    unchanged one none (Read other values ∷ list) = unchanged one none list
    unchanged one none (Answered other answer ∷ list) = unchanged one none list
    unchanged one none (Told asker other answer ∷ list) = unchanged one none list

    by_test : (other : TxnId) (txn : Txn) → event ≡ Submit other txn → (t : Bool) → same_id other id ≡ t → cond t (Some txn) None ≡ None
    by_test other txn e false same = refl
    by_test other txn e true same =
        let owner : other.client ≡ client = own other txn (ap (λ (x : HistoryEvent). Some x) e) in
        let one : id.client ≡ client = ap (λ (x : TxnId). x.client) (sym (same_id-true other id same)) ∙ owner in
        absurd (both_ways _ apart (eq-eqb client.0 id.client.0 (ap (λ (x : ClientId). x.0) (sym one))))

    by_event : (one : HistoryEvent) → event ≡ one → first_submit (history ++ event ∷ []) id ≡ first_submit history id
    by_event (Submit other txn) e = unchanged event (ap (λ (x : HistoryEvent). first_submit (x ∷ []) id) e ∙ by_test other txn e (same_id other id) refl) history
    by_event (Read other values) e = unchanged event (ap (λ (x : HistoryEvent). first_submit (x ∷ []) id) e) history
    by_event (Answered other answer) e = unchanged event (ap (λ (x : HistoryEvent). first_submit (x ∷ []) id) e) history
    by_event (Told asker other answer) e = unchanged event (ap (λ (x : HistoryEvent). first_submit (x ∷ []) id) e) history

same_first : (n i : ℕ) (first found : ClientState) → slice_get (replicate n first) i ≡ Some found → slice_get (replicate n first) i ≡ Some first
same_first zero i first found h = absurd (cc)
same_first (suc n) zero first found h = refl
same_first (suc n) (suc i) first found h = same_first n i first found h

module _ (config : ConfigValue) (events : List Event) where
  abbrev at : ℕ → WorldState
  at k = world_at config events k

  abbrev me : ClientId → ClientIdentity
  me client = identity config client

  abbrev inputs : ClientId → List ClientInput
  inputs client = inputs_of config events client

  -- the client at a moment of its course, and its step from there
  abbrev then : ClientId → ℕ → ClientState
  then client k = moment (me client) (inputs client) k

  abbrev step : ClientId → ℕ → ClientOut
  step client k = step_at (me client) (inputs client) k

  -- ---- from each moment to the next
  acting_perhaps : (world : WorldState) (found : Option Event) → Acting config (side_of world) (input_now world found) (side_of (perhaps_happens config world found))
  acting_perhaps world None = Rests (λ other. refl)
  acting_perhaps world (Some event) = acting config world event

  next_acting : (k : ℕ) → Acting config (side_of (at k)) (input_now (at k) (slice_get events k)) (side_of (at (suc k)))
  unfolding moment_from
  next_acting k = acting_perhaps (at k) (slice_get events k)

  -- the step of a course is by the input that the event is
  step-is : (client : ClientId) (k : ℕ) → step client k ≡ client_does (me client) (then client k) (input_now (at k) (slice_get events k) client)
  step-is client k = ap (perhaps (me client) (then client k)) (input-at config events client k) ∙ by_event (slice_get events k)
    where
      by_event : (found : Option Event) → perhaps (me client) (then client k) (option_map (λ event. input_of (at k) event client) found) ≡ client_does (me client) (then client k) (input_now (at k) found client)
      by_event None = sym (nothing_done (me client) (then client k))
      by_event (Some event) = refl

  step-by : (client : ClientId) (k : ℕ) (input : ClientInput) → input_now (at k) (slice_get events k) client ≡ input → step client k ≡ client_does (me client) (then client k) input
  step-by client k input h = step-is client k ∙ ap (client_does (me client) (then client k)) h

  step-idle : (client : ClientId) (k : ℕ) → input_now (at k) (slice_get events k) client ≡ nothing → step client k ≡ idle (then client k)
  step-idle client k h = step-by client k nothing h ∙ nothing_done (me client) (then client k)

  given-own : (client : ClientId) (input : ClientInput) → given client input client ≡ input
  given-own client input = ap (λ (t : Bool). cond t input nothing) (eq-eqb client.0 client.0 refl)

  given-other : (client other : ClientId) (input : ClientInput) → (client.0 == other.0) ≡ false → given client input other ≡ nothing
  given-other client other input apart = ap (λ (t : Bool). cond t input nothing) apart

  apart_numbers : (client other : ClientId) → (client.0 == other.0) ≡ false → other.0 ≡ client.0 → ⊥
  apart_numbers client other apart e = absurd (both_ways _ apart (eq-eqb client.0 other.0 (sym e)))

  -- A CLIENT OF THE WORLD is at each moment as in its own course
  abbrev IsAsOwn : ClientId → ℕ → ClientSide → Type 0
  IsAsOwn client k side = client_at side.clients client ≡ Some (then client k)

  own_after : (client : ClientId) (k : ℕ) (after : ClientSide) → IsAsOwn client k (side_of (at k)) → Acting config (side_of (at k)) (input_now (at k) (slice_get events k)) after → client_at after.clients client ≡ Some (step client k).state
  unfolding client_at
  own_after client k _ own (ItActs other state input found to) = by_test (cases_Bool (other.0 == client.0))
    where
      by_test : ((other.0 == client.0) ≡ true) ⊎ ((other.0 == client.0) ≡ false) → slice_get (slice_set (at k).clients other.0 (client_does (me other) state input).state) client.0 ≡ Some (step client k).state
      by_test (inl same) =
          let e : other ≡ client = client_equal other client (eqb-true other.0 client.0 same) in
          let here : Some state ≡ Some (then client k) = sym found ∙ (ap (λ (c : ClientId). client_at (at k).clients c) e ∙ own) in
          let state_is : state ≡ then client k = cc in
          let out : step client k ≡ client_does (me client) (then client k) input = step-by client k input (to client ∙ (ap (λ (c : ClientId). given c input client) e ∙ given-own client input)) in
          let made : client_does (me other) state input ≡ step client k = ap (λ (c : ClientId). client_does (me c) state input) e ∙ (ap (λ (s : ClientState). client_does (me client) s input) state_is ∙ sym out) in
          ap (λ (n : ℕ). slice_get (slice_set (at k).clients other.0 (client_does (me other) state input).state) n) (ap (λ (c : ClientId). c.0) (sym e))
          ∙ (get-set_same (at k).clients other.0 state (client_does (me other) state input).state found ∙ ap (λ (o : ClientOut). Some o.state) made)
      by_test (inr apart) =
          let idles : step client k ≡ idle (then client k) = step-idle client k (to client ∙ given-other other client input apart) in
          elim (get-set (at k).clients other.0 client.0 state (client_does (me other) state input).state found) [
            | inl e ↦ absurd (apart_numbers other client apart e.0)
            | inr e ↦ e ∙ (own ∙ ap (λ (o : ClientOut). Some o.state) (sym idles))
          ]
  own_after client k _ own (NobodyActs other input none to) = by_test (cases_Bool (other.0 == client.0))
    where
      by_test : ((other.0 == client.0) ≡ true) ⊎ ((other.0 == client.0) ≡ false) → slice_get (at k).clients client.0 ≡ Some (step client k).state
      by_test (inl same) =
          let e : other ≡ client = client_equal other client (eqb-true other.0 client.0 same) in
          let clash : Some (then client k) ≡ None = sym own ∙ (ap (λ (c : ClientId). client_at (at k).clients c) (sym e) ∙ none) in
          absurd (cc)
      by_test (inr apart) = own ∙ ap (λ (o : ClientOut). Some o.state) (sym (step-idle client k (to client ∙ given-other other client input apart)))
  own_after client k _ own (OthersAct sends none to) = own ∙ ap (λ (o : ClientOut). Some o.state) (sym (step-idle client k (to client)))
  own_after client k _ own (Rests to) = own ∙ ap (λ (o : ClientOut). Some o.state) (sym (step-idle client k (to client)))

  pub own_course : (client : ClientId) → IsThere config client → (k : ℕ) → client_at (at k).clients client ≡ Some (then client k)
  unfolding moment moment_from
  own_course client there zero = there
  own_course client there (suc k) = own_after client k (side_of (at (suc k))) (own_course client there k) (next_acting k)

  -- who is there at a moment was there from the start
  there_before : (client : ClientId) (k : ℕ) (after : ClientSide) (state : ClientState) → Acting config (side_of (at k)) (input_now (at k) (slice_get events k)) after → client_at after.clients client ≡ Some state
      → (before : ClientState) × (client_at (at k).clients client ≡ Some before)
  unfolding client_at
  there_before client k _ state (ItActs other own input found to) h = elim (get-set (at k).clients other.0 client.0 own (client_does (me other) own input).state found) [
    | inl e ↦ (own, ap (slice_get (at k).clients) e.0 ∙ found)
    | inr e ↦ (state, sym e ∙ h)
  ]
  there_before client k _ state (NobodyActs other input none to) h = (state, h)
  there_before client k _ state (OthersAct sends none to) h = (state, h)
  there_before client k _ state (Rests to) h = (state, h)

  pub was_there : (client : ClientId) (k : ℕ) (state : ClientState) → client_at (at k).clients client ≡ Some state → IsThere config client
  unfolding moment_from client_at first_world
  was_there client zero state h = same_first config.clients client.0 first_client state h
  was_there client (suc k) state h = let before = there_before client k (side_of (at (suc k))) state (next_acting k) h in was_there client k before.0 before.1

  -- ---- EACH STEP of the world, by the courses
  pub data Steps (k : ℕ) (after : ClientSide) : Type 0 where
    Acted : (client : ClientId) → IsThere config client → after.history ≡ with_event (at k).history (step client k).event → after.sent ≡ (at k).sent ++ (step client k).sends
        → ((other : ClientId) → (client.0 == other.0) ≡ false → step other k ≡ idle (then other k)) → Steps k after
    Rested : after.history ≡ (at k).history → ((one : Outgoing) → In one after.sent → In one (at k).sent ⊎ IsNoAskSent one)
        → ((other : ClientId) → IsThere config other → step other k ≡ idle (then other k)) → Steps k after

  steps_by : (k : ℕ) (after : ClientSide) → Acting config (side_of (at k)) (input_now (at k) (slice_get events k)) after → Steps k after
  steps_by k _ (ItActs client state input found to) =
      let there : IsThere config client = was_there client k state found in
      let here : Some state ≡ Some (then client k) = sym found ∙ own_course client there k in
      let state_is : state ≡ then client k = cc in
      let made : client_does (me client) state input ≡ step client k = ap (λ (s : ClientState). client_does (me client) s input) state_is ∙ sym (step-by client k input (to client ∙ given-own client input)) in
      Acted client there (ap (λ (o : ClientOut). with_event (at k).history o.event) made) (ap (λ (o : ClientOut). (at k).sent ++ o.sends) made)
      (λ other apart. step-idle other k (to other ∙ given-other client other input apart))
  steps_by k _ (NobodyActs client input none to) = Rested refl (λ one i. inl i) others
    where
      others : (other : ClientId) → IsThere config other → step other k ≡ idle (then other k)
      others other there = by_test (cases_Bool (client.0 == other.0))
        where
          by_test : ((client.0 == other.0) ≡ true) ⊎ ((client.0 == other.0) ≡ false) → step other k ≡ idle (then other k)
          by_test (inl same) =
              let e : client ≡ other = client_equal client other (eqb-true client.0 other.0 same) in
              let clash : Some (then other k) ≡ None = sym (own_course other there k) ∙ (ap (λ (c : ClientId). client_at (at k).clients c) (sym e) ∙ none) in
              absurd (cc)
          by_test (inr apart) = step-idle other k (to other ∙ given-other client other input apart)
  steps_by k _ (OthersAct sends none to) =
      Rested refl (λ one i. elim (In-append one (at k).sent sends i) [ inl old ↦ inl old | inr new ↦ inr (Each-at IsNoAskSent sends one none new) ]) (λ other there. step-idle other k (to other))
  steps_by k _ (Rests to) = Rested refl (λ one i. inl i) (λ other there. step-idle other k (to other))

  pub steps : (k : ℕ) → Steps k (side_of (at (suc k)))
  steps k = steps_by k (side_of (at (suc k))) (next_acting k)

  -- the event of a client that leaves what is no affair of its own
  idle_event : (client : ClientId) (k : ℕ) → step client k ≡ idle (then client k) → (step client k).event ≡ None
  idle_event client k h = ap (λ (o : ClientOut). o.event) h

  -- ---- THE WORLD'S HISTORY IS THE MERGE OF THE CLIENTS' HISTORIES
  from_after : (k : ℕ) (after : ClientSide) (event : HistoryEvent) → ((one : HistoryEvent) → IsIn one (at k).history → IsOfClient config events k one) → Steps k after → IsIn event after.history → IsOfClient config events (suc k) event
  unfolding history_to
  from_after k after event before (Acted client there history sent others) i =
      elim (in_after (at k).history (step client k).event event (subst (IsIn event) history i)) [
        | inl old ↦ (let from = before event old in record { client = from.client; there = from.there; stands = event_stays (me from.client) (inputs from.client) k (suc k) (omega arith) event from.stands })
        | inr new ↦ record { client = client; there = there; stands = in_last (history_to (me client) (inputs client) k) (step client k).event event new }
      ]
  from_after k after event before (Rested history sent others) i =
      let from = before event (subst (IsIn event) history i) in
      record { client = from.client; there = from.there; stands = event_stays (me from.client) (inputs from.client) k (suc k) (omega arith) event from.stands }

  pub event_from : (k : ℕ) (event : HistoryEvent) → IsIn event (at k).history → IsOfClient config events k event
  unfolding moment_from first_world
  event_from zero event i = absurd i
  event_from (suc k) event i = from_after k (side_of (at (suc k))) event (event_from k) (steps k) i

  to_after : (client : ClientId) → IsThere config client → (k : ℕ) (after : ClientSide) (event : HistoryEvent) → (IsIn event (history_to (me client) (inputs client) k) → IsIn event (at k).history)
      → Steps k after → IsIn event (with_event (history_to (me client) (inputs client) k) (step client k).event) → IsIn event after.history
  to_after client there k after event before (Acted other here history sent others) i =
      subst (IsIn event) (sym history) (by_test (cases_Bool (other.0 == client.0)))
    where
      by_test : ((other.0 == client.0) ≡ true) ⊎ ((other.0 == client.0) ≡ false) → IsIn event (with_event (at k).history (step other k).event)
      by_test (inl same) =
          let e : other ≡ client = client_equal other client (eqb-true other.0 client.0 same) in
          elim (in_after (history_to (me client) (inputs client) k) (step client k).event event i) [
            | inl old ↦ in_before (at k).history (step other k).event event (before old)
            | inr new ↦ in_last (at k).history (step other k).event event (ap (λ (c : ClientId). (step c k).event) e ∙ new)
          ]
      by_test (inr apart) =
          in_before (at k).history (step other k).event event
          (before (subst (λ (found : Option HistoryEvent). IsIn event (with_event (history_to (me client) (inputs client) k) found)) (idle_event client k (others client apart)) i))
  to_after client there k after event before (Rested history sent others) i =
      subst (IsIn event) (sym history)
      (before (subst (λ (found : Option HistoryEvent). IsIn event (with_event (history_to (me client) (inputs client) k) found)) (idle_event client k (others client there)) i))

  pub event_to : (client : ClientId) → IsThere config client → (k : ℕ) (event : HistoryEvent) → IsIn event (history_to (me client) (inputs client) k) → IsIn event (at k).history
  unfolding history_to
  event_to client there zero event i = absurd i
  event_to client there (suc k) event i = to_after client there k (side_of (at (suc k))) event (event_to client there k event) (steps k) i

  module _ (ok : IsAccepted config events) where
    abbrev fair : (client : ClientId) → AbortsOthers (me client) (inputs client)
    fair client = aborts_others config events ok client

    -- a client submits ids of its own
    pub submits_own : (client : ClientId) (k : ℕ) → SubmitsOwn client (step client k).event
    submits_own client k = λ id txn h. let rests = event_rests (me client) (inputs client) (fair client) k (Submit id txn) h in ap (λ (x : TxnId). x.client) rests.id_is

    -- AN ID'S SUBMIT stands in its owner's history, and nowhere else
    agree_after : (id : TxnId) → IsThere config id.client → (k : ℕ) (after : ClientSide) → first_submit (at k).history id ≡ first_submit (history_to (me id.client) (inputs id.client) k) id → Steps k after
        → first_submit after.history id ≡ first_submit (with_event (history_to (me id.client) (inputs id.client) k) (step id.client k).event) id
    agree_after id there k after before (Acted client here history sent others) = ap (λ (l : List HistoryEvent). first_submit l id) history ∙ by_test (cases_Bool (client.0 == id.client.0))
      where
        by_test : ((client.0 == id.client.0) ≡ true) ⊎ ((client.0 == id.client.0) ≡ false)
            → first_submit (with_event (at k).history (step client k).event) id ≡ first_submit (with_event (history_to (me id.client) (inputs id.client) k) (step id.client k).event) id
        by_test (inl same) =
            let e : client ≡ id.client = client_equal client id.client (eqb-true client.0 id.client.0 same) in
            ap (λ (c : ClientId). first_submit (with_event (at k).history (step c k).event) id) e
            ∙ submit_same id (at k).history (history_to (me id.client) (inputs id.client) k) (step id.client k).event before
        by_test (inr apart) =
            submit_other client id (at k).history (step client k).event (submits_own client k) apart
            ∙ (before ∙ ap (λ (found : Option HistoryEvent). first_submit (with_event (history_to (me id.client) (inputs id.client) k) found) id) (sym (idle_event id.client k (others id.client apart))))
    agree_after id there k after before (Rested history sent others) =
        ap (λ (l : List HistoryEvent). first_submit l id) history
        ∙ (before ∙ ap (λ (found : Option HistoryEvent). first_submit (with_event (history_to (me id.client) (inputs id.client) k) found) id) (sym (idle_event id.client k (others id.client there))))

    pub submits_agree : (id : TxnId) → IsThere config id.client → (k : ℕ) → first_submit (at k).history id ≡ first_submit (history_to (me id.client) (inputs id.client) k) id
    unfolding history_to moment_from first_world
    submits_agree id there zero = refl
    submits_agree id there (suc k) = agree_after id there k (side_of (at (suc k))) (submits_agree id there k) (steps k)

    -- ---- EACH ASK THAT WAS SENT rests on its asker's course
    In-IsIn : (one : Outgoing) (list : List Outgoing) → In one list → IsIn one list
    In-IsIn one [] i = i
    In-IsIn one (other ∷ list) (inl e) = inl (sym e)
    In-IsIn one (other ∷ list) (inr i) = inr (In-IsIn one list i)

    asked_later : (k : ℕ) (asker : ClientId) (id : TxnId) (body : Body) → HasAsked config events k asker id body → HasAsked config events (suc k) asker id body
    asked_later k asker id body has = record { there = has.there; at = has.at; before = omega (arith, has.before); rests = has.rests }

    asked_own : (client : ClientId) → IsThere config client → (k : ℕ) (node : Node) (asker : ClientId) (id : TxnId) (body : Body) → In (record { to = node; message = Message.Ask asker id body }) (step client k).sends
        → HasAsked config events (suc k) asker id body
    asked_own client there k node asker id body i =
        let ask = ask_rests (me client) (inputs client) (fair client) k (record { to = node; message = Message.Ask asker id body }) (In-IsIn _ (step client k).sends i) in
        let e : Message.Ask asker id body ≡ Message.Ask client ask.id ask.body = ap (λ (o : Outgoing). o.message) ask.is in
        let who : client ≡ asker = cc in
        let which : ask.id ≡ id = cc in
        let what : ask.body ≡ body = cc in
        subst (λ (c : ClientId). HasAsked config events (suc k) c id body) who
        (subst (λ (x : TxnId). HasAsked config events (suc k) client x body) which
        (subst (λ (b : Body). HasAsked config events (suc k) client ask.id b) what (record { there = there; at = suc k; before = omega arith; rests = ask.rests })))

    asked_after : (k : ℕ) (after : ClientSide) (node : Node) (asker : ClientId) (id : TxnId) (body : Body)
        → (In (record { to = node; message = Message.Ask asker id body }) (at k).sent → HasAsked config events k asker id body)
        → Steps k after → In (record { to = node; message = Message.Ask asker id body }) after.sent → HasAsked config events (suc k) asker id body
    asked_after k after node asker id body before (Acted client there history sent others) i =
        elim (In-append _ (at k).sent (step client k).sends (subst (In (record { to = node; message = Message.Ask asker id body })) sent i)) [
          | inl old ↦ asked_later k asker id body (before old)
          | inr new ↦ asked_own client there k node asker id body new
        ]
    asked_after k after node asker id body before (Rested history sent others) i = elim (sent _ i) [ inl old ↦ asked_later k asker id body (before old) | inr never ↦ absurd never ]

    pub asked_by : (k : ℕ) (node : Node) (asker : ClientId) (id : TxnId) (body : Body) → In (record { to = node; message = Message.Ask asker id body }) (at k).sent → HasAsked config events k asker id body
    unfolding moment_from first_world
    asked_by zero node asker id body i = absurd i
    asked_by (suc k) node asker id body i = asked_after k (side_of (at (suc k))) node asker id body (asked_by k node asker id body) (steps k) i
