-- WHAT EACH EVENT OF A CLIENT RESTS ON: counted shards, joined answers, and the events before it. Used where evidence is
-- made for a history.
use Rattle.std.proofs.Common.{◌≡◌, ◌+◌, ℕ, zero, suc, true, Option, Some, None, List, [], ◌∷◌, ◌++◌, refl, ap, sym, ◌∙◌, subst, arith, inl, inr}
use Rattle.std.specs.Prelude.{◌⊎◌, slice_get, ⊤}
use Rattle.std.proofs.lemmas.Bool.{cond_both}
use Rattle.eris_base.specs.declared.ids.TxnId.{TxnId}
use Rattle.eris_txn.specs.declared.body.Body.{Body}
use Rattle.eris_txn.specs.declared.body.Body.TheVariants.{Abort, Commit}
use Rattle.eris_txn.specs.declared.history.HistoryEvent.{HistoryEvent}
use Rattle.eris_txn.specs.PlanValues.{PlanValue}
use Rattle.eris_txn.specs.Plans.{guards_hold, value_in, writes_from}
use Rattle.eris_general.specs.Outcomes.{conclusion_of, outcome_of}
use Rattle.eris_locks.specs.States.{is_conclusory}
use Rattle.eris_rules.specs.declared.transaction.Course.TheVariants.{Executing, Reading, Concluding, Aborting}
use Rattle.eris_rules.specs.Clients.{all_op_answers, answer_of_shard, answers_counted, begins_half, concludes, finishes, has_concluded, is_executed, is_told, op_answers_in, submit, values_in}
use Rattle.eris_rules.specs.ClientStates.{ClientIdentity, ClientOut, ClientState, body_of, next_id, transaction_at}
use Rattle.eris_rules.specs.Worlds.{with_event}
use Rattle.eris_serial.specs.Evidence.{IsIn}
use Rattle.eris_law_client.specs.ClientRuns.{AbortsOthers, ClientInput, history_to, moment, perhaps, step_at}
use Rattle.eris_law_client.specs.Courses.{StandsAt, events_of}
use Rattle.eris_law_client.specs.Rests.{EventRests, HappenedSo, OfConclusion, OfRefusal, OfWhole, OutcomeRests}
use Rattle.eris_law_client.proofs.Completing.{ops_counted, outcome_counted, refused_counted, values_counted}
use Rattle.eris_law_client.proofs.Fresh.{IsFresh, fresh_at}
use Rattle.eris_law_client.proofs.Standing.{answers_joined, counted_half, heard_stands, none_yet, of_known, read_joined, so_far_of, stands_at, whole_half}
use Rattle.eris_law_client.proofs.Steps.{AsksAgain, Begins, BeginsAbort, Concludes, Executes, Leaf, Nothing, Reads, Refuses, Tells, WaitsOn, leaf}

conclusion_concludes : (plan : PlanValue) (body : Body) (values : List (Option ℕ)) → body ≡ conclusion_of plan (value_in plan.keys values) → is_conclusory body ≡ true
conclusion_concludes plan body values is =
    subst (λ (b : Body). is_conclusory b ≡ true) (sym is)
    (cond_both (guards_hold plan.guards (value_in plan.keys values)) (Commit plan.keys (writes_from plan.settings (value_in plan.keys values))) (Abort plan.keys) (λ b. is_conclusory b ≡ true) (λ h. refl) (λ h. refl))

-- of a step's event, where it has one
abbrev RestsIf : ClientIdentity → List ClientInput → ℕ → Option HistoryEvent → Type 0
RestsIf me inputs number None = ⊤
RestsIf me inputs number (Some event) = EventRests me inputs number event

module _ (me : ClientIdentity) (inputs : List ClientInput) (number : ℕ) where
  abbrev now : ClientState
  now = moment me inputs number

  abbrev events : TxnId → List HistoryEvent
  events id = events_of id (history_to me inputs number)

  rests : (input : ClientInput) (out : ClientOut) → slice_get inputs number ≡ Some input → IsFresh me now → ((id : TxnId) → StandsAt me inputs number id (events id) (transaction_at now id)) → Leaf me now input out
      → RestsIf me inputs number out.event
  unfolding submit begins_half finishes is_executed concludes has_concluded is_told
  rests _ _ given fresh known (Nothing input) = tt
  rests _ _ given fresh known (Begins txn) =
      let id = next_id me now in
      record { called = given; id_is = refl; first = none_yet me inputs number id (transaction_at now id) (fresh (now.submitted + 1) (omega arith)) refl (known id) }
  rests _ _ given fresh known (AsksAgain input id transaction is unfinished) = tt
  rests _ _ given fresh known (BeginsAbort id keys none) = tt
  rests _ _ given fresh known (WaitsOn message id before after heard) = tt
  rests _ _ given fresh known (Executes message id before after heard whole operations is) =
      let stands = heard_stands me inputs number id message before after given heard (of_known me inputs number id before heard.waited (known id)) in
      let so_far = so_far_of me inputs (suc number) id (events id) after (Executing operations) is stands.1 stands.0 in
      OfWhole (record {
        operations = operations;
        answers = all_op_answers (body_of after.course) after.counted;
        given = λ shard. op_answers_in (answer_of_shard after.counted shard);
        own = so_far.own;
        events_are = so_far.events_are;
        answer_is = refl;
        joined = answers_joined me inputs (suc number) id (events id) after stands.0 whole operations is;
        counted = λ shard part. ops_counted me inputs (suc number) id after.counted operations
            (counted_half me inputs (suc number) id (events id) after (Executing operations) is stands.0) (whole_half after (Executing operations) is whole) shard part;
      })
  rests _ _ given fresh known (Refuses message id before after heard whole plan is some) =
      let stands = heard_stands me inputs number id message before after given heard (of_known me inputs number id before heard.waited (known id)) in
      let so_far = so_far_of me inputs (suc number) id (events id) after (Reading plan) is stands.1 stands.0 in
      let refused = refused_counted me inputs (suc number) id after.counted plan
      (counted_half me inputs (suc number) id (events id) after (Reading plan) is stands.0) (whole_half after (Reading plan) is whole) some in
      OfRefusal (record { plan = plan; own = so_far.own; events_are = so_far.events_are; answer_is = refl; shard = refused.0; part = refused.1; counted = refused.2 })
  rests _ _ given fresh known (Reads message id before after heard whole plan is none) =
      let stands = heard_stands me inputs number id message before after given heard (of_known me inputs number id before heard.waited (known id)) in
      let so_far = so_far_of me inputs (suc number) id (events id) after (Reading plan) is stands.1 stands.0 in
      record {
        plan = plan;
        given = λ shard. values_in (answer_of_shard after.counted shard);
        own = so_far.own;
        events_are = so_far.events_are;
        joined = read_joined me inputs (suc number) id (events id) after stands.0 whole plan is none;
        counted = λ shard part. values_counted me inputs (suc number) id after.counted plan
            (counted_half me inputs (suc number) id (events id) after (Reading plan) is stands.0) (whole_half after (Reading plan) is whole) none shard part;
      }
  rests _ _ given fresh known (Concludes message id before after heard whole plan body is) =
      let stands = heard_stands me inputs number id message before after given heard (of_known me inputs number id before heard.waited (known id)) in
      let so_far = so_far_of me inputs (suc number) id (events id) after (Concluding plan body) is stands.1 stands.0 in
      OfConclusion (record {
        plan = plan;
        values = so_far.values;
        own = so_far.own;
        events_are = so_far.events_are;
        each = so_far.each;
        rests = subst (λ (b : Body). OutcomeRests me inputs number id b (outcome_of (answers_counted after))) so_far.body_is
            (outcome_counted me inputs number id after.counted body (conclusion_concludes plan body so_far.values so_far.body_is)
            (counted_half me inputs (suc number) id (events id) after (Concluding plan body) is stands.0) (whole_half after (Concluding plan body) is whole));
      })
  rests _ _ given fresh known (Tells message id before after heard whole keys is) =
      let stands = heard_stands me inputs number id message before after given heard (of_known me inputs number id before heard.waited (known id)) in
      let so_far = so_far_of me inputs (suc number) id (events id) after (Aborting keys) is stands.1 stands.0 in
      record {
        asker_is = refl;
        keys = keys;
        another = so_far.another;
        called = so_far.called;
        first = so_far.events_are;
        rests = outcome_counted me inputs number id after.counted (Abort keys) refl
            (counted_half me inputs (suc number) id (events id) after (Aborting keys) is stands.0) (whole_half after (Aborting keys) is whole);
      }

module _ (me : ClientIdentity) (inputs : List ClientInput) (others : AbortsOthers me inputs) where
  rests_perhaps : (number : ℕ) (found : Option ClientInput) → slice_get inputs number ≡ found → RestsIf me inputs number (perhaps me (moment me inputs number) found).event
  rests_perhaps number None given = tt
  rests_perhaps number (Some input) given = rests me inputs number input _ given (fresh_at me inputs others number) (stands_at me inputs others number) (leaf me (moment me inputs number) input)

  of_some : (number : ℕ) (found : Option HistoryEvent) (event : HistoryEvent) → found ≡ Some event → RestsIf me inputs number found → EventRests me inputs number event
  of_some number found event is h = subst (RestsIf me inputs number) is h

  -- THE EVENT OF EACH STEP rests so
  pub event_rests : (number : ℕ) (event : HistoryEvent) → (step_at me inputs number).event ≡ Some event → EventRests me inputs number event
  event_rests number event is = of_some number _ event is (rests_perhaps number (slice_get inputs number) refl)

  -- EVERY EVENT OF THE HISTORY came in a step
  pub happened : (number : ℕ) (event : HistoryEvent) → IsIn event (history_to me inputs number) → HappenedSo me inputs number event
  unfolding history_to
  happened zero event there = absurd there
  happened (suc number) event there = by_event (step_at me inputs number).event refl there (happened number event)
    where
      later : HappenedSo me inputs number event → HappenedSo me inputs (suc number) event
      later h = record { at = h.at; before = omega (arith, h.before); happened = h.happened; rests = h.rests }

      behind : (history : List HistoryEvent) (last : HistoryEvent) → IsIn event (history ++ last ∷ []) → (IsIn event history) ⊎ (last ≡ event)
      behind [] last (inl is) = inr is
      behind [] last (inr none) = absurd none
      behind (other ∷ history) last (inl is) = inl (inl is)
      behind (other ∷ history) last (inr there) = elim (behind history last there) [ inl h ↦ inl (inr h) | inr is ↦ inr is ]

      by_event : (found : Option HistoryEvent) → (step_at me inputs number).event ≡ found → IsIn event (with_event (history_to me inputs number) found)
          → (IsIn event (history_to me inputs number) → HappenedSo me inputs number event) → HappenedSo me inputs (suc number) event
      by_event None is there before = later (before there)
      by_event (Some last) is there before =
          elim (behind (history_to me inputs number) last there) [
            | inl h ↦ later (before h)
            | inr own ↦ (let now_is : (step_at me inputs number).event ≡ Some event = is ∙ ap (λ (e : HistoryEvent). Some e) own in
                record { at = number; before = omega arith; happened = now_is; rests = event_rests number event now_is })
          ]
