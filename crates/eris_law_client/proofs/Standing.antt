-- HOW FAR EACH TRANSACTION IS at each moment of a client's course: of its own, the events of its id are exactly those
-- of its course; every vote and every counted shard rests on messages that came. Everything else follows from this.
use Rattle.std.proofs.Common.{◌≡◌, ◌+◌, ℕ, zero, suc, Bool, true, false, Option, Some, None, List, [], ◌∷◌, ◌++◌, refl, ap, sym, ◌∙◌, subst, arith, inl, inr}
use Rattle.std.specs.Prelude.{◌⊎◌, slice_get}
use Rattle.std.specs.List.{list_all, list_any}
use Rattle.std.proofs.lemmas.Bool.{cases_Bool, cond_both}
use Rattle.eris_base.specs.declared.ids.ShardId.{ShardId}
use Rattle.eris_base.specs.declared.ids.TxnId.{TxnId}
use Rattle.eris_base.specs.Each.{Each}
use Rattle.eris_base.specs.TxnIds.{same_id}
use Rattle.eris_base.proofs.Each.{Each-weaker}
use Rattle.eris_base.proofs.TxnIdLaws.{same_id-true, same_id-turned}
use Rattle.eris_txn.specs.declared.answer.Answer.{Answer}
use Rattle.eris_txn.specs.declared.history.HistoryEvent.{HistoryEvent}
use Rattle.eris_txn.specs.declared.history.HistoryEvent.TheVariants.{Submit, Read, Answer as Answered, Told}
use Rattle.eris_txn.specs.declared.key.Key.{Key}
use Rattle.eris_txn.specs.declared.op.Op.{Op}
use Rattle.eris_txn.specs.declared.txn.Txn.{Txn}
use Rattle.eris_txn.specs.declared.txn.Txn.TheVariants.{Whole, General}
use Rattle.eris_txn.specs.Bodies.{any_on, keys_of, participants_of}
use Rattle.eris_txn.specs.Operations.{key_of}
use Rattle.eris_txn.specs.PlanValues.{PlanValue}
use Rattle.eris_txn.specs.Plans.{value_in}
use Rattle.eris_general.specs.Outcomes.{conclusion_of, is_aborted, outcome_of}
use Rattle.eris_msg.specs.declared.message.Message.{Message}
use Rattle.eris_rules.specs.declared.transaction.Course.{Course}
use Rattle.eris_rules.specs.declared.transaction.Course.TheVariants.{Executing, Reading, Concluding, Aborting}
use Rattle.eris_rules.specs.declared.transaction.Transaction.{Transaction}
use Rattle.eris_rules.specs.Clients.{all_op_answers, all_values, answer_of_shard, answers_counted, begins_half, concludes, finishes, has_concluded, is_executed, is_told, op_answers_in, submit, values_in}
use Rattle.eris_rules.specs.ClientStates.{ClientIdentity, ClientOut, ClientState, begun_half, body_of, course_of, first_client, next_id, transaction_at, with_transaction}
use Rattle.eris_rules.specs.Votes.{is_complete, is_counted}
use Rattle.eris_rules.specs.Worlds.{with_event}
use Rattle.eris_serial.specs.Joining.{IsJoined}
use Rattle.eris_law_client.specs.ClientRuns.{AbortsOthers, ClientInput, Gets, WasCalledToAbort, history_to, moment, perhaps}
use Rattle.eris_law_client.specs.Counts.{CountedOn, IsVoteFor}
use Rattle.eris_law_client.specs.Courses.{IsOutcome, IsSoFar, Stands, StandsAt, events_of, id_of}
use Rattle.eris_law_client.proofs.Completing.{counted_there, ops_joined, values_joined}
use Rattle.eris_law_client.proofs.Counting.{counted_later, heard, vote_later}
use Rattle.eris_law_client.proofs.Entries.{found_other, found_put}
use Rattle.eris_law_client.proofs.Events.{IsEventOf, events-other, events-own}
use Rattle.eris_law_client.proofs.Fresh.{IsFair, IsFresh, fair, fresh_at}
use Rattle.eris_law_client.proofs.Steps.{AsksAgain, Begins, BeginsAbort, Concludes, Executes, Heard, Leaf, Nothing, Reads, Refuses, Tells, WaitsOn, leaf}

module _ (me : ClientIdentity) (inputs : List ClientInput) (number : ℕ) (id : TxnId) where
  called_later : (keys : List Key) → WasCalledToAbort inputs number id keys → WasCalledToAbort inputs (suc number) id keys
  called_later keys called = record { at = called.at; before = omega (arith, called.before); called = called.called }

  so_far_later : (events : List HistoryEvent) (course : Course) (finished : Bool) → IsSoFar me inputs number id events course finished → IsSoFar me inputs (suc number) id events course finished
  so_far_later events (Executing operations) false h = h
  so_far_later events (Executing operations) true h = h
  so_far_later events (Reading plan) false h = h
  so_far_later events (Reading plan) true h = h
  so_far_later events (Concluding plan body) false h = h
  so_far_later events (Concluding plan body) true h = h
  so_far_later events (Aborting keys) false h = record { another = h.another; called = called_later keys h.called; events_are = h.events_are }
  so_far_later events (Aborting keys) true h =
      record { another = h.another; called = called_later keys h.called; outcome = h.outcome; events_are = h.events_are; is_outcome = h.is_outcome }

  votes_later : (transaction : Transaction) → Each (IsVoteFor me inputs number id (body_of transaction.course)) transaction.votes → Each (IsVoteFor me inputs (suc number) id (body_of transaction.course)) transaction.votes
  votes_later transaction each =
      Each-weaker (IsVoteFor me inputs number id (body_of transaction.course)) (IsVoteFor me inputs (suc number) id (body_of transaction.course))
      (vote_later me inputs number id (body_of transaction.course)) transaction.votes each

  counts_later : (transaction : Transaction) → Each (λ pair. CountedOn me inputs number id (body_of transaction.course) pair.0 pair.1) transaction.counted
      → Each (λ pair. CountedOn me inputs (suc number) id (body_of transaction.course) pair.0 pair.1) transaction.counted
  counts_later transaction each =
      Each-weaker (λ pair. CountedOn me inputs number id (body_of transaction.course) pair.0 pair.1) (λ pair. CountedOn me inputs (suc number) id (body_of transaction.course) pair.0 pair.1)
      (λ pair on. counted_later me inputs number id (body_of transaction.course) pair.0 pair.1 on) transaction.counted each

  stands_later : (events : List HistoryEvent) (found : Option Transaction) → StandsAt me inputs number id events found → StandsAt me inputs (suc number) id events found
  stands_later events None h = h
  stands_later events (Some transaction) h =
      record {
        so_far = so_far_later events transaction.course transaction.finished h.so_far;
        votes = votes_later transaction h.votes;
        counted = counts_later transaction h.counted;
      }

  -- A TRANSACTION THAT HEARD A MESSAGE stands as before
  pub heard_stands : (message : Message) (before after : Transaction) → slice_get inputs number ≡ Some (Gets message) → Heard me (moment me inputs number) message id before after
      → Stands me inputs number id (events_of id (history_to me inputs number)) before → Stands me inputs (suc number) id (events_of id (history_to me inputs number)) after × (after.finished ≡ false)
  heard_stands message before after given h stands =
      let still = heard me inputs (suc number) id before message after
      (record { at = number; before = omega arith; given = given; in_place = h.in_place; transaction = before; waited = h.waited; unfinished = h.unfinished; same_half = refl })
      (votes_later before stands.votes) (counts_later before stands.counted) h.hears in
      let events = events_of id (history_to me inputs number) in (
        record {
          so_far =
              subst (λ (course : Course). IsSoFar me inputs (suc number) id events course after.finished) (sym still.course_is)
              (subst (λ (finished : Bool). IsSoFar me inputs (suc number) id events before.course finished) (sym still.finished_is) (so_far_later events before.course before.finished stands.so_far));
          votes = subst (λ (course : Course). Each (IsVoteFor me inputs (suc number) id (body_of course)) after.votes) (sym still.course_is) still.votes;
          counted = subst (λ (course : Course). Each (λ pair. CountedOn me inputs (suc number) id (body_of course) pair.0 pair.1) after.counted) (sym still.course_is) still.counted;
        },
        still.finished_is ∙ h.unfinished,
      )

  -- how far an unfinished one of this course is
  pub so_far_of : (events : List HistoryEvent) (transaction : Transaction) (course : Course) → transaction.course ≡ course → transaction.finished ≡ false
      → Stands me inputs number id events transaction → IsSoFar me inputs number id events course false
  so_far_of events transaction course is unfinished stands =
      subst (λ (c : Course). IsSoFar me inputs number id events c false) is (subst (λ (f : Bool). IsSoFar me inputs number id events transaction.course f) unfinished stands.so_far)

  finished_stands : (events next : List HistoryEvent) (transaction : Transaction) (course : Course) → transaction.course ≡ course → Stands me inputs number id events transaction
      → IsSoFar me inputs number id next course true → Stands me inputs number id next (record transaction { finished = true })
  finished_stands events next transaction course is stands so_far =
      record { so_far = subst (λ (c : Course). IsSoFar me inputs number id next c true) (sym is) so_far; votes = stands.votes; counted = stands.counted }

-- ---- what is made of counted answers, for a half of this course
pub whole_half : (transaction : Transaction) (course : Course) → transaction.course ≡ course → is_complete transaction ≡ true
    → list_all (λ shard. is_counted transaction.counted shard) (participants_of (body_of course)) ≡ true
unfolding is_complete
whole_half transaction course is h = subst (λ (c : Course). list_all (λ shard. is_counted transaction.counted shard) (participants_of (body_of c)) ≡ true) is h

pub counted_half : (me : ClientIdentity) (inputs : List ClientInput) (number : ℕ) (id : TxnId) (events : List HistoryEvent) (transaction : Transaction) (course : Course) → transaction.course ≡ course
    → Stands me inputs number id events transaction → Each (λ pair. CountedOn me inputs number id (body_of course) pair.0 pair.1) transaction.counted
counted_half me inputs number id events transaction course is stands =
    subst (λ (c : Course). Each (λ pair. CountedOn me inputs number id (body_of c) pair.0 pair.1) transaction.counted) is stands.counted

module _ (me : ClientIdentity) (inputs : List ClientInput) (number : ℕ) (id : TxnId) (events : List HistoryEvent) (transaction : Transaction) (stands : Stands me inputs number id events transaction) (whole : is_complete transaction ≡ true) where
  pub answers_joined : (operations : List Op) → transaction.course ≡ Executing operations
      → IsJoined key_of operations (λ shard. op_answers_in (answer_of_shard transaction.counted shard)) (all_op_answers (body_of transaction.course) transaction.counted)
  answers_joined operations is =
      subst (λ (c : Course). IsJoined key_of operations (λ shard. op_answers_in (answer_of_shard transaction.counted shard)) (all_op_answers (body_of c) transaction.counted)) (sym is)
      (ops_joined me inputs number id transaction.counted operations (counted_half me inputs number id events transaction (Executing operations) is stands) (whole_half transaction (Executing operations) is whole))

  pub read_joined : (plan : PlanValue) → transaction.course ≡ Reading plan → list_any is_aborted (answers_counted transaction) ≡ false
      → IsJoined (λ key. key) plan.keys (λ shard. values_in (answer_of_shard transaction.counted shard)) (all_values (body_of transaction.course) transaction.counted)
  read_joined plan is none =
      subst (λ (c : Course). IsJoined (λ key. key) plan.keys (λ shard. values_in (answer_of_shard transaction.counted shard)) (all_values (body_of c) transaction.counted)) (sym is)
      (values_joined me inputs number id transaction.counted plan (counted_half me inputs number id events transaction (Reading plan) is stands) (whole_half transaction (Reading plan) is whole) none)

pub outcome_is : (answers : List Answer) → IsOutcome (outcome_of answers)
outcome_is answers = cond_both (list_any is_aborted answers) Answer.Aborted Answer.Committed IsOutcome (λ some. inr refl) (λ none. inl refl)

-- ---- a step
-- the step puts one transaction, with at most an event of it
pub record IsPut (me : ClientIdentity) (inputs : List ClientInput) (number : ℕ) (id : TxnId) (out : ClientOut) : Type 0 where
  pub transaction : Transaction
  pub here : transaction_at out.state id ≡ Some transaction
  pub apart : (other : TxnId) → same_id other id ≡ false → transaction_at out.state other ≡ transaction_at (moment me inputs number) other
  pub event_of : IsEventOf id out.event
  pub stands : Stands me inputs (suc number) id (events_of id (with_event (history_to me inputs number) out.event)) transaction

pub data Changes (me : ClientIdentity) (inputs : List ClientInput) (number : ℕ) : ClientOut → Type 0 where
  Keeps : (out : ClientOut) → out.state ≡ moment me inputs number → out.event ≡ None → Changes me inputs number out
  Puts : (out : ClientOut) (id : TxnId) → IsPut me inputs number id out → Changes me inputs number out

module _ (me : ClientIdentity) (inputs : List ClientInput) (number : ℕ) where
  abbrev now : ClientState
  now = moment me inputs number

  abbrev history : List HistoryEvent
  history = history_to me inputs number

  abbrev Known : TxnId → Type 0
  Known id = StandsAt me inputs number id (events_of id history) (transaction_at now id)

  -- a step that puts a transaction of an id, beside a number of submitted ones
  puts : (state : ClientState) (id : TxnId) (transaction : Transaction) (sends : _) (event : Option HistoryEvent) → state.transactions ≡ now.transactions → IsEventOf id event
      → Stands me inputs (suc number) id (events_of id (with_event history event)) transaction → Changes me inputs number (record { state = with_transaction state id transaction; sends = sends; event = event })
  unfolding transaction_at
  puts state id transaction sends event same is stands =
      Puts _ id (record {
        transaction = transaction;
        here = found_put state id transaction;
        apart = λ other apart. found_other state id transaction other apart ∙ ap (λ entries. transaction_at (record { submitted = 0; transactions = entries }) other) same;
        event_of = is;
        stands = stands;
      })

  -- the events of an id that is unknown, and of one that stands
  pub none_yet : (id : TxnId) (found : Option Transaction) → transaction_at now id ≡ None → found ≡ transaction_at now id → StandsAt me inputs number id (events_of id history) found → events_of id history ≡ []
  none_yet id None none is stands = stands
  none_yet id (Some transaction) none is stands = let clash : Some transaction ≡ None = is ∙ none in absurd (cc)

  pub of_known : (id : TxnId) (transaction : Transaction) → transaction_at now id ≡ Some transaction → Known id → Stands me inputs number id (events_of id history) transaction
  of_known id transaction is known = subst (StandsAt me inputs number id (events_of id history)) is known

  -- one more event behind those of an id
  more : (id : TxnId) (event : HistoryEvent) (events : List HistoryEvent) → id_of event ≡ id → events_of id history ≡ events → events_of id (with_event history (Some event)) ≡ events ++ event ∷ []
  more id event events is are = events-own id history event is ∙ ap (λ (l : List HistoryEvent). l ++ event ∷ []) are

  submits : (txn : Txn) → IsFresh me now → Known (next_id me now) → Changes me inputs number (submit me now txn)
  unfolding submit begins_half begun_half
  submits txn fresh known =
      let id = next_id me now in
      let first = none_yet id (transaction_at now id) (fresh (now.submitted + 1) (omega arith)) refl known in
      puts (record now { submitted = now.submitted + 1 }) id (begun_half (course_of txn)) _ (Some (Submit id txn)) refl refl
      (record { so_far = by_kind txn (more id (Submit id txn) [] refl first); votes = tt; counted = tt })
    where
      by_kind : (txn : Txn) → events_of (next_id me now) (with_event history (Some (Submit (next_id me now) txn))) ≡ Submit (next_id me now) txn ∷ []
          → IsSoFar me inputs (suc number) (next_id me now) (events_of (next_id me now) (with_event history (Some (Submit (next_id me now) txn)))) (course_of txn) false
      by_kind (Whole operations) are = record { own = refl; events_are = are }
      by_kind (General plan) are = record { own = refl; events_are = are }

  -- HOW A STEP CHANGES WHAT STANDS
  changes : (input : ClientInput) (out : ClientOut) → slice_get inputs number ≡ Some input → IsFair me input → IsFresh me now → ((id : TxnId) → Known id) → Leaf me now input out → Changes me inputs number out
  unfolding begins_half begun_half finishes is_executed concludes has_concluded is_told
  changes _ _ given f fresh known (Nothing input) = Keeps _ refl refl
  changes _ _ given f fresh known (Begins txn) = submits txn fresh (known (next_id me now))
  changes _ _ given f fresh known (AsksAgain input id transaction is unfinished) = Keeps _ refl refl
  changes _ _ given f fresh known (BeginsAbort id keys none) =
      let first = none_yet id (transaction_at now id) none refl (known id) in
      puts now id (begun_half (Aborting keys)) _ None refl tt
      (record { so_far = record { another = f; called = record { at = number; before = omega arith; called = given }; events_are = first }; votes = tt; counted = tt })
  changes _ _ given f fresh known (WaitsOn message id before after heard) =
      puts now id after _ None refl tt (heard_stands me inputs number id message before after given heard (of_known id before heard.waited (known id))).0
  changes _ _ given f fresh known (Executes message id before after heard whole operations is) =
      let stands = heard_stands me inputs number id message before after given heard (of_known id before heard.waited (known id)) in
      let so_far = so_far_of me inputs (suc number) id (events_of id history) after (Executing operations) is stands.1 stands.0 in
      let event = Answered id (Answer.Ops (all_op_answers (body_of after.course) after.counted)) in
      puts now id (record after { finished = true }) _ (Some event) refl refl
      (finished_stands me inputs (suc number) id (events_of id history) _ after (Executing operations) is stands.0
      (record {
        own = so_far.own;
        answers = all_op_answers (body_of after.course) after.counted;
        events_are = more id event (Submit id (Whole operations) ∷ []) refl so_far.events_are;
        each = (answers_joined me inputs (suc number) id (events_of id history) after stands.0 whole operations is).each;
      }))
  changes _ _ given f fresh known (Refuses message id before after heard whole plan is some) =
      let stands = heard_stands me inputs number id message before after given heard (of_known id before heard.waited (known id)) in
      let so_far = so_far_of me inputs (suc number) id (events_of id history) after (Reading plan) is stands.1 stands.0 in
      puts now id (record after { finished = true }) _ (Some (Answered id Answer.Aborted)) refl refl
      (finished_stands me inputs (suc number) id (events_of id history) _ after (Reading plan) is stands.0
      (record { own = so_far.own; events_are = more id (Answered id Answer.Aborted) (Submit id (General plan) ∷ []) refl so_far.events_are }))
  changes _ _ given f fresh known (Reads message id before after heard whole plan is none) =
      let stands = heard_stands me inputs number id message before after given heard (of_known id before heard.waited (known id)) in
      let so_far = so_far_of me inputs (suc number) id (events_of id history) after (Reading plan) is stands.1 stands.0 in
      let values = all_values (body_of after.course) after.counted in
      puts now id (begun_half (Concluding plan (conclusion_of plan (value_in plan.keys values)))) _ (Some (Read id values)) refl refl
      (record {
        so_far = record {
          own = so_far.own;
          values = values;
          events_are = more id (Read id values) (Submit id (General plan) ∷ []) refl so_far.events_are;
          each = (read_joined me inputs (suc number) id (events_of id history) after stands.0 whole plan is none).each;
          body_is = refl;
        };
        votes = tt;
        counted = tt;
      })
  changes _ _ given f fresh known (Concludes message id before after heard whole plan body is) =
      let stands = heard_stands me inputs number id message before after given heard (of_known id before heard.waited (known id)) in
      let so_far = so_far_of me inputs (suc number) id (events_of id history) after (Concluding plan body) is stands.1 stands.0 in
      let outcome = outcome_of (answers_counted after) in
      puts now id (record after { finished = true }) _ (Some (Answered id outcome)) refl refl
      (finished_stands me inputs (suc number) id (events_of id history) _ after (Concluding plan body) is stands.0
      (record {
        own = so_far.own;
        values = so_far.values;
        outcome = outcome;
        events_are = more id (Answered id outcome) (Submit id (General plan) ∷ Read id so_far.values ∷ []) refl so_far.events_are;
        each = so_far.each;
        body_is = so_far.body_is;
        is_outcome = outcome_is (answers_counted after);
      }))
  changes _ _ given f fresh known (Tells message id before after heard whole keys is) =
      let stands = heard_stands me inputs number id message before after given heard (of_known id before heard.waited (known id)) in
      let so_far = so_far_of me inputs (suc number) id (events_of id history) after (Aborting keys) is stands.1 stands.0 in
      let outcome = outcome_of (answers_counted after) in
      puts now id (record after { finished = true }) _ (Some (Told me.client id outcome)) refl refl
      (finished_stands me inputs (suc number) id (events_of id history) _ after (Aborting keys) is stands.0
      (record {
        another = so_far.another;
        called = so_far.called;
        outcome = outcome;
        events_are = more id (Told me.client id outcome) [] refl so_far.events_are;
        is_outcome = outcome_is (answers_counted after);
      }))

  -- what stood of every id stands behind the step
  next : (out : ClientOut) → ((id : TxnId) → Known id) → Changes me inputs number out → (id : TxnId) → StandsAt me inputs (suc number) id (events_of id (with_event history out.event)) (transaction_at out.state id)
  next out known (Keeps _ state event) id =
      subst (λ (s : ClientState). StandsAt me inputs (suc number) id (events_of id (with_event history out.event)) (transaction_at s id)) (sym state)
      (subst (λ (e : Option HistoryEvent). StandsAt me inputs (suc number) id (events_of id (with_event history e)) (transaction_at now id)) (sym event)
      (stands_later me inputs number id (events_of id history) (transaction_at now id) (known id)))
  next out known (Puts _ own put) id = by_test (cases_Bool (same_id id own))
    where
      by_test : ((same_id id own ≡ true) ⊎ (same_id id own ≡ false)) → StandsAt me inputs (suc number) id (events_of id (with_event history out.event)) (transaction_at out.state id)
      by_test (inl same) =
          subst (λ (one : TxnId). StandsAt me inputs (suc number) one (events_of one (with_event history out.event)) (transaction_at out.state one)) (sym (same_id-true id own same))
          (subst (StandsAt me inputs (suc number) own (events_of own (with_event history out.event))) (sym put.here) put.stands)
      by_test (inr apart) =
          subst (StandsAt me inputs (suc number) id (events_of id (with_event history out.event))) (sym (put.apart id apart))
          (subst (λ (events : List HistoryEvent). StandsAt me inputs (suc number) id events (transaction_at now id))
          (sym (events-other own id history out.event put.event_of (same_id-turned own id ∙ apart)))
          (stands_later me inputs number id (events_of id history) (transaction_at now id) (known id)))

module _ (me : ClientIdentity) (inputs : List ClientInput) (others : AbortsOthers me inputs) where
  stands_perhaps : (number : ℕ) (found : Option ClientInput) → slice_get inputs number ≡ found → ((id : TxnId) → StandsAt me inputs number id (events_of id (history_to me inputs number)) (transaction_at (moment me inputs number) id))
      → (id : TxnId) → StandsAt me inputs (suc number) id (events_of id (with_event (history_to me inputs number) (perhaps me (moment me inputs number) found).event)) (transaction_at (perhaps me (moment me inputs number) found).state id)
  stands_perhaps number None given known id = stands_later me inputs number id _ (transaction_at (moment me inputs number) id) (known id)
  stands_perhaps number (Some input) given known id =
      next me inputs number _ known
      (changes me inputs number input _ given (fair me inputs others number input given) (fresh_at me inputs others number) known (leaf me (moment me inputs number) input)) id

  -- AT EVERY MOMENT every id stands
  pub stands_at : (number : ℕ) (id : TxnId) → StandsAt me inputs number id (events_of id (history_to me inputs number)) (transaction_at (moment me inputs number) id)
  unfolding moment history_to first_client transaction_at
  stands_at zero id = refl
  stands_at (suc number) id = stands_perhaps number (slice_get inputs number) refl (stands_at number) id

  -- ---- of a transaction that it has
  pub known_stands : (number : ℕ) (id : TxnId) (transaction : Transaction) → transaction_at (moment me inputs number) id ≡ Some transaction
      → Stands me inputs number id (events_of id (history_to me inputs number)) transaction
  known_stands number id transaction is = of_known me inputs number id transaction is (stands_at number id)

  -- every vote rests on a message that came
  pub known_votes : (number : ℕ) (id : TxnId) (transaction : Transaction) → transaction_at (moment me inputs number) id ≡ Some transaction
      → Each (IsVoteFor me inputs number id (body_of transaction.course)) transaction.votes
  known_votes number id transaction is = (known_stands number id transaction is).votes

  -- and every counted shard
  pub known_counted : (number : ℕ) (id : TxnId) (transaction : Transaction) → transaction_at (moment me inputs number) id ≡ Some transaction
      → Each (λ pair. CountedOn me inputs number id (body_of transaction.course) pair.0 pair.1) transaction.counted
  known_counted number id transaction is = (known_stands number id transaction is).counted

  -- where it is complete, every shard of its keys is counted
  pub known_whole : (number : ℕ) (id : TxnId) (transaction : Transaction) → transaction_at (moment me inputs number) id ≡ Some transaction → is_complete transaction ≡ true
      → (shard : ShardId) → any_on (keys_of (body_of transaction.course)) shard ≡ true → (answer : Answer) × CountedOn me inputs number id (body_of transaction.course) shard answer
  known_whole number id transaction is whole shard part =
      let there = counted_there me inputs number id transaction.counted (body_of transaction.course) (known_counted number id transaction is) (whole_half transaction transaction.course refl whole) shard part in
      (there.0, there.2)
