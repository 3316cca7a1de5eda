-- HOW A DRILL'S WORLD STANDS between its events: who has crashed, what was submitted, and how much of it by each client.
use Rattle.std.proofs.Common.{◌≡◌, ◌≤◌, ◌<◌, ◌+◌, ◌-◌, ◌/◌, ◌%◌, ◌==◌, ◌⊎◌, inl, inr, ℕ, zero, suc, Bool, true, false, cond, Option, Some, is_some, option_map, List, [], ◌∷◌, ◌++◌, length, length-append, replicate, refl, ap, sym, ◌∙◌, subst, arith, eq-eqb, eqb-true}
use Rattle.std.specs.Prelude.{slice_get}
use Rattle.std.proofs.lemmas.Bool.{both_ways, cases_Bool, cases_lt}
use Rattle.eris_base.specs.declared.ids.ReplicaId.{ReplicaId}
use Rattle.eris_base.specs.declared.ids.ShardId.{ShardId}
use Rattle.eris_base.specs.declared.ids.TxnId.{TxnId}
use Rattle.eris_txn.specs.declared.history.HistoryEvent.{HistoryEvent}
use Rattle.eris_txn.specs.declared.txn.Txn.{Txn}
use Rattle.eris_event.specs.declared.event.Event.{Event}
use Rattle.eris_rules.specs.declared.transaction.Transaction.{Transaction}
use Rattle.eris_rules.specs.Clients.{begins_half, submit}
use Rattle.eris_rules.specs.ClientStates.{ClientIdentity, ClientState, begun_half, course_of, first_client, transaction_at, with_transaction}
use Rattle.eris_rules.specs.Happenings.{happens}
use Rattle.eris_rules.specs.Worlds.{WorldState, client_at, first_world, with_event}
use Rattle.eris_law_agreement.specs.NodeSteps.{NodeStep, OfClient, client_after, client_event, event_of_step, step_of}
use Rattle.eris_law_agreement.proofs.NodeLocality.{client_one, history_one}
use Rattle.eris_law_client.proofs.Entries.{found_put}
use Rattle.eris_drill.specs.DrillLines.{bank, teller}
use Rattle.eris_law_drill_run.specs.Submissions.{id_at, submissions}
use Rattle.eris_law_drill_run.proofs.ClientSteps.{Known, known_put, submissions-append}
use Rattle.eris_law_drill_run.proofs.QuietEvents.{IsQuietEvent, client_goes_on, nobody_crashes, nothing_submitted}

-- a client of the bank that submitted so many transactions, and knows each of them
pub record HasSubmitted (world : WorldState) (client count : ℕ) : Type 0 where
  pub state : ClientState
  pub there : client_at world.clients (record { 0 = client }) ≡ Some state
  pub count_is : state.submitted ≡ count
  pub known : (number : ℕ) → 1 ≤ number → number ≤ count → Known state (record { client = record { 0 = client }; number = number })

-- how many of so many submissions are a client's, since the clients take turns
abbrev pub share : ℕ → ℕ → ℕ
share all client = (all + 7 - client) / 8

pub record Stands (down : List (ShardId × ReplicaId)) (done : List (TxnId × Txn)) (world : WorldState) : Type 0 where
  pub crashed : world.crashed ≡ down
  pub clients : (client : ℕ) → client < 8 → HasSubmitted world client (share (length done) client)
  pub history : submissions world.history ≡ done

-- ---- at the start
get-replicate : (n i : ℕ) (state : ClientState) → i < n → slice_get (replicate n state) i ≡ Some state
get-replicate zero i state low = absurd (omega (arith, low))
get-replicate (suc n) zero state low = refl
get-replicate (suc n) (suc i) state low = get-replicate n i state (omega (arith, low))

none_yet : (client : ℕ) → client < 8 → 0 ≡ share 0 client
none_yet client low = omega (arith, low)

none_known : (client number : ℕ) → client < 8 → 1 ≤ number → number ≤ share 0 client → ⊥
none_known client number low some few = omega (arith, low, some, few)

pub stands_first : Stands [] [] (first_world bank)
unfolding first_world bank client_at first_client
stands_first = record {
  crashed = refl;
  clients = λ client low. record {
    state = first_client;
    there = get-replicate 8 client first_client low;
    count_is = none_yet client low;
    known = λ number some few. absurd (none_known client number low some few);
  };
  history = refl;
}

module _ (down : List (ShardId × ReplicaId)) (done : List (TxnId × Txn)) (world : WorldState) (stands : Stands down done world) where
  -- ---- an event that submits nothing and crashes nobody
  still_has : (event : Event) → IsQuietEvent event → (client count : ℕ) → HasSubmitted world client count → HasSubmitted (happens bank world event) client count
  still_has event quiet client count has =
      let on = client_goes_on bank world (record { 0 = client }) has.state event quiet has.there in
      record {
        state = on.after;
        there = on.there;
        count_is = on.count ∙ has.count_is;
        known = λ number some few. on.known (record { client = record { 0 = client }; number = number }) (has.known number some few);
      }

  pub stands_quiet : (event : Event) → IsQuietEvent event → Stands down done (happens bank world event)
  stands_quiet event quiet = record {
    crashed = nobody_crashes bank world event quiet ∙ stands.crashed;
    clients = λ client low. still_has event quiet client (share (length done) client) (stands.clients client low);
    history = nothing_submitted bank world event quiet ∙ stands.history;
  }

  -- ---- a crash
  pub stands_crashed : (shard : ShardId) (replica : ReplicaId) → Stands (down ++ (shard, replica) ∷ []) done (happens bank world (Event.Crash shard replica))
  unfolding happens
  stands_crashed shard replica = record {
    crashed = ap (λ (all : List (ShardId × ReplicaId)). all ++ (shard, replica) ∷ []) stands.crashed;
    clients = λ client low. (let has = stands.clients client low in record { state = has.state; there = has.there; count_is = has.count_is; known = has.known });
    history = stands.history;
  }

-- ---- a submission
-- a client knows what it submits, and what it knew
knows_more : (state : ClientState) (client count : ℕ) (transaction : Transaction) → state.submitted ≡ count
    → ((number : ℕ) → 1 ≤ number → number ≤ count → Known state (record { client = record { 0 = client }; number = number }))
    → (number : ℕ) → 1 ≤ number → number ≤ count + 1
    → Known (with_transaction (record state { submitted = state.submitted + 1 }) (record { client = record { 0 = client }; number = state.submitted + 1 }) transaction) (record { client = record { 0 = client }; number = number })
unfolding transaction_at
knows_more state client count transaction is known number some few = by_place (cases_lt count number)
  where
    by_place : ((count < number) ⊎ (number ≤ count))
        → Known (with_transaction (record state { submitted = state.submitted + 1 }) (record { client = record { 0 = client }; number = state.submitted + 1 }) transaction) (record { client = record { 0 = client }; number = number })
    by_place (inl above) =
        let last : state.submitted + 1 ≡ number = omega (arith, is, above, few) in
        subst (λ (at : ℕ). Known (with_transaction (record state { submitted = state.submitted + 1 }) (record { client = record { 0 = client }; number = state.submitted + 1 }) transaction) (record { client = record { 0 = client }; number = at }))
        last
        (ap (λ (found : Option Transaction). is_some found) (found_put (record state { submitted = state.submitted + 1 }) (record { client = record { 0 = client }; number = state.submitted + 1 }) transaction))
    by_place (inr below) =
        known_put (record state { submitted = state.submitted + 1 }) (record { client = record { 0 = client }; number = state.submitted + 1 }) transaction
        (record { client = record { 0 = client }; number = number }) (known number some below)

counted : (me : ClientIdentity) (state : ClientState) (txn : Txn) (count : ℕ) → state.submitted ≡ count → (submit me state txn).state.submitted ≡ count + 1
unfolding submit begins_half with_transaction
counted me state txn count is = ap (λ (n : ℕ). n + 1) is

-- by this client, or by another
has_more : (before after : WorldState) (client count : ℕ) (txn : Txn) (has : HasSubmitted before client count) (test : Bool)
    → client_at after.clients (record { 0 = client }) ≡ Some (cond test (submit (record { config = bank; client = record { 0 = client } }) has.state txn).state has.state)
    → HasSubmitted after client (cond test (count + 1) count)
unfolding submit begins_half
has_more before after client count txn has true there = record {
  state = (submit (record { config = bank; client = record { 0 = client } }) has.state txn).state;
  there = there;
  count_is = counted (record { config = bank; client = record { 0 = client } }) has.state txn count has.count_is;
  known = knows_more has.state client count (begun_half (course_of txn)) has.count_is has.known;
}
has_more before after client count txn has false there = record { state = has.state; there = there; count_is = has.count_is; known = has.known }

share_own : (all : ℕ) → share all (all % 8) ≡ all / 8
share_own all = omega arith

share_next : (all client : ℕ) → client < 8 → cond (all % 8 == client) (share all client + 1) (share all client) ≡ share (all + 1) client
share_next all client low = by_turn (cases_Bool (all % 8 == client))
  where
    by_turn : (((all % 8 == client) ≡ true) ⊎ ((all % 8 == client) ≡ false)) → cond (all % 8 == client) (share all client + 1) (share all client) ≡ share (all + 1) client
    by_turn (inl own) =
        let same : all % 8 ≡ client = eqb-true (all % 8) client own in
        let more : share all client + 1 ≡ share (all + 1) client = omega (arith, same, low) in
        ap (λ (test : Bool). cond test (share all client + 1) (share all client)) own ∙ more
    by_turn (inr other) =
        let apart : all % 8 ≡ client → ⊥ = λ same. (let is = eq-eqb (all % 8) client same in both_ways _ other is) in
        let kept : share all client ≡ share (all + 1) client = omega (arith, apart, low) in
        ap (λ (test : Bool). cond test (share all client + 1) (share all client)) other ∙ kept

turn_low : (all : ℕ) → all % 8 < 8
turn_low all = omega arith

-- the next submission is by the client whose turn it is
module _ (down : List (ShardId × ReplicaId)) (done : List (TxnId × Txn)) (world : WorldState) (stands : Stands down done world) (event : Event) (txn : Txn)
    (step : step_of world event ≡ OfClient (teller (length done)) (λ me state. submit me state txn)) where
  abbrev n : ℕ
  n = length done

  abbrev own : HasSubmitted world (n % 8) (share n (n % 8))
  own = stands.clients (n % 8) (turn_low n)

  own_id : (number : ℕ) → number ≡ n / 8 → ◌≡◌ {A = TxnId} (record { client = teller n; number = number + 1 }) (id_at n)
  unfolding id_at
  own_id number is = ap (λ (at : ℕ). record { client = teller n; number = at + 1 }) is

  new_event : (submit (record { config = bank; client = teller n }) own.state txn).event ≡ Some (HistoryEvent.Submit (id_at n) txn)
  unfolding submit begins_half
  new_event = ap (λ (id : TxnId). Some (HistoryEvent.Submit id txn)) (own_id own.state.submitted (own.count_is ∙ share_own n))

  event_now : event_of_step bank world (step_of world event) ≡ Some (HistoryEvent.Submit (id_at n) txn)
  unfolding event_of_step teller
  event_now =
      ap (event_of_step bank world) step
      ∙ ap (client_event bank (teller n) (λ me state. submit me state txn)) own.there
      ∙ new_event

  history_now : submissions (happens bank world event).history ≡ done ++ (id_at n, txn) ∷ []
  history_now =
      ap submissions (history_one bank world event ∙ ap (with_event world.history) event_now)
      ∙ submissions-append world.history (HistoryEvent.Submit (id_at n) txn ∷ [])
      ∙ ap (λ (all : List (TxnId × Txn)). all ++ (id_at n, txn) ∷ []) stands.history

  client_now : (client : ℕ) → client < 8 → HasSubmitted (happens bank world event) client (share (n + 1) client)
  unfolding teller
  client_now client low =
      let has = stands.clients client low in
      subst (λ (count : ℕ). HasSubmitted (happens bank world event) client count) (share_next n client low)
      (has_more world (happens bank world event) client (share n client) txn has (n % 8 == client)
      (client_one bank (record { 0 = client }) world event
      ∙ ap (λ (one : NodeStep). option_map (client_after bank (record { 0 = client }) one) (client_at world.clients (record { 0 = client }))) step
      ∙ ap (option_map (client_after bank (record { 0 = client }) (OfClient (teller n) (λ me state. submit me state txn)))) has.there))

  one_longer : n + 1 ≡ length (done ++ (id_at n, txn) ∷ [])
  one_longer = sym (length-append done ((id_at n, txn) ∷ []))

  pub stands_submitted : (happens bank world event).crashed ≡ world.crashed → Stands down (done ++ (id_at n, txn) ∷ []) (happens bank world event)
  stands_submitted same = record {
    crashed = same ∙ stands.crashed;
    clients = λ client low. subst (λ (all : ℕ). HasSubmitted (happens bank world event) client (share all client)) one_longer (client_now client low);
    history = history_now;
  }
