-- A client whose numbers, ids and bodies are in their ranges stays so by each of its steps, and its Asks are. Used
-- where the calls of a client say so.
use Rattle.std.proofs.Common.{◌≡◌, ◌<◌, ◌≤◌, ◌%◌, ◌+◌, ◌-◌, ◌^◌, ℕ, Bool, true, false, cond, ◌&&◌, nat_lt, nat_le, Option, Some, None, List, [], ◌∷◌, ◌++◌, length, unwrap_or, IfSome, OnSome, Bor, refl, ap, sym, ◌∙◌, subst, arith}
use Rattle.std.specs.BTreeMap.{is_at, insert_entry}
use Rattle.std.specs.List.{list_any}
use Rattle.std.specs.Map.{lookup}
use Rattle.std.specs.Option.{option_copied}
use Rattle.std.specs.Ordering.{is_eq, match_ordering}
use Rattle.std.specs.declared.cmp.Ordering.{Ordering}
use Rattle.std.specs.declared.cmp.Ordering.TheVariants.{Less, Equal, Greater}
use Rattle.std.proofs.lemmas.Bool.{and_from, and_parts, cond_both, lt-ltb, le-leb, ltb-true}
use Rattle.std.proofs.lemmas.List.{length-map}
use Rattle.eris_base.specs.declared.ids.ClientId.{ClientId}
use Rattle.eris_base.specs.declared.ids.Phase.{Phase}
use Rattle.eris_base.specs.declared.ids.ShardId.{ShardId}
use Rattle.eris_base.specs.declared.ids.TxnId.{TxnId}
use Rattle.eris_base.specs.ConfigLimits.{ConfigValue, IsConfig}
use Rattle.eris_base.specs.Each.{Each}
use Rattle.eris_base.proofs.Orders.{equal_from}
use Rattle.eris_txn.specs.declared.answer.Answer.{Answer}
use Rattle.eris_txn.specs.declared.body.Body.{Body}
use Rattle.eris_txn.specs.declared.body.Body.TheVariants.{Prelim, Commit, Abort}
use Rattle.eris_txn.specs.declared.history.HistoryEvent.{HistoryEvent}
use Rattle.eris_txn.specs.declared.key.Key.{Key}
use Rattle.eris_txn.specs.declared.lock.Mode.{Mode}
use Rattle.eris_txn.specs.declared.lock.Mode.TheVariants.{Shared, Exclusive}
use Rattle.eris_txn.specs.declared.plan.How.{How}
use Rattle.eris_txn.specs.declared.plan.How.TheVariants.{Put, Plus, Minus}
use Rattle.eris_txn.specs.declared.plan.Setting.{Setting}
use Rattle.eris_txn.specs.declared.plan.Write.{Write}
use Rattle.eris_txn.specs.declared.txn.Txn.{Txn}
use Rattle.eris_txn.specs.Keys as keys
use Rattle.eris_txn.specs.PlanValues.{PlanValue}
use Rattle.eris_txn.specs.Plans.{guards_hold, locks_in, locks_of, mode_of, set_by, value_in, writes_from}
use Rattle.eris_general.specs.Outcomes.{conclusion_of, is_aborted}
use Rattle.eris_msg.specs.declared.message.Message.{Message}
use Rattle.eris_msg.specs.declared.outgoing.Outgoing.{Outgoing}
use Rattle.eris_codec.specs.Codecs.{Codec, items_fit}
use Rattle.eris_codec.specs.Fields as f
use Rattle.eris_codec.specs.Ranges.{body_fits}
use Rattle.eris_msg.proofs.MessageFits.{ask_fits}
use Rattle.eris_rules.specs.declared.transaction.Course.{Course}
use Rattle.eris_rules.specs.declared.transaction.Course.TheVariants.{Executing, Reading, Concluding, Aborting}
use Rattle.eris_rules.specs.declared.transaction.Transaction.{Transaction}
use Rattle.eris_rules.specs.declared.transaction.Vote.{Vote}
use Rattle.eris_rules.specs.ClientStates.{ClientIdentity, ClientOut, ClientState, begun_half, body_of, course_of, first_client, next_id, plan_of, transaction_at, txn_id_cmp, with_transaction}
use Rattle.eris_rules.specs.Clients.{abort, aborts, all_values, answers_counted, ask_for, asks_again, begins_half, client_step, client_takes, completes, concludes, finishes, goes_on, has_concluded, has_read, hears_late, hears_late_of, hears_vote, hears_vote_of, idle, is_executed, is_told, late_row, own_id, retries, retry, submit, vote_row}
use Rattle.eris_rules.specs.Happenings.{plan_of_transaction}
use Rattle.eris_rules.specs.Known.{knows_client}
use Rattle.eris_rules.specs.InPlace.{is_in_place_at_client}
use Rattle.eris_rules.specs.Votes.{is_complete, late_fits, vote_fits, waits_for, with_late, with_vote}
use Rattle.eris_rules.proofs.ClientIds.{one_id}
use Rattle.eris_in_place.specs.MessageRanges.{SendsFit}
use Rattle.eris_client.specs.ClientRanges.{CourseFits, EntryFits, HowFits, PlanFits, SettingFits, StateFits, StepFits, TxnFits}
use Rattle.eris_client.specs.ClientValues.{StateValue, after}

-- ---- lists of items
module _ {X : Type 0} (c : Codec X) where
  pub all_items_fit : (before items : List X) → Each (λ x. c.fits x ≡ true) items → items_fit (λ _. c) before items ≡ true
  all_items_fit before [] h = refl
  all_items_fit before (x ∷ items) h = and_from (c.fits x) (items_fit (λ _. c) (before ++ x ∷ []) items) h.0 (all_items_fit (before ++ x ∷ []) items h.1)

  each_item_fits : (before items : List X) → items_fit (λ _. c) before items ≡ true → Each (λ x. c.fits x ≡ true) items
  each_item_fits before [] h = tt
  each_item_fits before (x ∷ items) h =
      let parts = and_parts (c.fits x) (items_fit (λ _. c) (before ++ x ∷ []) items) h in
      (parts.0, each_item_fits (before ++ x ∷ []) items parts.1)

-- a count of up to 32
pub count_fits : (least n : ℕ) → least ≤ n → n ≤ 32 → (f.from_to least 32).fits n ≡ true
unfolding f.from_to f.byte
count_fits least n low high =
    and_from (nat_lt n 256) (nat_le least n && nat_le n 32) (lt-ltb n 256 (omega arith))
    (and_from (nat_le least n) (nat_le n 32) (le-leb least n low) (le-leb n 32 high))

-- ---- what a plan locks and writes
pub value_small : (n : ℕ) → n < 2 ^ 64 → f.value.fits n ≡ true
unfolding f.value
value_small n small = lt-ltb n (2 ^ 64) small

value_of_rest : (n : ℕ) → f.value.fits (n % 2 ^ 64) ≡ true
value_of_rest n = value_small (n % 2 ^ 64) (omega arith)

set_fits : (how : How) (before : Option ℕ) → HowFits how → f.value.fits (set_by how before) ≡ true
set_fits (Put value) before h = h
set_fits (Plus more) before h = value_of_rest (unwrap_or before 0 + more)
set_fits (Minus less) before h = value_of_rest (unwrap_or before 0 + (2 ^ 64 - less))

writes_fit : (settings : List Setting) (values : keys.Values) → Each SettingFits settings → Each (λ (write : Write). f.write.fits write ≡ true) (writes_from settings values)
unfolding f.write
writes_fit [] values h = tt
writes_fit (setting ∷ settings) values h =
    (and_from (f.key.fits setting.key) (f.value.fits (set_by setting.how (values setting.key))) h.0.0 (set_fits setting.how (values setting.key) h.0.1), writes_fit settings values h.1)

mode_fits : (mode : Mode) → f.mode.fits mode ≡ true
unfolding f.mode f.from_to f.byte
mode_fits Shared = refl
mode_fits Exclusive = refl

locks_fit : (settings : List Setting) (keys : List Key) → Each (λ (key : Key). f.key.fits key ≡ true) keys → Each (λ lock. f.lock.fits lock ≡ true) (locks_in settings keys)
unfolding f.lock
locks_fit settings [] h = tt
locks_fit settings (key ∷ keys) h =
    (and_from (f.key.fits key) (f.mode.fits (mode_of settings key)) h.0 (mode_fits (mode_of settings key)), locks_fit settings keys h.1)

prelim_fits : (plan : PlanValue) → PlanFits plan → body_fits (Prelim (locks_of plan)) ≡ true
unfolding f.body f.body_fits f.locks f.keys
prelim_fits plan h =
    let parts = and_parts ((f.from_to 1 32).fits (length plan.keys)) (items_fit (λ _. f.key) [] plan.keys) h.keys in
    and_from ((f.from_to 1 32).fits (length (locks_of plan))) (items_fit (λ _. f.lock) [] (locks_of plan))
    (ap (λ (n : ℕ). (f.from_to 1 32).fits n) (length-map plan.keys _) ∙ parts.0)
    (all_items_fit f.lock [] (locks_of plan) (locks_fit plan.settings plan.keys (each_item_fits f.key [] plan.keys parts.1)))

commit_fits : (plan : PlanValue) (values : keys.Values) → PlanFits plan → body_fits (Commit plan.keys (writes_from plan.settings values)) ≡ true
unfolding f.body f.body_fits f.writes
commit_fits plan values h =
    and_from (f.keys.fits plan.keys) (f.writes.fits (writes_from plan.settings values)) h.keys
    (and_from ((f.from_to 0 32).fits (length (writes_from plan.settings values))) (items_fit (λ _. f.write) [] (writes_from plan.settings values))
    (ap (λ (n : ℕ). (f.from_to 0 32).fits n) (length-map plan.settings _) ∙ count_fits 0 (length plan.settings) (omega arith) h.few)
    (all_items_fit f.write [] (writes_from plan.settings values) (writes_fit plan.settings values h.settings)))

abort_fits : (keys : List Key) → f.keys.fits keys ≡ true → body_fits (Abort keys) ≡ true
unfolding f.body f.body_fits
abort_fits keys h = h

conclusion_fits : (plan : PlanValue) (values : keys.Values) → PlanFits plan → body_fits (conclusion_of plan values) ≡ true
conclusion_fits plan values h =
    cond_both (guards_hold plan.guards values) (Commit plan.keys (writes_from plan.settings values)) (Abort plan.keys) (λ (body : Body). body_fits body ≡ true)
    (λ _. commit_fits plan values h)
    (λ _. abort_fits plan.keys h.keys)

body_of-fits : (course : Course) → CourseFits course → body_fits (body_of course) ≡ true
body_of-fits (Executing ops) h = h
body_of-fits (Reading plan) h = prelim_fits plan h
body_of-fits (Concluding plan body) h = h.1
body_of-fits (Aborting keys) h = h

-- ---- the transactions
put_fits : (entries : List (TxnId × Transaction)) (id : TxnId) (transaction : Transaction) → Each EntryFits entries → f.id.fits id ≡ true → CourseFits transaction.course
    → Each EntryFits (insert_entry txn_id_cmp entries id transaction)
put_fits [] id transaction h i k = (record { id = i; course = k }, tt)
put_fits (entry ∷ entries) id transaction h i k = by_order (txn_id_cmp id entry.0) (put_fits entries id transaction h.1 i k)
  where
    by_order : (order : Ordering) → Each EntryFits (insert_entry txn_id_cmp entries id transaction) → Each EntryFits (match_ordering order ((id, transaction) ∷ entry ∷ entries) ((entry.0, transaction) ∷ entries) (entry ∷ insert_entry txn_id_cmp entries id transaction))
    by_order Less rest = (record { id = i; course = k }, h)
    by_order Equal rest = (record { id = h.0.id; course = k }, h.1)
    by_order Greater rest = (h.0, rest)

pub found_fits : (entries : List (TxnId × Transaction)) (id : TxnId) (transaction : Transaction) → Each EntryFits entries → lookup (is_at (txn_id_cmp id)) entries ≡ Some transaction → EntryFits (id, transaction)
found_fits [] id transaction h is = absurd (cc)
found_fits (entry ∷ entries) id transaction h is = by_test (is_eq (txn_id_cmp id entry.0)) refl is (λ later. found_fits entries id transaction h.1 later)
  where
    by_test : (t : Bool) → is_eq (txn_id_cmp id entry.0) ≡ t → cond t (Some entry.1) (lookup (is_at (txn_id_cmp id)) entries) ≡ Some transaction
        → (lookup (is_at (txn_id_cmp id)) entries ≡ Some transaction → EntryFits (id, transaction)) → EntryFits (id, transaction)
    by_test true same here rest =
        let own : entry.1 ≡ transaction = cc in
        let one : id ≡ entry.0 = one_id id entry.0 (equal_from (txn_id_cmp id entry.0) same) in
        subst (λ (at : TxnId). EntryFits (at, transaction)) (sym one) (subst (λ (kept : Transaction). EntryFits (entry.0, kept)) own h.0)
    by_test false apart here rest = rest here

module _ (me : ClientIdentity) (state : ClientState) (fits : StateFits me state) where
  with-fits : (id : TxnId) (transaction : Transaction) → f.id.fits id ≡ true → CourseFits transaction.course → StateFits me (with_transaction state id transaction)
  unfolding with_transaction
  with-fits id transaction i k = record { client = fits.client; transactions = put_fits state.transactions id transaction fits.transactions i k }

  idle-fits : StepFits me (idle state)
  idle-fits = record { state = fits; sends = tt }

  ask-fits : (id : TxnId) (course : Course) → f.id.fits id ≡ true → CourseFits course → SendsFit (ask_for me id (body_of course) ∷ [])
  ask-fits id course i k =
      (ask_fits me.client id (body_of course) ∙ and_from (f.client.fits me.client) (f.id.fits id && f.body.fits (body_of course)) fits.client (and_from (f.id.fits id) (f.body.fits (body_of course)) i (body_of-fits course k)), tt)

  pub begins-fits : (id : TxnId) (course : Course) (event : Option HistoryEvent) → f.id.fits id ≡ true → CourseFits course → StepFits me (begins_half me state id course event)
  unfolding begins_half begun_half
  begins-fits id course event i k = record { state = with-fits id (begun_half course) i k; sends = ask-fits id course i k }

  pub asks_again-fits : (id : TxnId) (transaction : Transaction) → EntryFits (id, transaction) → StepFits me (asks_again me state id transaction)
  unfolding asks_again
  asks_again-fits id transaction k =
      cond_both transaction.finished (idle state) (record { state = state; sends = ask_for me id (body_of transaction.course) ∷ []; event = None }) (StepFits me)
      (λ _. idle-fits)
      (λ _. record { state = fits; sends = ask-fits id transaction.course k.id k.course })

  finishes-fits : (id : TxnId) (transaction : Transaction) (event : HistoryEvent) → EntryFits (id, transaction) → StepFits me (finishes state id transaction event)
  unfolding finishes
  finishes-fits id transaction event k = record { state = with-fits id (record transaction { finished = true }) k.id k.course; sends = tt }

  concludes-fits : (id : TxnId) (plan : PlanValue) (values : List (Option ℕ)) → f.id.fits id ≡ true → PlanFits plan → StepFits me (concludes me state id plan values)
  unfolding concludes
  concludes-fits id plan values i p =
      begins-fits id (Concluding plan (conclusion_of plan (value_in plan.keys values))) (Some (HistoryEvent.Read id values)) i (p, conclusion_fits plan (value_in plan.keys values) p)

  has_read-fits : (id : TxnId) (transaction : Transaction) (plan : PlanValue) → EntryFits (id, transaction) → PlanFits plan → StepFits me (has_read me state id transaction plan)
  unfolding has_read
  has_read-fits id transaction plan k p =
      let aborted : HistoryEvent = HistoryEvent.Answer id Answer.Aborted in
      let values : List (Option ℕ) = all_values (body_of transaction.course) transaction.counted in
      cond_both (list_any is_aborted (answers_counted transaction)) (finishes state id transaction aborted) (concludes me state id plan values) (StepFits me)
      (λ _. finishes-fits id transaction aborted k)
      (λ _. concludes-fits id plan values k.id p)

  completes-fits : (id : TxnId) (transaction : Transaction) (course : Course) → EntryFits (id, transaction) → CourseFits course → StepFits me (completes me state id transaction course)
  unfolding is_executed has_concluded is_told
  completes-fits id transaction (Executing ops) k c = finishes-fits id transaction _ k
  completes-fits id transaction (Reading plan) k c = has_read-fits id transaction plan k c
  completes-fits id transaction (Concluding plan body) k c = finishes-fits id transaction _ k
  completes-fits id transaction (Aborting keys) k c = finishes-fits id transaction _ k

  goes_on-fits : (id : TxnId) (transaction : Transaction) → EntryFits (id, transaction) → StepFits me (goes_on me state id transaction)
  unfolding goes_on
  goes_on-fits id transaction k =
      cond_both (is_complete transaction) (completes me state id transaction transaction.course) (idle (with_transaction state id transaction)) (StepFits me)
      (λ _. completes-fits id transaction transaction.course k k.course)
      (λ _. record { state = with-fits id transaction k.id k.course; sends = tt })

  -- what a look-up in the state found
  at-fits : (id : TxnId) (transaction : Transaction) → transaction_at state id ≡ Some transaction → EntryFits (id, transaction)
  unfolding transaction_at
  at-fits id transaction is = found_fits state.transactions id transaction fits.transactions is

  hears_vote-fits : (id : TxnId) (phase : Phase) (vote : Vote) (found : Option Transaction) → transaction_at state id ≡ found → StepFits me (hears_vote me state id phase vote found)
  unfolding hears_vote_of with_vote
  hears_vote-fits id phase vote None is = idle-fits
  hears_vote-fits id phase vote (Some transaction) is =
      let k = at-fits id transaction is in
      cond_both (waits_for transaction phase && vote_fits me.config.f (body_of transaction.course) vote)
      (goes_on me state id (with_vote me.config.f transaction vote)) (idle state) (StepFits me)
      (λ _. goes_on-fits id (with_vote me.config.f transaction vote) (record { id = k.id; course = k.course }))
      (λ _. idle-fits)

  hears_late-fits : (id : TxnId) (phase : Phase) (shard : ShardId) (answer : Answer) (found : Option Transaction) → transaction_at state id ≡ found → StepFits me (hears_late me state id phase shard answer found)
  unfolding hears_late_of with_late
  hears_late-fits id phase shard answer None is = idle-fits
  hears_late-fits id phase shard answer (Some transaction) is =
      let k = at-fits id transaction is in
      cond_both (waits_for transaction phase && late_fits (body_of transaction.course) shard answer)
      (goes_on me state id (with_late transaction shard answer)) (idle state) (StepFits me)
      (λ _. goes_on-fits id (with_late transaction shard answer) (record { id = k.id; course = k.course }))
      (λ _. idle-fits)

  vote_row-fits : (id : TxnId) (phase : Phase) (vote : Vote) → StepFits me (vote_row me state id phase vote)
  unfolding vote_row
  vote_row-fits id phase vote = hears_vote-fits id phase vote (transaction_at state id) refl

  late_row-fits : (id : TxnId) (phase : Phase) (shard : ShardId) (answer : Answer) → StepFits me (late_row me state id phase shard answer)
  unfolding late_row
  late_row-fits id phase shard answer = hears_late-fits id phase shard answer (transaction_at state id) refl

  takes-fits : (message : Message) → StepFits me (client_takes me state message)
  takes-fits (Message.Vouch view shard replica stamp id phase) = vote_row-fits id phase _
  takes-fits (Message.Reply view shard replica stamp id phase answer) = vote_row-fits id phase _
  takes-fits (Message.Late shard replica id phase answer) = late_row-fits id phase shard answer
  takes-fits (Message.Ask asker id body) = idle-fits
  takes-fits (Message.Txn packet) = idle-fits
  takes-fits (Message.Find replica place) = idle-fits
  takes-fits (Message.Request place) = idle-fits
  takes-fits (Message.Has packet) = idle-fits
  takes-fits (Message.TempDropped place shard replica view) = idle-fits
  takes-fits (Message.Found packet) = idle-fits
  takes-fits (Message.Dropped place) = idle-fits
  takes-fits (Message.ViewChange replica view part) = idle-fits
  takes-fits (Message.StartView view part) = idle-fits
  takes-fits (Message.SyncAsk epoch view) = idle-fits
  takes-fits (Message.Ack replica epoch view length) = idle-fits
  takes-fits (Message.Settled epoch view number places) = idle-fits
  takes-fits (Message.NewEpoch shard replica epoch) = idle-fits
  takes-fits (Message.EpochAsk epoch) = idle-fits
  takes-fits (Message.EpochState replica epoch part) = idle-fits
  takes-fits (Message.StartEpoch epoch shard packets) = idle-fits

  -- A STEP BY A MESSAGE
  pub step-fits : (message : Message) → StepFits me (client_step me state message)
  unfolding client_step
  step-fits message =
      cond_both (is_in_place_at_client me.config message) (client_takes me state message) (idle state) (StepFits me)
      (λ _. takes-fits message) (λ _. idle-fits)

  retries-fits : (id : TxnId) (found : Option Transaction) → transaction_at state id ≡ found → StepFits me (retries me state id found)
  retries-fits id None is = idle-fits
  retries-fits id (Some transaction) is = asks_again-fits id transaction (at-fits id transaction is)

  -- A RETRY
  pub retry-fits : (number : ℕ) → StepFits me (retry me state number)
  unfolding retry
  retry-fits number = retries-fits (own_id me number) (transaction_at state (own_id me number)) refl

  aborts-fits : (id : TxnId) (keys : List Key) (found : Option Transaction) → transaction_at state id ≡ found → f.id.fits id ≡ true → f.keys.fits keys ≡ true → StepFits me (aborts me state id keys found)
  aborts-fits id keys None is i k = begins-fits id (Aborting keys) None i (abort_fits keys k)
  aborts-fits id keys (Some transaction) is i k = asks_again-fits id transaction (at-fits id transaction is)

  -- AN ABORT
  pub abort-fits : (id : TxnId) (keys : List Key) → f.id.fits id ≡ true → f.keys.fits keys ≡ true → StepFits me (abort me state id keys)
  unfolding abort
  abort-fits id keys i k = aborts-fits id keys (transaction_at state id) refl i k

next_id-fits : (me : ClientIdentity) (state : ClientState) → f.client.fits me.client ≡ true → state.submitted < 4294967295 → f.id.fits (next_id me state) ≡ true
unfolding f.id f.number f.word
next_id-fits me state client room =
    and_from (f.client.fits me.client) (nat_lt (state.submitted + 1) (2 ^ 32) && nat_lt 0 (state.submitted + 1)) client
    (and_from (nat_lt (state.submitted + 1) (2 ^ 32)) (nat_lt 0 (state.submitted + 1)) (lt-ltb (state.submitted + 1) (2 ^ 32) (omega arith)) (lt-ltb 0 (state.submitted + 1) (omega arith)))

-- A SUBMISSION
pub submit-fits : (me : ClientIdentity) (state : ClientState) (txn : Txn) → StateFits me state → state.submitted < 4294967295 → TxnFits txn → StepFits me (submit me state txn)
unfolding submit
submit-fits me state txn fits room k =
    begins-fits me (record state { submitted = state.submitted + 1 }) (record { client = fits.client; transactions = fits.transactions }) (next_id me state) (course_of txn)
    (Some (HistoryEvent.Submit (next_id me state) txn)) (next_id-fits me state fits.client room) k

-- the client at its start
pub first-fits : (config : ConfigValue) (client : ClientId) → knows_client config client ≡ true → IsConfig config → StateFits (record { config = config; client = client }) first_client
unfolding f.client f.from_to f.byte first_client
first-fits config client known is =
    let below : client.0 < config.clients = ltb-true client.0 config.clients known in
    record {
      client =
          and_from (nat_lt client.0 256) (nat_le 0 client.0 && nat_le client.0 127) (lt-ltb client.0 256 (omega (arith, is.few_clients)))
          (and_from (nat_le 0 client.0) (nat_le client.0 127) (le-leb 0 client.0 (omega arith)) (le-leb client.0 127 (omega (arith, is.few_clients))));
      transactions = tt;
    }

-- ---- a state that a step left, and what it sent
abbrev Left : Type 0
Left = StateValue × (List Outgoing × Option HistoryEvent)

pub left_fits : (old new : StateValue) (out : ClientOut) (sends : List Outgoing) (event : Option HistoryEvent) → StepFits old.me out → ◌≡◌ {A = Left} (new, (sends, event)) (after old out) → StateFits new.me new.state
left_fits old new out sends event fits same =
    let e : new ≡ record old { state = out.state } = ap (λ (left : Left). left.0) same in
    subst (λ (value : StateValue). StateFits value.me value.state) (sym e) fits.state

pub sent_fits : (old new : StateValue) (out : ClientOut) (sends : List Outgoing) (event : Option HistoryEvent) → StepFits old.me out → ◌≡◌ {A = Left} (new, (sends, event)) (after old out) → SendsFit sends
sent_fits old new out sends event fits same =
    let e : sends ≡ out.sends = ap (λ (left : Left). left.1.0) same in
    subst SendsFit (sym e) fits.sends

pub asked_fits : (old : StateValue) (out : ClientOut) (found : Option (List Outgoing)) (sends : List Outgoing) → StepFits old.me out → IfSome found (λ one. ◌≡◌ {A = Left} (old, (one, None)) (after old out)) → found ≡ Some sends → SendsFit sends
asked_fits old out found sends fits same is =
    let there : ◌≡◌ {A = Left} (old, (sends, None)) (after old out) = subst (λ (one : Option (List Outgoing)). IfSome one (λ some. ◌≡◌ {A = Left} (old, (some, None)) (after old out))) is same in
    sent_fits old old out sends None fits there

-- ---- what is kept, by the look-up
pub plan_kept : (me : ClientIdentity) (state : ClientState) (id : TxnId) → StateFits me state → IfSome (plan_of_transaction (transaction_at state id)) PlanFits
plan_kept me state id fits = by_found (transaction_at state id) (λ transaction is. (at-fits me state fits id transaction is).course)
  where
    by_course : (course : Course) → CourseFits course → IfSome (plan_of course) PlanFits
    by_course (Executing ops) k = tt
    by_course (Reading plan) k = k
    by_course (Concluding plan body) k = k.0
    by_course (Aborting keys) k = tt

    by_found : (found : Option Transaction) → ((transaction : Transaction) → found ≡ Some transaction → CourseFits transaction.course) → IfSome (plan_of_transaction found) PlanFits
    by_found None k = tt
    by_found (Some transaction) k = by_course transaction.course (k transaction refl)

pub id_kept : (me : ClientIdentity) (state : ClientState) (id : TxnId) → StateFits me state → OnSome (transaction_at state id) (f.id.fits id ≡ true)
id_kept me state id fits = by_found (transaction_at state id) (λ transaction is. (at-fits me state fits id transaction is).id)
  where
    by_found : (found : Option Transaction) → ((transaction : Transaction) → found ≡ Some transaction → f.id.fits id ≡ true) → OnSome found (f.id.fits id ≡ true)
    by_found None k = tt
    by_found (Some transaction) k = k transaction refl

-- what is lent is what was found
pub lent_fits : (lent : Option (Bor PlanValue)) (found : Option PlanValue) → option_copied lent ≡ found → IfSome found PlanFits → IfSome lent (λ plan. PlanFits plan.now)
lent_fits None found is k = tt
lent_fits (Some plan) found is k = subst (λ (one : Option PlanValue). IfSome one PlanFits) (sym is) k

pub lent_id : (lent : Option (Bor PlanValue)) (found : Option Transaction) (id : TxnId) → option_copied lent ≡ plan_of_transaction found → OnSome found (f.id.fits id ≡ true) → OnSome lent (f.id.fits id ≡ true)
lent_id None found id is k = tt
lent_id (Some plan) None id is k = absurd (cc)
lent_id (Some plan) (Some transaction) id is k = k
