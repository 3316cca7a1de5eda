-- What the log says of a store, after a beginning of a list.
use Rattle.eris_base.specs.declared.ids.ClientId.{ClientId}
use Rattle.eris_base.specs.declared.ids.Phase.{Phase}
use Rattle.eris_base.specs.declared.ids.Place.{Place}
use Rattle.eris_base.specs.declared.ids.TxnId.{TxnId}
use Rattle.eris_base.proofs.Each.{Each-changed, Each-right}
use Rattle.eris_base.proofs.TxnIdLaws.{same_id-from, same_id-true, same_id-turned}
use Rattle.eris_law_lock.proofs.Keys.{answers_agree, modes_conflict, reads_agree}
use Rattle.eris_law_lock.proofs.Log.{AllLawful, Complete, Entry, Holds, InOrder, LaterApart, Lawful, OpenApart, Status, Void, Waits, current, final, is_open, left_after_at, locks_in, read_at_point, with_status}
use Rattle.eris_base.specs.Each.{Each}
use Rattle.eris_locks.specs.Law.{StandsIn}
use Rattle.eris_locks.specs.LockTable.{answer_of}
use Rattle.eris_locks.specs.Locks.{conflict, locks_of}
use Rattle.eris_locks.specs.ShardRun.{Served, left_after, outcome_in, plain_run, plain_values, writes_in}
use Rattle.eris_locks.specs.States.{StoreState, blocked, is_conclusory, is_decided, is_prelim, note, phase_of, same_phase}
use Rattle.eris_base.specs.TxnIds.{is_among, same_id}
use Rattle.eris_locks.specs.declared.held.Held.{Held}
use Rattle.eris_locks.specs.declared.shard_packet.ShardPacket.{ShardPacket}
use Rattle.eris_locks.proofs.PhaseLaws.{same_phase-true}
use Rattle.eris_txn.specs.Keys.{Values, no_values}
use Rattle.eris_txn.specs.declared.answer.Answer.{Answer}
use Rattle.eris_txn.specs.declared.answer.Answer.TheVariants.{Aborted, Ops}
use Rattle.eris_txn.specs.declared.body.Body.{Body}
use Rattle.eris_txn.specs.declared.body.Body.TheVariants.{Abort, Commit, Independent, Prelim}
use Rattle.eris_txn.specs.declared.key.Key.{Key}
use Rattle.eris_txn.specs.declared.lock.Lock.{Lock}
use Rattle.eris_txn.specs.declared.plan.Write.{Write}
use Rattle.std.proofs.Common.{Bool, List, None, Option, Some, [], ap, cond, false, inl, inr, refl, subst, sym, true, ◌&&◌, ◌++◌, ◌||◌, ◌∙◌, ◌∷◌, ◌≡◌, ◌⊎◌}
use Rattle.std.proofs.lemmas.Bool.{and_parts, cases_Bool, cond-false, cond-true, or_left, or_parts, or_right}
use Rattle.std.specs.List.{list_any}

abbrev pub is_waiting : Status → Bool
is_waiting Waits = true
is_waiting Holds = false
is_waiting Complete = false
is_waiting Void = false

abbrev pub is_holding : Status → Bool
is_holding Waits = false
is_holding Holds = true
is_holding Complete = false
is_holding Void = false

abbrev pub entry_of : Place → ClientId → TxnId → Body → List Write → Status → Entry
entry_of at asker id body writes status =
    record { packet = record { at = at; asker = asker; id = id; body = body }; writes = writes; status = status }

abbrev pub waiting_in : List Entry → List ShardPacket
waiting_in [] = []
waiting_in (entry ∷ entries) = cond (is_waiting entry.status) (entry.packet ∷ waiting_in entries) (waiting_in entries)

abbrev pub holder_of : Entry → Held
holder_of entry = record { id = entry.packet.id; locks = locks_in entry }

abbrev pub holding_in : List Entry → List Held
holding_in [] = []
holding_in (entry ∷ entries) = cond (is_holding entry.status) (holder_of entry ∷ holding_in entries) (holding_in entries)

-- the same elements, however ordered and however often: no test tells the lists apart
abbrev pub SameSet : List Held → List Held → Type 0
SameSet holding others = (p : Held → Bool) → list_any p holding ≡ list_any p others

pub StandsIn-append_left : (given : Served) (xs ys : List Served) → StandsIn given xs → StandsIn given (xs ++ ys)
StandsIn-append_left given [] ys h = absurd h
StandsIn-append_left given (x ∷ xs) ys (inl e) = inl e
StandsIn-append_left given (x ∷ xs) ys (inr h) = inr (StandsIn-append_left given xs ys h)

pub StandsIn-append_right : (given : Served) (xs ys : List Served) → StandsIn given ys → StandsIn given (xs ++ ys)
StandsIn-append_right given [] ys h = h
StandsIn-append_right given (x ∷ xs) ys h = inr (StandsIn-append_right given xs ys h)

-- the plain run over the transactions of the log
abbrev pub reached : List Entry → Values → Values
reached [] values = values
reached (entry ∷ entries) values = reached entries (left_after entry.packet.body entry.writes values)

abbrev pub served_at : Entry → Values → Served
served_at entry values = record { id = entry.packet.id; answer = answer_of entry.packet.body values }

abbrev pub logged_answers : List Entry → Values → List Served
logged_answers [] values = []
logged_answers (entry ∷ entries) values =
    served_at entry values ∷ logged_answers entries (left_after entry.packet.body entry.writes values)

pub reached_at : (entries : List Entry) (values : Values) (key : Key) → reached entries values key ≡ final key entries (values key)
reached_at [] values key = refl
reached_at (entry ∷ entries) values key =
    reached_at entries (left_after entry.packet.body entry.writes values) key
    ∙ ap (final key entries) (left_after_at entry.packet.body entry.writes values key)

pub logged_answers_changed : (earlier : List Entry) (entry : Entry) (following : List Entry) (status : Status) (values : Values)
    → logged_answers (earlier ++ with_status status entry ∷ following) values ≡ logged_answers (earlier ++ entry ∷ following) values
logged_answers_changed [] entry following status values = refl
logged_answers_changed (other ∷ earlier) entry following status values =
    ap (λ t. served_at other values ∷ t)
    (logged_answers_changed earlier entry following status (left_after other.packet.body other.writes values))

pub logged_answers_has : (earlier : List Entry) (entry : Entry) (following : List Entry) (values : Values)
    → StandsIn (served_at entry (reached earlier values)) (logged_answers (earlier ++ entry ∷ following) values)
logged_answers_has [] entry following values = inl refl
logged_answers_has (other ∷ earlier) entry following values =
    inr (logged_answers_has earlier entry following (left_after other.packet.body other.writes values))

holding_head : (entry : Entry) (b : Bool) (holding others both : List Held) → both ≡ holding ++ others
    → cond b (holder_of entry ∷ both) both ≡ cond b (holder_of entry ∷ holding) holding ++ others
holding_head entry true holding others both h = ap (λ t. holder_of entry ∷ t) h
holding_head entry false holding others both h = h

pub holding_in-append : (earlier following : List Entry)
    → holding_in (earlier ++ following) ≡ holding_in earlier ++ holding_in following
holding_in-append [] following = refl
holding_in-append (entry ∷ earlier) following =
    holding_head entry (is_holding entry.status) (holding_in earlier) (holding_in following) (holding_in (earlier ++ following))
    (holding_in-append earlier following)

waiting_head : (entry : Entry) (b : Bool) (some others both : List ShardPacket) → both ≡ some ++ others
    → cond b (entry.packet ∷ both) both ≡ cond b (entry.packet ∷ some) some ++ others
waiting_head entry true some others both h = ap (λ t. entry.packet ∷ t) h
waiting_head entry false some others both h = h

pub waiting_in-append : (earlier following : List Entry)
    → waiting_in (earlier ++ following) ≡ waiting_in earlier ++ waiting_in following
waiting_in-append [] following = refl
waiting_in-append (entry ∷ earlier) following =
    waiting_head entry (is_waiting entry.status) (waiting_in earlier) (waiting_in following) (waiting_in (earlier ++ following))
    (waiting_in-append earlier following)

-- WHAT ISN'T BLOCKED conflicts with no open one before it
abbrev pub by_held : List Lock → Held → Bool
by_held locks held = conflict held.locks locks

abbrev pub by_waiting : List Lock → ShardPacket → Bool
by_waiting locks waiter = conflict (locks_of waiter.body) locks

apart_head : (entry : Entry) (status : Status) (holding : List Held) (waiters : List ShardPacket) (locks : List Lock)
    → list_any (by_held locks) (cond (is_holding status) (holder_of entry ∷ holding) holding) ≡ false
    → list_any (by_waiting locks) (cond (is_waiting status) (entry.packet ∷ waiters) waiters) ≡ false
    → (is_open status ≡ true → conflict (locks_in entry) locks ≡ false) × (list_any (by_held locks) holding ≡ false) × (list_any (by_waiting locks) waiters ≡ false)
apart_head entry Waits holding waiters locks h w = ((λ o. (or_parts _ _ w).0), h, (or_parts _ _ w).1)
apart_head entry Holds holding waiters locks h w = ((λ o. (or_parts _ _ h).0), (or_parts _ _ h).1, w)
apart_head entry Complete holding waiters locks h w = ((λ o. cc), h, w)
apart_head entry Void holding waiters locks h w = ((λ o. cc), h, w)

apart_from : (earlier following : List Entry) (locks : List Lock)
    → list_any (by_held locks) (holding_in (earlier ++ following)) ≡ false
    → list_any (by_waiting locks) (waiting_in earlier) ≡ false → OpenApart conflict earlier locks
apart_from [] following locks h w = tt
apart_from (entry ∷ earlier) following locks h w =
    let r = apart_head entry entry.status (holding_in (earlier ++ following)) (waiting_in earlier) locks h w in
    (r.0, apart_from earlier following locks r.1 r.2)

pub unblocked : (holding : List Held) (earlier following : List Entry) (locks : List Lock)
    → SameSet holding (holding_in (earlier ++ following)) → blocked holding (waiting_in earlier) locks ≡ false
    → OpenApart conflict earlier locks
unblocked holding earlier following locks same b =
    let r = or_parts _ _ b in
    apart_from earlier following locks (sym (same (by_held locks)) ∙ r.0) r.1

-- what the log says of an answer that the store gave
pub record Plain : Type 0 where
  pub run : List Served
  pub outcome : TxnId → Option Answer
  pub values : Values

abbrev pub Good : Plain → Phase → TxnId → Answer → Type 0
Good T Phase.Whole id answer = StandsIn (record { id = id; answer = answer }) T.run
Good T Phase.Prelim id answer =
    StandsIn (record { id = id; answer = answer }) T.run ⊎ ((answer ≡ Aborted) × (T.outcome id ≡ Some Aborted))
Good T Phase.Conclude id answer = T.outcome id ≡ Some answer

abbrev pub is_known : Option Answer → Bool
is_known found = is_decided found

pub record EntryFit (kind : TxnId → Bool) (rest : List ShardPacket) (recorded : TxnId → Phase → Option Answer) (decided : TxnId → Option Answer) (entry : Entry) : Type 0 where
  pub lawful : Lawful entry
  pub plain : is_conclusory entry.packet.body ≡ false
  pub kind_is : is_prelim entry.packet.body ≡ kind entry.packet.id
  pub known : is_waiting entry.status ≡ false → is_known (recorded entry.packet.id (phase_of entry.packet.body)) ≡ true
  pub undecided : is_open entry.status ≡ true → is_prelim entry.packet.body ≡ true → decided entry.packet.id ≡ None
  pub writes_to_come : is_open entry.status ≡ true → is_prelim entry.packet.body ≡ true
      → entry.writes ≡ writes_in entry.packet.id rest
  pub holder : is_holding entry.status ≡ true → is_prelim entry.packet.body ≡ true

abbrev pub Distinct : List Entry → Type 0
Distinct [] = Unit {0}
Distinct (entry ∷ entries) = Each (λ f. same_id entry.packet.id f.packet.id ≡ false) entries × Distinct entries

abbrev pub has_id : TxnId → List Entry → Bool
has_id id entries = list_any (λ e. same_id id e.packet.id) entries

-- WHAT THE STORE HOLDS after a beginning of the list, by the log of that beginning
pub record Point : Type 0 where
  pub all : Plain  -- the whole plain run
  pub kind : TxnId → Bool  -- of each id, whether it is a preliminary's
  pub rest : List ShardPacket  -- the packets still to come, and the plain run's state before them
  pub reached : Values
  pub seen : List TxnId
  pub decided : List TxnId

pub record Fit (point : Point) (state : StoreState) (entries : List Entry) : Type 0 where
  pub values : (key : Key) → state.values key ≡ current key entries None
  pub order : InOrder conflict entries
  pub each : Each (EntryFit point.kind point.rest state.recorded state.decided) entries
  pub distinct : Distinct entries
  pub holding : SameSet state.holding (holding_in entries)
  pub sound : (id : TxnId) (phase : Phase) (answer : Answer) → state.recorded id phase ≡ Some answer
      → Good point.all phase id answer
  pub logged : (id : TxnId) (phase : Phase) → is_known (state.recorded id phase) ≡ true → has_id id entries ≡ true
  pub linked : point.all.run ≡ logged_answers entries no_values ++ plain_run point.reached point.seen point.decided point.rest
  pub reaches : reached entries no_values ≡ point.reached
  pub seen_is : (other_id : TxnId) → is_among other_id point.seen ≡ has_id other_id entries
  pub decided_is : (other_id : TxnId) → is_among other_id point.decided ≡ is_known (state.decided other_id)
  pub ends : point.all.values ≡ plain_values point.reached point.seen point.decided point.rest
  pub told : (other_id : TxnId) (answer : Answer) → state.decided other_id ≡ Some answer → point.all.outcome other_id ≡ Some answer
  pub untold : (other_id : TxnId) → state.decided other_id ≡ None → point.all.outcome other_id ≡ outcome_in other_id point.rest
  pub ruled : (other_id : TxnId) (answer : Answer) → state.decided other_id ≡ Some answer
      → (answer ≡ Aborted) ⊎ (is_known (state.recorded other_id Phase.Prelim) ≡ true)

-- the answer of an unblocked one is the plain run's
pub read_answer : (earlier : List Entry) (at : Place) (asker : ClientId) (id : TxnId) (body : Body) (own_writes : List Write) (following : List Entry) (values : Values)
    → ((key : Key) → values key ≡ current key (earlier ++ entry_of at asker id body own_writes Waits ∷ following) None)
    → AllLawful earlier → AllLawful following → OpenApart conflict earlier (locks_of body)
    → LaterApart conflict (locks_of body) following
    → answer_of body values ≡ answer_of body (reached earlier no_values)
read_answer earlier at asker id (Independent ops) own_writes following values v lawful_entry well o l =
    ap Ops (answers_agree ops values (reached earlier no_values) (λ key t.
    v key ∙ (read_at_point conflict modes_conflict earlier (entry_of at asker id (Independent ops) own_writes Waits) following key None lawful_entry well o l refl t ∙ sym (reached_at earlier no_values key))))
read_answer earlier at asker id (Prelim ls) own_writes following values v lawful_entry well o l =
    ap Answer.Values (reads_agree ls values (reached earlier no_values) (λ key t.
    v key ∙ (read_at_point conflict modes_conflict earlier (entry_of at asker id (Prelim ls) own_writes Waits) following key None lawful_entry well o l refl t ∙ sym (reached_at earlier no_values key))))
read_answer earlier at asker id (Commit keys writes) own_writes following values v lawful_entry well o l = refl
read_answer earlier at asker id (Abort keys) own_writes following values v lawful_entry well o l = refl

pub distinct_changed : (earlier : List Entry) (entry : Entry) (following : List Entry) (status : Status)
    → Distinct (earlier ++ entry ∷ following) → Distinct (earlier ++ with_status status entry ∷ following)
distinct_changed [] entry following status h = h
distinct_changed (other ∷ earlier) entry following status h =
    (Each-changed _ earlier entry (with_status status entry) following h.0 (Each-right _ earlier (entry ∷ following) h.0).0, distinct_changed earlier entry following status h.1)

-- one more answer is noted
phase_same : (phase : Phase) → same_phase phase phase ≡ true
phase_same Phase.Whole = refl
phase_same Phase.Prelim = refl
phase_same Phase.Conclude = refl

pub known_noted : (recorded : TxnId → Phase → Option Answer) (id : TxnId) (phase : Phase) (answer : Answer) (other_id : TxnId) (other_phase : Phase)
    → is_known (recorded other_id other_phase) ≡ true → is_known (note recorded id phase answer other_id other_phase) ≡ true
known_noted recorded id phase answer other_id other_phase h = by_test (same_id id other_id && same_phase phase other_phase)
  where
    by_test : (b : Bool) → is_known (cond b (Some answer) (recorded other_id other_phase)) ≡ true
    by_test true = refl
    by_test false = h

pub known_here : (recorded : TxnId → Phase → Option Answer) (id : TxnId) (phase : Phase) (answer : Answer)
    → is_known (note recorded id phase answer id phase) ≡ true
known_here recorded id phase answer = rw (same_id-from id id refl, phase_same phase) refl

pub sound_noted : (plain_run_of : Plain) (recorded : TxnId → Phase → Option Answer) (id : TxnId) (phase : Phase) (answer : Answer)
    → ((i : TxnId) (q : Phase) (c : Answer) → recorded i q ≡ Some c → Good plain_run_of q i c) → Good plain_run_of phase id answer
    → (i : TxnId) (q : Phase) (c : Answer) → note recorded id phase answer i q ≡ Some c → Good plain_run_of q i c
sound_noted plain_run_of recorded id phase answer h g i q c is = by_test (cases_Bool (same_id id i && same_phase phase q))
  where
    by_test : (((same_id id i && same_phase phase q) ≡ true) ⊎ ((same_id id i && same_phase phase q) ≡ false))
        → Good plain_run_of q i c
    by_test (inl t) =
        let parts = and_parts _ _ t in
        let here : id ≡ i = same_id-true id i parts.0 in
        let there : phase ≡ q = same_phase-true phase q parts.1 in
        let same : Some answer ≡ Some c = sym (cond-true _ _ _ t) ∙ is in
        let value : answer ≡ c = cc in
        subst (λ (r : Phase). Good plain_run_of r i c) there (subst (λ (that_id : TxnId). Good plain_run_of phase that_id c) here (subst (λ (d : Answer). Good plain_run_of phase id d) value g))
    by_test (inr n) = h i q c (sym (cond-false _ _ _ n) ∙ is)

pub has_id_changed : (id : TxnId) (earlier : List Entry) (entry : Entry) (following : List Entry) (status : Status)
    → has_id id (earlier ++ with_status status entry ∷ following) ≡ has_id id (earlier ++ entry ∷ following)
has_id_changed id [] entry following status = refl
has_id_changed id (other ∷ earlier) entry following status =
    ap (λ t. same_id id other.packet.id || t) (has_id_changed id earlier entry following status)

pub has_id_here : (id : TxnId) (earlier : List Entry) (entry : Entry) (following : List Entry) → same_id id entry.packet.id ≡ true
    → has_id id (earlier ++ entry ∷ following) ≡ true
has_id_here id [] entry following h = or_left _ _ h
has_id_here id (other ∷ earlier) entry following h = or_right _ _ (has_id_here id earlier entry following h)

-- an answer noted for one of the log
pub logged_noted : (recorded : TxnId → Phase → Option Answer) (phase : Phase) (answer : Answer) (earlier : List Entry) (entry : Entry) (following : List Entry)
    → ((i : TxnId) (q : Phase) → is_known (recorded i q) ≡ true → has_id i (earlier ++ entry ∷ following) ≡ true)
    → (i : TxnId) (q : Phase) → is_known (note recorded entry.packet.id phase answer i q) ≡ true
    → has_id i (earlier ++ entry ∷ following) ≡ true
logged_noted recorded phase answer earlier entry following h i q k =
    by_test (cases_Bool (same_id entry.packet.id i && same_phase phase q))
  where
    by_test : (((same_id entry.packet.id i && same_phase phase q) ≡ true) ⊎ ((same_id entry.packet.id i && same_phase phase q) ≡ false))
        → has_id i (earlier ++ entry ∷ following) ≡ true
    by_test (inl t) = has_id_here i earlier entry following (same_id-turned i entry.packet.id ∙ (and_parts _ _ t).0)
    by_test (inr n) = h i q (ap is_known (sym (cond-false _ _ _ n)) ∙ k)

pub reached_changed : (earlier : List Entry) (entry : Entry) (following : List Entry) (status : Status) (values : Values)
    → reached (earlier ++ with_status status entry ∷ following) values ≡ reached (earlier ++ entry ∷ following) values
reached_changed [] entry following status values = refl
reached_changed (other ∷ earlier) entry following status values =
    reached_changed earlier entry following status (left_after other.packet.body other.writes values)

pub ruled_noted : (recorded : TxnId → Phase → Option Answer) (decided : TxnId → Option Answer) (id : TxnId) (phase : Phase) (given : Answer)
    → ((i : TxnId) (a : Answer) → decided i ≡ Some a → (a ≡ Aborted) ⊎ (is_known (recorded i Phase.Prelim) ≡ true))
    → (i : TxnId) (a : Answer) → decided i ≡ Some a
    → (a ≡ Aborted) ⊎ (is_known (note recorded id phase given i Phase.Prelim) ≡ true)
ruled_noted recorded decided id phase given h i a e = on (h i a e)
  where
    on : ((a ≡ Aborted) ⊎ (is_known (recorded i Phase.Prelim) ≡ true))
        → (a ≡ Aborted) ⊎ (is_known (note recorded id phase given i Phase.Prelim) ≡ true)
    on (inl q) = inl q
    on (inr q) = inr (known_noted recorded id phase given i Phase.Prelim q)
