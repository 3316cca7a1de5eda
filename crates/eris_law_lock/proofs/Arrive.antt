-- The step of an Independent or a Prelim.
use Rattle.eris_base.specs.declared.ids.ClientId.{ClientId}
use Rattle.eris_base.specs.declared.ids.Phase.{Phase}
use Rattle.eris_base.specs.declared.ids.Place.{Place}
use Rattle.eris_base.specs.declared.ids.TxnId.{TxnId}
use Rattle.eris_law_lock.proofs.Act.{act, acted, any_holding_in, fit_noted}
use Rattle.eris_base.proofs.Each.{Each-append, Each-weaker}
use Rattle.eris_law_lock.proofs.Fit.{Distinct, EntryFit, Fit, Good, Plain, Point, entry_of, has_id, holding_in, is_holding, is_known, is_waiting, known_here, logged_answers, logged_noted, reached, ruled_noted, served_at, sound_noted, waiting_in, waiting_in-append}
use Rattle.eris_base.proofs.TxnIdLaws.{same_id-true, same_id-turned}
use Rattle.eris_base.proofs.Booleans.{or_none}
use Rattle.eris_law_lock.proofs.Log.{Complete, Entry, Holds, Status, Void, Waits, current-append, effect, has_acted, is_complete, is_open, left_at}
use Rattle.eris_law_lock.proofs.Order.{order_added}
use Rattle.eris_law_lock.proofs.Release.{Right, acts_on, passed, rewait}
use Rattle.eris_base.specs.Each.{Each}
use Rattle.eris_locks.specs.LockTable.{Stepped, answer_of, arrive, arrive_new}
use Rattle.eris_locks.specs.Locks.{alters, conflict, locks_of}
use Rattle.eris_locks.specs.ShardRun.{Served, left_after, outcome_in, plain_run, plain_values, writes_in}
use Rattle.eris_locks.specs.States.{StoreState, blocked, is_conclusory, is_decided, is_prelim, note, phase_of, waits}
use Rattle.eris_base.specs.TxnIds.{is_among, same_id}
use Rattle.eris_locks.specs.declared.shard_packet.ShardPacket.{ShardPacket}
use Rattle.eris_txn.specs.Keys.{Values, no_values}
use Rattle.eris_txn.specs.declared.answer.Answer.{Answer}
use Rattle.eris_txn.specs.declared.answer.Answer.TheVariants.{Aborted}
use Rattle.eris_txn.specs.declared.body.Body.{Body}
use Rattle.eris_txn.specs.declared.body.Body.TheVariants.{Abort, Commit, Independent, Prelim}
use Rattle.eris_txn.specs.declared.key.Key.{Key}
use Rattle.eris_txn.specs.declared.plan.Write.{Write}
use Rattle.std.proofs.Common.{Bool, List, None, Option, Some, [], ap, append_assoc, cond, false, inl, inr, refl, subst, sym, true, ℕ, ◌&&◌, ◌++◌, ◌||◌, ◌∙◌, ◌∷◌, ◌≡◌, ◌⊎◌}
use Rattle.std.proofs.lemmas.Bool.{and_parts, both_ways, cases_Bool, cond-false, cond-true, or_cases, or_from, or_left, or_parts, or_right}
use Rattle.std.proofs.lemmas.List.Folds.{list_any-append}
use Rattle.std.specs.List.{list_any}

not_complete : (status : Status) → has_acted status ≡ false → is_complete status ≡ false
not_complete Waits h = refl
not_complete Holds h = cc
not_complete Complete h = cc
not_complete Void h = refl

not_holding : (status : Status) → has_acted status ≡ false → is_holding status ≡ false
not_holding Waits h = refl
not_holding Holds h = cc
not_holding Complete h = refl
not_holding Void h = refl

or_added : (a b : Bool) → (a || b) ≡ (b || (a || false))
or_added true true = refl
or_added true false = refl
or_added false b = sym (or_none b)

distinct_added : (entries : List Entry) (entry : Entry) → Distinct entries → has_id entry.packet.id entries ≡ false
    → Distinct (entries ++ entry ∷ [])
distinct_added [] entry h n = (tt, tt)
distinct_added (other ∷ entries) entry h n =
    let parts = or_parts _ _ n in
    (Each-append _ entries (entry ∷ []) h.0 ((same_id-turned other.packet.id entry.packet.id ∙ parts.0), tt), distinct_added entries entry h.1 parts.1)

logged_answers_added : (entries : List Entry) (entry : Entry) (values : Values)
    → logged_answers (entries ++ entry ∷ []) values ≡ logged_answers entries values ++ served_at entry (reached entries values) ∷ []
logged_answers_added [] entry values = refl
logged_answers_added (other ∷ entries) entry values =
    ap (λ t. served_at other values ∷ t) (logged_answers_added entries entry (left_after other.packet.body other.writes values))

reached_added : (entries : List Entry) (entry : Entry) (values : Values)
    → reached (entries ++ entry ∷ []) values ≡ left_after entry.packet.body entry.writes (reached entries values)
reached_added [] entry values = refl
reached_added (other ∷ entries) entry values = reached_added entries entry (left_after other.packet.body other.writes values)

has_id_added : (id : TxnId) (entries : List Entry) (entry : Entry)
    → has_id id (entries ++ entry ∷ []) ≡ (has_id id entries || (same_id id entry.packet.id || false))
has_id_added id entries entry = list_any-append (λ d. same_id id d.packet.id) entries (entry ∷ [])

module _ (all : Plain) (kind : TxnId → Bool) (packets : List ShardPacket) (values : Values) (seen decided : List TxnId) (at : Place) (asker : ClientId) (id : TxnId) (body : Body) (writes : List Write) (status : Status) (state : StoreState) (entries : List Entry) where
  abbrev pub arrived : ShardPacket
  arrived = record { at = at; asker = asker; id = id; body = body }

  abbrev pub point_before : Point
  point_before = record { all = all; kind = kind; rest = arrived ∷ packets; reached = values; seen = seen; decided = decided }

  abbrev pub point_after : Point
  point_after =
      record { all = all; kind = kind; rest = packets; reached = left_after body writes values; seen = id ∷ seen; decided = decided }

  abbrev it : Entry
  it = entry_of at asker id body writes status

  abbrev later : List Served
  later = plain_run (left_after body writes values) (id ∷ seen) decided packets

  -- one more transaction comes, which hasn't acted
  pub enqueued : (recorded : TxnId → Phase → Option Answer) → Fit point_before state entries → has_id id entries ≡ false
      → has_acted status ≡ false
      → Each (EntryFit kind packets recorded state.decided) entries
      → EntryFit kind packets recorded state.decided (entry_of at asker id body writes status)
      → ((other_id : TxnId) (phase : Phase) (answer : Answer) → recorded other_id phase ≡ Some answer → Good all phase other_id answer)
      → ((other_id : TxnId) (phase : Phase) → is_known (recorded other_id phase) ≡ true → has_id other_id (entries ++ entry_of at asker id body writes status ∷ []) ≡ true)
      → ((other_id : TxnId) (answer : Answer) → state.decided other_id ≡ Some answer → (answer ≡ Aborted) ⊎ (is_known (recorded other_id Phase.Prelim) ≡ true))
      → ((other_id : TxnId) → outcome_in other_id (arrived ∷ packets) ≡ outcome_in other_id packets)
      → plain_run values seen decided (arrived ∷ packets) ≡ record { id = id; answer = answer_of body values } ∷ plain_run (left_after body writes values) (id ∷ seen) decided packets
      → plain_values values seen decided (arrived ∷ packets) ≡ plain_values (left_after body writes values) (id ∷ seen) decided packets
      → Fit point_after (record state { recorded = recorded }) (entries ++ entry_of at asker id body writes status ∷ [])
  enqueued recorded fit new idle each own sound logged ruled passes next last = record {
    values = λ x. fit.values x ∙ sym (current-append x entries (it ∷ []) None ∙ cond-false _ _ _ (not_complete status idle));
    order = order_added conflict entries it fit.order idle;
    each = Each-append _ entries (it ∷ []) each (own, tt);
    distinct = distinct_added entries it fit.distinct new;
    holding =
        λ p. fit.holding p ∙ sym (any_holding_in entries it [] p ∙ (ap (λ t. list_any p (holding_in entries) || list_any p t) (cond-false _ _ _ (not_holding status idle)) ∙ or_none _));
    sound = sound;
    logged = logged;
    linked = fit.linked ∙ (ap (λ t. logged_answers entries no_values ++ t) next
        ∙ (ap (λ v. logged_answers entries no_values ++ record { id = id; answer = answer_of body v } ∷ later) (sym fit.reaches)
        ∙ (sym (append_assoc (logged_answers entries no_values) (served_at it (reached entries no_values) ∷ []) later)
        ∙ ap (λ t. t ++ later) (sym (logged_answers_added entries it no_values)))));
    reaches = reached_added entries it no_values ∙ ap (left_after body writes) fit.reaches;
    seen_is =
        λ other_id. ap (λ t. same_id other_id id || t) (fit.seen_is other_id) ∙ (or_added (same_id other_id id) (has_id other_id entries) ∙ sym (has_id_added other_id entries it));
    decided_is = fit.decided_is;
    ends = fit.ends ∙ last;
    told = fit.told;
    untold = λ other_id n. fit.untold other_id n ∙ passes other_id;
    ruled = ruled;
  }

pub writes_pass : (other_id : TxnId) (at : Place) (asker : ClientId) (id : TxnId) (body : Body) (packets : List ShardPacket)
    → is_conclusory body ≡ false
    → writes_in other_id (record { at = at; asker = asker; id = id; body = body } ∷ packets) ≡ writes_in other_id packets
writes_pass other_id at asker id (Independent ops) packets h = refl
writes_pass other_id at asker id (Prelim ls) packets h = refl
writes_pass other_id at asker id (Commit keys writes) packets h = cc
writes_pass other_id at asker id (Abort keys) packets h = cc

pub outcome_passes : (other_id : TxnId) (at : Place) (asker : ClientId) (id : TxnId) (body : Body) (packets : List ShardPacket)
    → is_conclusory body ≡ false
    → outcome_in other_id (record { at = at; asker = asker; id = id; body = body } ∷ packets) ≡ outcome_in other_id packets
outcome_passes other_id at asker id (Independent ops) packets h = refl
outcome_passes other_id at asker id (Prelim ls) packets h = refl
outcome_passes other_id at asker id (Commit keys writes) packets h = cc
outcome_passes other_id at asker id (Abort keys) packets h = cc

pub phase_is : (body : Body) → is_conclusory body ≡ false → phase_of body ≡ cond (is_prelim body) Phase.Prelim Phase.Whole
phase_is (Independent ops) h = refl
phase_is (Prelim ls) h = refl
phase_is (Commit keys writes) h = cc
phase_is (Abort keys) h = cc

phase_from : (body other_body : Body) → is_conclusory body ≡ false → is_conclusory other_body ≡ false
    → is_prelim body ≡ is_prelim other_body → phase_of body ≡ phase_of other_body
phase_from body other_body h k e = phase_is body h ∙ (ap (λ t. cond t Phase.Prelim Phase.Whole) e ∙ sym (phase_is other_body k))

-- the rest of the list is shorter
pub fit_rest : (kind : TxnId → Bool) (rest rest' : List ShardPacket) (recorded : TxnId → Phase → Option Answer) (decided decided' : TxnId → Option Answer) (entry : Entry)
    → (is_open entry.status ≡ true → is_prelim entry.packet.body ≡ true → decided entry.packet.id ≡ None → (decided' entry.packet.id ≡ None) × (writes_in entry.packet.id rest ≡ writes_in entry.packet.id rest'))
    → EntryFit kind rest recorded decided entry → EntryFit kind rest' recorded decided' entry
fit_rest kind rest rest' recorded decided decided' entry h f = record {
  lawful = f.lawful;
  plain = f.plain;
  kind_is = f.kind_is;
  known = f.known;
  undecided = λ o p. (h o p (f.undecided o p)).0;
  writes_to_come = λ o p. f.writes_to_come o p ∙ (h o p (f.undecided o p)).1;
  holder = f.holder;
}

waits_logged : (id : TxnId) (entries : List Entry) → waits id (waiting_in entries) ≡ true → has_id id entries ≡ true
waits_logged id [] h = h
waits_logged id (entry ∷ entries) h = by_test (is_waiting entry.status) h (waits_logged id entries)
  where
    by_test : (test : Bool) → waits id (cond test (entry.packet ∷ waiting_in entries) (waiting_in entries)) ≡ true
        → (waits id (waiting_in entries) ≡ true → has_id id entries ≡ true) → has_id id (entry ∷ entries) ≡ true
    by_test true k ih = split (or_cases _ _ k)
      where
        split : ((same_id id entry.packet.id ≡ true) ⊎ (waits id (waiting_in entries) ≡ true)) → has_id id (entry ∷ entries) ≡ true
        split (inl q) = or_left _ _ q
        split (inr q) = or_right _ _ (ih q)
    by_test false k ih = or_right _ _ (ih k)

-- what is neither recorded nor waiting is new
is_new : (kind : TxnId → Bool) (rest : List ShardPacket) (recorded : TxnId → Phase → Option Answer) (decided : TxnId → Option Answer) (id : TxnId) (body : Body) (entries : List Entry)
    → is_conclusory body ≡ false → is_prelim body ≡ kind id → recorded id (phase_of body) ≡ None
    → Each (EntryFit kind rest recorded decided) entries → waits id (waiting_in entries) ≡ false → has_id id entries ≡ false
is_new kind rest recorded decided id body [] p k n f w = refl
is_new kind rest recorded decided id body (entry ∷ entries) p k n f w =
    by_tests (cases_Bool (same_id id entry.packet.id)) (cases_Bool (is_waiting entry.status))
    (is_new kind rest recorded decided id body entries p k n f.1)
  where
    by_tests : ((same_id id entry.packet.id ≡ true) ⊎ (same_id id entry.packet.id ≡ false))
        → ((is_waiting entry.status ≡ true) ⊎ (is_waiting entry.status ≡ false))
        → (waits id (waiting_in entries) ≡ false → has_id id entries ≡ false) → has_id id (entry ∷ entries) ≡ false
    by_tests (inl q) (inl t) ih = absurd (both_ways _ (or_parts _ _ (ap (waits id) (sym (cond-true _ _ _ t)) ∙ w)).0 q)
    by_tests (inl q) (inr t) ih =
        let same : id ≡ entry.packet.id = same_id-true id entry.packet.id q in
        let phases : phase_of body ≡ phase_of entry.packet.body = phase_from body entry.packet.body p f.0.plain (k ∙ (ap kind same ∙ sym f.0.kind_is)) in
        let known : is_known (recorded id (phase_of body)) ≡ true = rw (same, phases) (f.0.known t) in
        absurd (both_ways _ (ap is_known n) known)
    by_tests (inr q) (inl t) ih = or_from _ _ q (ih (or_parts _ _ (ap (waits id) (sym (cond-true _ _ _ t)) ∙ w)).1)
    by_tests (inr q) (inr t) ih = or_from _ _ q (ih (ap (waits id) (sym (cond-false _ _ _ t)) ∙ w))

left_at_none : (body : Body) (key : Key) (value : Option ℕ) → is_prelim body ≡ true → left_at body [] key value ≡ value
left_at_none (Independent ops) key value h = cc
left_at_none (Prelim ls) key value h = refl
left_at_none (Commit keys writes) key value h = refl
left_at_none (Abort keys) key value h = refl

left_at_any : (body : Body) (own_writes ys : List Write) (key : Key) (value : Option ℕ) → is_prelim body ≡ false
    → left_at body own_writes key value ≡ left_at body ys key value
left_at_any (Independent ops) own_writes ys key value h = refl
left_at_any (Prelim ls) own_writes ys key value h = cc
left_at_any (Commit keys writes) own_writes ys key value h = refl
left_at_any (Abort keys) own_writes ys key value h = refl

pub none_from : (found : Option Answer) → is_decided found ≡ false → found ≡ None
none_from None h = refl
none_from (Some a) h = cc

and_right_false : {a b : Bool} → a ≡ true → (a && b) ≡ false → b ≡ false
and_right_false {a} {b} h k = ap (λ t. t && b) (sym h) ∙ k

-- after a step, at some next point
pub record Next (all : Plain) (kind : TxnId → Bool) (packets : List ShardPacket) (stepped : Stepped) : Type 0 where
  pub reached_now : Values
  pub seen_now : List TxnId
  pub decided_now : List TxnId
  pub right : Right (record { all = all; kind = kind; rest = packets; reached = reached_now; seen = seen_now; decided = decided_now }) stepped

module _ (all : Plain) (kind : TxnId → Bool) (packets : List ShardPacket) (values : Values) (seen concluded : List TxnId) (at : Place) (asker : ClientId) (id : TxnId) (body : Body) (state : StoreState) (entries : List Entry)
    (plain : is_conclusory body ≡ false) (kind_is : is_prelim body ≡ kind id)
    (kept : (key : Key) (value : Option ℕ) → alters key (locks_of body) ≡ false → effect (entry_of at asker id body (writes_in id packets) Waits) key value ≡ value)
    (fit : Fit (point_before all kind packets values seen concluded at asker id body (writes_in id packets) Waits state entries) state entries)
    (waiting : state.waiting ≡ waiting_in entries) where
  abbrev newcomer : ShardPacket
  newcomer = record { at = at; asker = asker; id = id; body = body }

  run_skips : is_among id seen ≡ true
      → plain_run values seen concluded (newcomer ∷ packets) ≡ plain_run values seen concluded packets
  run_skips h = rw (plain, h, plain_run) refl

  abbrev granted : List Write
  granted = cond (is_among id concluded) [] (writes_in id packets)

  run_takes : is_among id seen ≡ false
      → plain_run values seen concluded (newcomer ∷ packets) ≡ record { id = id; answer = answer_of body values } ∷ plain_run (left_after body granted values) (id ∷ seen) concluded packets
  run_takes h = rw (plain, h, plain_run) refl

  values_take : is_among id seen ≡ false
      → plain_values values seen concluded (newcomer ∷ packets) ≡ plain_values (left_after body granted values) (id ∷ seen) concluded packets
  values_take h = rw (plain, h, plain_values) refl

  values_skip : is_among id seen ≡ true
      → plain_values values seen concluded (newcomer ∷ packets) ≡ plain_values values seen concluded packets
  values_skip h = rw (plain, h, plain_values) refl

  each_on : Each (EntryFit kind packets state.recorded state.decided) entries
  each_on =
      Each-weaker _ _
      (λ e f. fit_rest kind (newcomer ∷ packets) packets state.recorded state.decided state.decided e (λ o p n. (n, writes_pass e.packet.id at asker id body packets plain)) f)
      entries fit.each

  -- one that comes again changes nothing
  again : has_id id entries ≡ true
      → Fit (record { all = all; kind = kind; rest = packets; reached = values; seen = seen; decided = concluded }) state entries
  again h = record {
    values = fit.values;
    order = fit.order;
    each = each_on;
    distinct = fit.distinct;
    holding = fit.holding;
    sound = fit.sound;
    logged = fit.logged;
    linked = fit.linked ∙ ap (λ t. logged_answers entries no_values ++ t) (run_skips (fit.seen_is id ∙ h));
    reaches = fit.reaches;
    seen_is = fit.seen_is;
    decided_is = fit.decided_is;
    ends = fit.ends ∙ values_skip (fit.seen_is id ∙ h);
    told = fit.told;
    untold = λ i n. fit.untold i n ∙ outcome_passes i at asker id body packets plain;
    ruled = fit.ruled;
  }

  kept_granted : (key : Key) (value : Option ℕ) → alters key (locks_of body) ≡ false → left_at body granted key value ≡ value
  kept_granted key value a = by_kind (cases_Bool (is_prelim body)) (cases_Bool (is_among id concluded))
    where
      by_kind : ((is_prelim body ≡ true) ⊎ (is_prelim body ≡ false))
          → ((is_among id concluded ≡ true) ⊎ (is_among id concluded ≡ false)) → left_at body granted key value ≡ value
      by_kind (inl p) (inl t) = ap (λ w. left_at body w key value) (cond-true _ _ _ t) ∙ left_at_none body key value p
      by_kind (inl p) (inr t) = ap (λ w. left_at body w key value) (cond-false _ _ _ t) ∙ kept key value a
      by_kind (inr p) t = left_at_any body granted (writes_in id packets) key value p ∙ kept key value a

  queued : has_id id entries ≡ false → (is_prelim body && is_decided (state.decided id)) ≡ false
      → Fit (point_after all kind packets values seen concluded at asker id body granted Waits state entries) state (entries ++ entry_of at asker id body granted Waits ∷ [])
  queued new free =
      enqueued all kind packets values seen concluded at asker id body granted Waits state entries state.recorded fit new refl each_on
      (record {
        lawful = record { kept = kept_granted; void = λ value. absurd (cc) };
        plain = plain;
        kind_is = kind_is;
        known = λ w. absurd (cc);
        undecided = λ o p. none_from (state.decided id) (and_right_false p free);
        writes_to_come = λ o p. cond-false _ _ _ (fit.decided_is id ∙ and_right_false p free);
        holder = λ h. absurd (cc);
      })
      fit.sound
      (λ i q k. has_id_added i entries (entry_of at asker id body granted Waits) ∙ or_left _ _ (fit.logged i q k))
      fit.ruled (λ i. outcome_passes i at asker id body packets plain)
      (run_takes (fit.seen_is id ∙ new)) (values_take (fit.seen_is id ∙ new))

  -- a new preliminary whose id is decided was decided Aborted
  aborted : state.recorded id (phase_of body) ≡ None → is_prelim body ≡ true → (found : Option Answer) → state.decided id ≡ found
      → is_decided found ≡ true → all.outcome id ≡ Some Aborted
  aborted r p None d k = absurd (both_ways _ refl k)
  aborted r p (Some a) d k = by_rule (fit.ruled id a d)
    where
      by_rule : ((a ≡ Aborted) ⊎ (is_known (state.recorded id Phase.Prelim) ≡ true)) → all.outcome id ≡ Some Aborted
      by_rule (inl q) = fit.told id a d ∙ ap Some q
      by_rule (inr q) = absurd (both_ways _ (ap is_known r) (rw (phase_is body plain, p) q))

  good_aborted : state.recorded id (phase_of body) ≡ None → is_prelim body ≡ true → is_decided (state.decided id) ≡ true
      → Good all (phase_of body) id Aborted
  good_aborted r p k = rw (phase_is body plain, p) (inr (refl, aborted r p (state.decided id) refl k))

  voided : state.recorded id (phase_of body) ≡ None → has_id id entries ≡ false
      → (is_prelim body && is_decided (state.decided id)) ≡ true
      → Fit (point_after all kind packets values seen concluded at asker id body granted Void state entries) (record state { recorded = note state.recorded id (phase_of body) Aborted }) (entries ++ entry_of at asker id body granted Void ∷ [])
  voided r new shut =
      let parts = and_parts _ _ shut in
      enqueued all kind packets values seen concluded at asker id body granted Void state entries (note state.recorded id (phase_of body) Aborted) fit new refl
      (Each-weaker _ _ (λ e f. fit_noted kind packets state.recorded state.decided id (phase_of body) Aborted e f) entries each_on)
      (record {
        lawful =
            record { kept = kept_granted; void = λ value key w. ap (λ t. left_at body t key w) (cond-true _ _ _ (fit.decided_is id ∙ parts.1)) ∙ left_at_none body key w parts.0 };
        plain = plain;
        kind_is = kind_is;
        known = λ w. known_here state.recorded id (phase_of body) Aborted;
        undecided = λ o. absurd (cc);
        writes_to_come = λ o. absurd (cc);
        holder = λ h. absurd (cc);
      })
      (sound_noted all state.recorded id (phase_of body) Aborted fit.sound (good_aborted r parts.0 parts.1))
      (logged_noted state.recorded (phase_of body) Aborted entries (entry_of at asker id body granted Void) []
      (λ i q k. has_id_added i entries (entry_of at asker id body granted Void) ∙ or_left _ _ (fit.logged i q k)))
      (ruled_noted state.recorded state.decided id (phase_of body) Aborted fit.ruled) (λ i. outcome_passes i at asker id body packets plain)
      (run_takes (fit.seen_is id ∙ new)) (values_take (fit.seen_is id ∙ new))

  by_blocked : has_id id entries ≡ false → (is_prelim body && is_decided (state.decided id)) ≡ false → (test : Bool)
      → blocked state.holding state.waiting (locks_of body) ≡ test → Next all kind packets (arrive_new state newcomer)
  by_blocked new free true k = rw (free, k, arrive_new) (record {
    reached_now = left_after body granted values;
    seen_now = id ∷ seen;
    decided_now = concluded;
    right = record {
      log = entries ++ entry_of at asker id body granted Waits ∷ [];
      fit =
          rewait (point_after all kind packets values seen concluded at asker id body granted Waits state entries) state
          (state.waiting ++ newcomer ∷ []) (entries ++ entry_of at asker id body granted Waits ∷ []) (queued new free);
      waiting =
          ap (λ test. test ++ newcomer ∷ []) waiting
          ∙ sym (waiting_in-append entries (entry_of at asker id body granted Waits ∷ []));
      good = tt;
    };
  })
  by_blocked new free false k =
      let a = act (point_after all kind packets values seen concluded at asker id body granted Waits state entries) state entries at asker id body granted [] (queued new free) (subst (λ (list : List ShardPacket). blocked state.holding list (locks_of body) ≡ false) waiting k) in
      rw (free, k, arrive_new) (record {
        reached_now = left_after body granted values;
        seen_now = id ∷ seen;
        decided_now = concluded;
        right = record {
          log = entries ++ acted at asker id body granted ∷ [];
          fit = a.0;
          waiting = passed entries (acted at asker id body granted) state.waiting waiting (acts_on body);
          good = (a.1, tt);
        };
      })

  by_decided : state.recorded id (phase_of body) ≡ None → has_id id entries ≡ false → (test : Bool)
      → (is_prelim body && is_decided (state.decided id)) ≡ test → Next all kind packets (arrive_new state newcomer)
  by_decided r new true k = rw (k, arrive_new) (record {
    reached_now = left_after body granted values;
    seen_now = id ∷ seen;
    decided_now = concluded;
    right = record {
      log = entries ++ entry_of at asker id body granted Void ∷ [];
      fit = voided r new k;
      waiting = passed entries (entry_of at asker id body granted Void) state.waiting waiting refl;
      good = (good_aborted r (and_parts _ _ k).0 (and_parts _ _ k).1, tt);
    };
  })
  by_decided r new false k = by_blocked new k (blocked state.holding state.waiting (locks_of body)) refl

  by_waits : (test : Bool) → waits id state.waiting ≡ test → state.recorded id (phase_of body) ≡ None
      → Next all kind packets (arrive state newcomer)
  by_waits true k h = rw (h, k, arrive) (record {
    reached_now = values;
    seen_now = seen;
    decided_now = concluded;
    right = record {
      log = entries;
      fit = again (waits_logged id entries (ap (waits id) (sym waiting) ∙ k));
      waiting = waiting;
      good = tt;
    };
  })
  by_waits false k h =
      rw (h, k, arrive) (by_decided h (is_new kind (newcomer ∷ packets) state.recorded state.decided id body entries plain kind_is h fit.each (ap (waits id) (sym waiting) ∙ k)) (is_prelim body && is_decided (state.decided id)) refl)

  by_record : (found : Option Answer) → state.recorded id (phase_of body) ≡ found → Next all kind packets (arrive state newcomer)
  by_record (Some a) h = rw (h, arrive) (record {
    reached_now = values;
    seen_now = seen;
    decided_now = concluded;
    right = record {
      log = entries;
      fit = again (fit.logged id (phase_of body) (ap is_known h));
      waiting = waiting;
      good = (fit.sound id (phase_of body) a h, tt);
    };
  })
  by_record None h = by_waits (waits id state.waiting) refl h

  -- A TRANSACTION COMES
  pub arrive_right : Next all kind packets (arrive state newcomer)
  arrive_right = by_record (state.recorded id (phase_of body)) refl
