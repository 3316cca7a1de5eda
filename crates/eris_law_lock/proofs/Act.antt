-- A packet that isn't blocked is executed, and answers as the plain run does.
use Rattle.eris_base.specs.declared.ids.ClientId.{ClientId}
use Rattle.eris_base.specs.declared.ids.Phase.{Phase}
use Rattle.eris_base.specs.declared.ids.Place.{Place}
use Rattle.eris_base.specs.declared.ids.TxnId.{TxnId}
use Rattle.eris_base.proofs.Each.{Each-changed, Each-left, Each-right, Each-weaker}
use Rattle.eris_law_lock.proofs.Fit.{EntryFit, Fit, Good, Point, SameSet, StandsIn-append_left, distinct_changed, entry_of, has_id_changed, holder_of, holding_in, holding_in-append, known_here, known_noted, logged_answers_changed, logged_answers_has, logged_noted, reached, reached_changed, read_answer, ruled_noted, sound_noted, unblocked, waiting_in}
use Rattle.eris_law_lock.proofs.Keys.{after_all_at, modes_conflict, on_key}
use Rattle.eris_law_lock.proofs.Log.{AllLawful, Complete, Entry, Holds, InOrder, LaterApart, Lawful, OpenApart, Status, Void, Waits, current, current-append, left_in_place, with_status}
use Rattle.eris_law_lock.proofs.Order.{order_changed, order_later}
use Rattle.eris_base.specs.Each.{Each}
use Rattle.eris_locks.specs.Law.{StandsIn}
use Rattle.eris_locks.specs.LockTable.{answer_of, execute, holding_after, values_after}
use Rattle.eris_locks.specs.Locks.{conflict, locks_of}
use Rattle.eris_locks.specs.ShardRun.{plain_run}
use Rattle.eris_locks.specs.States.{StoreState, blocked, note, phase_of}
use Rattle.eris_locks.specs.declared.held.Held.{Held}
use Rattle.eris_locks.specs.declared.shard_packet.ShardPacket.{ShardPacket}
use Rattle.eris_txn.specs.Keys.{no_values}
use Rattle.eris_txn.specs.declared.answer.Answer.{Answer}
use Rattle.eris_txn.specs.declared.body.Body.{Body}
use Rattle.eris_txn.specs.declared.body.Body.TheVariants.{Abort, Commit, Independent, Prelim}
use Rattle.eris_txn.specs.declared.key.Key.{Key}
use Rattle.eris_txn.specs.declared.plan.Write.{Write}
use Rattle.std.proofs.Common.{Bool, List, None, Option, [], ap, false, inl, refl, sym, true, ◌++◌, ◌||◌, ◌∙◌, ◌∷◌, ◌≡◌}
use Rattle.std.proofs.lemmas.List.Folds.{list_any-append}
use Rattle.std.specs.List.{list_any}

pub lawful_of : (kind : TxnId → Bool) (rest : List ShardPacket) (recorded : TxnId → Phase → Option Answer) (decided : TxnId → Option Answer) (entries : List Entry)
    → Each (EntryFit kind rest recorded decided) entries → AllLawful entries
lawful_of kind rest recorded decided entries h = Each-weaker _ Lawful (λ e f. f.lawful) entries h

-- an answer more is noted
pub fit_noted : (kind : TxnId → Bool) (rest : List ShardPacket) (recorded : TxnId → Phase → Option Answer) (decided : TxnId → Option Answer) (id : TxnId) (phase : Phase) (answer : Answer) (entry : Entry)
    → EntryFit kind rest recorded decided entry → EntryFit kind rest (note recorded id phase answer) decided entry
fit_noted kind rest recorded decided id phase answer entry f = record {
  lawful = f.lawful;
  plain = f.plain;
  kind_is = f.kind_is;
  known = λ w. known_noted recorded id phase answer entry.packet.id (phase_of entry.packet.body) (f.known w);
  undecided = f.undecided;
  writes_to_come = f.writes_to_come;
  holder = f.holder;
}

module _ (point : Point) (state : StoreState) (earlier : List Entry) (at : Place) (asker : ClientId) (id : TxnId) (body : Body) (writes : List Write) (following : List Entry)
    (fit : Fit point state (earlier ++ entry_of at asker id body writes Waits ∷ following)) (free : blocked state.holding (waiting_in earlier) (locks_of body) ≡ false) where
  abbrev it : Entry
  it = entry_of at asker id body writes Waits

  all_lawful : AllLawful (earlier ++ it ∷ following)
  all_lawful = lawful_of point.kind point.rest state.recorded state.decided (earlier ++ it ∷ following) fit.each

  lawful_before : AllLawful earlier
  lawful_before = Each-left Lawful earlier (it ∷ following) all_lawful

  lawful_after : AllLawful following
  lawful_after = (Each-right Lawful earlier (it ∷ following) all_lawful).1

  open_apart : OpenApart conflict earlier (locks_of body)
  open_apart = unblocked state.holding earlier (it ∷ following) (locks_of body) fit.holding free

  later_apart : LaterApart conflict (locks_of body) following
  later_apart = order_later conflict earlier it following fit.order refl

  own : EntryFit point.kind point.rest state.recorded state.decided it
  own = (Each-right (EntryFit point.kind point.rest state.recorded state.decided) earlier (it ∷ following) fit.each).0

  pub act_answer : answer_of body state.values ≡ answer_of body (reached earlier no_values)
  act_answer =
      read_answer earlier at asker id body writes following state.values fit.values lawful_before lawful_after open_apart
      later_apart

  in_table : StandsIn (record { id = id; answer = answer_of body state.values }) point.all.run
  in_table = rw (act_answer, fit.linked) (StandsIn-append_left _ _ _ (logged_answers_has earlier it following no_values))

  act_values : (status : Status)
      → ((key : Key) → values_after body state.values key ≡ current key (earlier ++ with_status status it ∷ following) None)
      → InOrder conflict (earlier ++ with_status status it ∷ following)
      → SameSet (holding_after id body state.holding) (holding_in (earlier ++ with_status status it ∷ following))
      → Good point.all (phase_of body) id (answer_of body state.values)
      → EntryFit point.kind point.rest (note state.recorded id (phase_of body) (answer_of body state.values)) state.decided (with_status status it)
      → Fit point (execute state it.packet) (earlier ++ with_status status it ∷ following)
  act_values status v o h g e = record {
    values = v;
    order = o;
    each =
        Each-changed _ earlier it (with_status status it) following
        (Each-weaker _ _ (fit_noted point.kind point.rest state.recorded state.decided id (phase_of body) (answer_of body state.values)) (earlier ++ it ∷ following) fit.each)
        e;
    distinct = distinct_changed earlier it following status fit.distinct;
    holding = h;
    sound = sound_noted point.all state.recorded id (phase_of body) (answer_of body state.values) fit.sound g;
    logged =
        λ i q k. has_id_changed i earlier it following status ∙ logged_noted state.recorded (phase_of body) (answer_of body state.values) earlier it following fit.logged i q k;
    linked =
        fit.linked
        ∙ ap (λ t. t ++ plain_run point.reached point.seen point.decided point.rest) (sym (logged_answers_changed earlier it following status no_values));
    reaches = reached_changed earlier it following status no_values ∙ fit.reaches;
    seen_is = λ i. fit.seen_is i ∙ sym (has_id_changed i earlier it following status);
    decided_is = fit.decided_is;
    ends = fit.ends;
    told = fit.told;
    untold = fit.untold;
    ruled = ruled_noted state.recorded state.decided id (phase_of body) (answer_of body state.values) fit.ruled;
  }

or_last : (a b h : Bool) → ((a || b) || (h || false)) ≡ (a || (h || b))
or_last true b h = refl
or_last false true true = refl
or_last false true false = refl
or_last false false true = refl
or_last false false false = refl

pub any_holding_in : (earlier : List Entry) (entry : Entry) (following : List Entry) (p : Held → Bool)
    → list_any p (holding_in (earlier ++ entry ∷ following)) ≡ (list_any p (holding_in earlier) || list_any p (holding_in (entry ∷ following)))
any_holding_in earlier entry following p =
    ap (list_any p) (holding_in-append earlier (entry ∷ following))
    ∙ list_any-append p (holding_in earlier) (holding_in (entry ∷ following))

-- how an executed one goes on
abbrev pub acts : Body → Status
acts (Independent ops) = Complete
acts (Prelim ls) = Holds
acts (Commit keys writes) = Void
acts (Abort keys) = Void

abbrev pub acted : Place → ClientId → TxnId → Body → List Write → Entry
acted at asker id body writes = with_status (acts body) (entry_of at asker id body writes Waits)

-- ONE THAT ISN'T BLOCKED IS EXECUTED
pub act : (point : Point) (state : StoreState) (earlier : List Entry) (at : Place) (asker : ClientId) (id : TxnId) (body : Body) (own_writes : List Write) (following : List Entry)
    → Fit point state (earlier ++ entry_of at asker id body own_writes Waits ∷ following)
    → blocked state.holding (waiting_in earlier) (locks_of body) ≡ false
    → Fit point (execute state (record { at = at; asker = asker; id = id; body = body })) (earlier ++ acted at asker id body own_writes ∷ following)
    × Good point.all (phase_of body) id (answer_of body state.values)
act point state earlier at asker id (Independent ops) own_writes following fit free =
    let it = entry_of at asker id (Independent ops) own_writes Waits in
    let good = in_table point state earlier at asker id (Independent ops) own_writes following fit free in
    let mine = own point state earlier at asker id (Independent ops) own_writes following fit free in
    let apart = open_apart point state earlier at asker id (Independent ops) own_writes following fit free in (
      act_values point state earlier at asker id (Independent ops) own_writes following fit free Complete
          (λ x. after_all_at ops state.values x
          ∙ (ap (on_key ops x) (fit.values x)
          ∙ sym (left_in_place conflict modes_conflict earlier it following x None (lawful_after point state earlier at asker id (Independent ops) own_writes following fit free) (later_apart point state earlier at asker id (Independent ops) own_writes following fit free) mine.lawful refl)))
          (order_changed conflict earlier it following Complete fit.order refl (λ k. apart))
          (λ p. fit.holding p ∙ (any_holding_in earlier it following p ∙ sym (any_holding_in earlier (with_status Complete it) following p)))
          good
          (record {
            lawful = record { kept = mine.lawful.kept; void = λ v. absurd (cc) };
            plain = refl;
            kind_is = mine.kind_is;
            known = λ w. known_here state.recorded id Phase.Whole (answer_of (Independent ops) state.values);
            undecided = λ o. absurd (cc);
            writes_to_come = λ o. absurd (cc);
            holder = λ o. absurd (cc);
          }),
      good,
    )
act point state earlier at asker id (Prelim ls) own_writes following fit free =
    let it = entry_of at asker id (Prelim ls) own_writes Waits in
    let good = in_table point state earlier at asker id (Prelim ls) own_writes following fit free in
    let mine = own point state earlier at asker id (Prelim ls) own_writes following fit free in
    let apart = open_apart point state earlier at asker id (Prelim ls) own_writes following fit free in (
      act_values point state earlier at asker id (Prelim ls) own_writes following fit free Holds
          (λ x. fit.values x ∙ (current-append x earlier (it ∷ following) None ∙ sym (current-append x earlier (with_status Holds it ∷ following) None)))
          (order_changed conflict earlier it following Holds fit.order refl (λ k. apart))
          (λ p. list_any-append p state.holding (holder_of it ∷ [])
          ∙ (ap (λ body. body || (p (holder_of it) || false)) (fit.holding p ∙ any_holding_in earlier it following p)
          ∙ or_last (list_any p (holding_in earlier)) (list_any p (holding_in following)) (p (holder_of it)) ∙ sym (any_holding_in earlier (with_status Holds it) following p)))
          (inl good)
          (record {
            lawful = record { kept = mine.lawful.kept; void = λ v. absurd (cc) };
            plain = refl;
            kind_is = mine.kind_is;
            known = λ w. known_here state.recorded id Phase.Prelim (answer_of (Prelim ls) state.values);
            undecided = λ o. mine.undecided refl;
            writes_to_come = λ o. mine.writes_to_come refl;
            holder = λ o. refl;
          }),
      inl good,
    )
act point state earlier at asker id (Commit keys writes) own_writes following fit free =
    absurd (no (own point state earlier at asker id (Commit keys writes) own_writes following fit free).plain)
  where
    no : true ≡ false → ⊥
    no e = cc
act point state earlier at asker id (Abort keys) own_writes following fit free =
    absurd (no (own point state earlier at asker id (Abort keys) own_writes following fit free).plain)
  where
    no : true ≡ false → ⊥
    no e = cc
