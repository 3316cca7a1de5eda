-- The step of a Commit or an Abort.
use Rattle.eris_base.specs.declared.ids.ClientId.{ClientId}
use Rattle.eris_base.specs.declared.ids.Phase.{Phase}
use Rattle.eris_base.specs.declared.ids.Place.{Place}
use Rattle.eris_base.specs.declared.ids.TxnId.{TxnId}
use Rattle.eris_law_lock.proofs.Act.{any_holding_in, fit_noted, lawful_of}
use Rattle.eris_law_lock.proofs.Arrive.{Next, fit_rest, phase_is}
use Rattle.eris_base.proofs.Each.{Each-append, Each-left, Each-right, Each-weaker, Each-with, Each-any}
use Rattle.eris_law_lock.proofs.Fit.{Distinct, EntryFit, Fit, Good, Plain, Point, distinct_changed, entry_of, has_id_changed, holder_of, holding_in, is_holding, is_known, is_waiting, known_here, logged_answers, logged_answers_changed, logged_noted, reached_changed, ruled_noted, sound_noted, waiting_in, waiting_in-append}
use Rattle.eris_base.proofs.TxnIdLaws.{same_id-from, same_id-true, same_id-turned}
use Rattle.eris_law_lock.proofs.Keys.{modes_conflict, put_on, written_at}
use Rattle.eris_law_lock.proofs.Log.{Complete, Entry, Holds, Lawful, Status, Void, Waits, current, current-append, is_open, left_at, left_in_place, with_status}
use Rattle.eris_law_lock.proofs.Order.{order_before, order_changed, order_later}
use Rattle.eris_law_lock.proofs.Prelims.{each_aborted_late, prelim_phase}
use Rattle.eris_law_lock.proofs.Release.{GoodDone, Right, release_right}
use Rattle.eris_base.specs.Each.{Each}
use Rattle.eris_locks.specs.LockTable.{Stepped, aborted_late, all_also, also, conclude, conclude_first, done, release}
use Rattle.eris_locks.specs.Locks.{conflict}
use Rattle.eris_locks.specs.ShardRun.{outcome_in, plain_run, plain_values, writes_in}
use Rattle.eris_locks.specs.States.{StoreState, decide, holds, is_conclusory, is_prelim, is_prelim_of, no_longer_holding, no_longer_waiting, note, phase_of}
use Rattle.eris_base.specs.TxnIds.{is_among, same_id}
use Rattle.eris_locks.specs.declared.done.Done.{Done}
use Rattle.eris_locks.specs.declared.held.Held.{Held}
use Rattle.eris_locks.specs.declared.shard_packet.ShardPacket.{ShardPacket}
use Rattle.eris_txn.specs.Keys.{Values, no_values}
use Rattle.eris_txn.specs.Operations.{after}
use Rattle.eris_txn.specs.Plans.{written}
use Rattle.eris_txn.specs.declared.answer.Answer.{Answer}
use Rattle.eris_txn.specs.declared.answer.Answer.TheVariants.{Aborted}
use Rattle.eris_txn.specs.declared.body.Body.{Body}
use Rattle.eris_txn.specs.declared.body.Body.TheVariants.{Abort, Commit, Independent, Prelim}
use Rattle.eris_txn.specs.declared.key.Key.{Key}
use Rattle.eris_txn.specs.declared.plan.Write.{Write}
use Rattle.std.proofs.Common.{Bool, List, None, Option, Some, [], ap, cond, false, inl, inr, not, refl, subst, sym, true, ℕ, ◌&&◌, ◌++◌, ◌||◌, ◌∙◌, ◌∷◌, ◌≡◌, ◌⊎◌}
use Rattle.std.proofs.lemmas.Bool.{and_parts, both_ways, cases_Bool, cond-false, cond-true, or_cases, or_left, or_parts}
use Rattle.std.proofs.lemmas.List.Elements.{filter-append}
use Rattle.std.specs.List.{filter, list_any}

any_filter : {X : Type 0} (p q : X → Bool) (xs : List X) → list_any p (filter q xs) ≡ list_any (λ x. q x && p x) xs
any_filter p q [] = refl
any_filter p q (x ∷ xs) = by_test (q x) (any_filter p q xs)
  where
    by_test : (test : Bool) → list_any p (filter q xs) ≡ list_any (λ x. q x && p x) xs
        → list_any p (cond test (x ∷ filter q xs) (filter q xs)) ≡ ((test && p x) || list_any (λ x. q x && p x) xs)
    by_test true h = ap (λ u. p x || u) h
    by_test false h = h

abbrev pub Other : TxnId → Entry → Type 0
Other id entry = same_id id entry.packet.id ≡ false

any_others : (id : TxnId) (p : Held → Bool) (entries : List Entry) → Each (Other id) entries
    → list_any (λ h. not (same_id id h.id) && p h) (holding_in entries) ≡ list_any p (holding_in entries)
any_others id p [] h = refl
any_others id p (entry ∷ entries) h = by_test (is_holding entry.status) (any_others id p entries h.1)
  where
    by_test : (test : Bool) → list_any (λ h. not (same_id id h.id) && p h) (holding_in entries) ≡ list_any p (holding_in entries)
        → list_any (λ h. not (same_id id h.id) && p h) (cond test (holder_of entry ∷ holding_in entries) (holding_in entries)) ≡ list_any p (cond test (holder_of entry ∷ holding_in entries) (holding_in entries))
    by_test true ih = rw h.0 (ap (λ u. p (holder_of entry) || u) ih)
    by_test false ih = ih

kept_others : (id : TxnId) (entries : List Entry) → Each (Other id) entries
    → no_longer_waiting id (waiting_in entries) ≡ waiting_in entries
kept_others id [] h = refl
kept_others id (entry ∷ entries) h = by_test (is_waiting entry.status) (kept_others id entries h.1)
  where
    by_test : (test : Bool) → no_longer_waiting id (waiting_in entries) ≡ waiting_in entries
        → no_longer_waiting id (cond test (entry.packet ∷ waiting_in entries) (waiting_in entries)) ≡ cond test (entry.packet ∷ waiting_in entries) (waiting_in entries)
    by_test true ih = rw h.0 (ap (λ u. entry.packet ∷ u) ih)
    by_test false ih = ih

others_before : (earlier : List Entry) (entry : Entry) (following : List Entry) → Distinct (earlier ++ entry ∷ following)
    → Each (Other entry.packet.id) earlier
others_before [] entry following h = tt
others_before (other ∷ earlier) entry following h =
    (same_id-turned entry.packet.id other.packet.id ∙ (Each-right _ earlier (entry ∷ following) h.0).0, others_before earlier entry following h.1)

others_after : (earlier : List Entry) (entry : Entry) (following : List Entry) → Distinct (earlier ++ entry ∷ following)
    → Each (Other entry.packet.id) following
others_after [] entry following h = h.0
others_after (other ∷ earlier) entry following h = others_after earlier entry following h.1

-- where one of that id and status stands
pub record Found (id : TxnId) (status : Status) (entries : List Entry) : Type 0 where
  pub left : List Entry
  pub at : Place
  pub asker : ClientId
  pub body : Body
  pub writes : List Write
  pub right : List Entry
  pub is : entries ≡ left ++ entry_of at asker id body writes status ∷ right

abbrev found_here : (id : TxnId) (status : Status) (entry : Entry) (entries : List Entry) → id ≡ entry.packet.id
    → entry.status ≡ status → Found id status (entry ∷ entries)
found_here id status entry entries i s = record {
  left = [];
  at = entry.packet.at;
  asker = entry.packet.asker;
  body = entry.packet.body;
  writes = entry.writes;
  right = entries;
  is =
      ap (λ j. entry_of entry.packet.at entry.packet.asker j entry.packet.body entry.writes entry.status ∷ entries) (sym i)
      ∙ ap (λ t. entry_of entry.packet.at entry.packet.asker id entry.packet.body entry.writes t ∷ entries) s;
}

abbrev found_later : (id : TxnId) (status : Status) (entry : Entry) (entries : List Entry) → Found id status entries
    → Found id status (entry ∷ entries)
found_later id status entry entries f =
    record { left = entry ∷ f.left; at = f.at; asker = f.asker; body = f.body; writes = f.writes; right = f.right; is = ap (λ t. entry ∷ t) f.is }

holds_is : (status : Status) → is_holding status ≡ true → status ≡ Holds
holds_is Waits h = cc
holds_is Holds h = refl
holds_is Complete h = cc
holds_is Void h = cc

waits_is : (status : Status) → is_waiting status ≡ true → status ≡ Waits
waits_is Waits h = refl
waits_is Holds h = cc
waits_is Complete h = cc
waits_is Void h = cc

find_held : (id : TxnId) (entries : List Entry) → holds id (holding_in entries) ≡ true → Found id Holds entries
find_held id [] h = cc
find_held id (entry ∷ entries) h = by_test (cases_Bool (is_holding entry.status)) (find_held id entries)
  where
    by_test : ((is_holding entry.status ≡ true) ⊎ (is_holding entry.status ≡ false))
        → (holds id (holding_in entries) ≡ true → Found id Holds entries) → Found id Holds (entry ∷ entries)
    by_test (inl t) ih = split (or_cases _ _ (ap (holds id) (sym (cond-true _ _ _ t)) ∙ h))
      where
        split : ((same_id id entry.packet.id ≡ true) ⊎ (holds id (holding_in entries) ≡ true)) → Found id Holds (entry ∷ entries)
        split (inl q) = found_here id Holds entry entries (same_id-true _ _ q) (holds_is entry.status t)
        split (inr q) = found_later id Holds entry entries (ih q)
    by_test (inr t) ih = found_later id Holds entry entries (ih (ap (holds id) (sym (cond-false _ _ _ t)) ∙ h))

-- a waiting preliminary
pub record FoundPrelim (id : TxnId) (entries : List Entry) : Type 0 where
  pub found : Found id Waits entries
  pub prelim : is_prelim found.body ≡ true

find_waiting : (id : TxnId) (entries : List Entry) → list_any (is_prelim_of id) (waiting_in entries) ≡ true → FoundPrelim id entries
find_waiting id [] h = absurd (no h)
  where
    no : false ≡ true → ⊥
    no k = cc
find_waiting id (entry ∷ entries) h = by_test (cases_Bool (is_waiting entry.status)) (find_waiting id entries)
  where
    further : FoundPrelim id entries → FoundPrelim id (entry ∷ entries)
    further f = record { found = found_later id Waits entry entries f.found; prelim = f.prelim }

    by_test : ((is_waiting entry.status ≡ true) ⊎ (is_waiting entry.status ≡ false))
        → (list_any (is_prelim_of id) (waiting_in entries) ≡ true → FoundPrelim id entries) → FoundPrelim id (entry ∷ entries)
    by_test (inl t) ih = split (or_cases _ _ (ap (list_any (is_prelim_of id)) (sym (cond-true _ _ _ t)) ∙ h))
      where
        split : ((is_prelim_of id entry.packet ≡ true) ⊎ (list_any (is_prelim_of id) (waiting_in entries) ≡ true))
            → FoundPrelim id (entry ∷ entries)
        split (inl q) =
            record { found = found_here id Waits entry entries (same_id-true _ _ (and_parts _ _ q).0) (waits_is entry.status t); prelim = (and_parts _ _ q).1 }
        split (inr q) = further (ih q)
    by_test (inr t) ih = further (ih (ap (list_any (is_prelim_of id)) (sym (cond-false _ _ _ t)) ∙ h))

and_left_false : (a b : Bool) → b ≡ true → (a && b) ≡ false → a ≡ false
and_left_false true b h k = absurd (both_ways _ k h)
and_left_false false b h k = refl

none_head : (id : TxnId) (entry : Entry) (status : Status) (holding : List Held) (waiters : List ShardPacket)
    → holds id (cond (is_holding status) (holder_of entry ∷ holding) holding) ≡ false
    → list_any (is_prelim_of id) (cond (is_waiting status) (entry.packet ∷ waiters) waiters) ≡ false
    → (is_open status ≡ true → is_prelim entry.packet.body ≡ true → Other id entry) × (holds id holding ≡ false) × (list_any (is_prelim_of id) waiters ≡ false)
none_head id entry Waits holding waiters h w = ((λ o p. and_left_false _ _ p (or_parts _ _ w).0), h, (or_parts _ _ w).1)
none_head id entry Holds holding waiters h w = ((λ o p. (or_parts _ _ h).0), (or_parts _ _ h).1, w)
none_head id entry Complete holding waiters h w = ((λ o. absurd (both_ways _ refl o)), h, w)
none_head id entry Void holding waiters h w = ((λ o. absurd (both_ways _ refl o)), h, w)

-- no open preliminary has that id
none_open : (id : TxnId) (entries : List Entry) → holds id (holding_in entries) ≡ false
    → list_any (is_prelim_of id) (waiting_in entries) ≡ false
    → Each (λ entry. is_open entry.status ≡ true → is_prelim entry.packet.body ≡ true → Other id entry) entries
none_open id [] h w = tt
none_open id (entry ∷ entries) h w =
    let r = none_head id entry entry.status (holding_in entries) (waiting_in entries) h w in
    (r.0, none_open id entries r.1 r.2)

put_writes_by : (body : Body) → is_prelim body ≡ true → (own_writes : List Write) (key : Key) (value : Option ℕ)
    → left_at body own_writes key value ≡ put_on own_writes key value
put_writes_by (Independent ops) p own_writes key value = cc
put_writes_by (Prelim ls) p own_writes key value = refl
put_writes_by (Commit keys writes) p own_writes key value = cc
put_writes_by (Abort keys) p own_writes key value = cc

answered : (point : Point) (given : Done) (stepped : Stepped) → GoodDone point.all given → Right point stepped
    → Right point (also given stepped)
answered point given stepped g h = record { log = h.log; fit = h.fit; waiting = h.waiting; good = (g, h.good) }

answered_all : (point : Point) (dones : List Done) (stepped : Stepped) → Each (GoodDone point.all) dones → Right point stepped
    → Right point (all_also dones stepped)
answered_all point dones stepped g h =
    record { log = h.log; fit = h.fit; waiting = h.waiting; good = Each-append (GoodDone point.all) dones stepped.dones g h.good }

-- the late answer to a waiting preliminary that is aborted is right
late_good : (all : Plain) (id : TxnId) (waiter : ShardPacket) → all.outcome id ≡ Some Aborted → is_prelim_of id waiter ≡ true
    → Good all (phase_of waiter.body) waiter.id Aborted
late_good all id waiter out t =
    let parts = and_parts (same_id id waiter.id) (is_prelim waiter.body) t in
    subst (λ (phase : Phase). Good all phase waiter.id Aborted) (sym (prelim_phase waiter.body parts.1))
    (subst (λ (that_id : TxnId). Good all Phase.Prelim that_id Aborted) (same_id-true id waiter.id parts.0) (inr (refl, out)))

module _ (all : Plain) (kind : TxnId → Bool) (packets : List ShardPacket) (values : Values) (seen concluded : List TxnId) (at : Place) (asker : ClientId) (id : TxnId) (body : Body) (outcome : Answer) (writes : List Write)
    (shut : is_conclusory body ≡ true)
    (writes_are : (other_id : TxnId) → writes_in other_id (record { at = at; asker = asker; id = id; body = body } ∷ packets) ≡ cond (same_id other_id id) writes (writes_in other_id packets))
    (outcome_is : (other_id : TxnId) → outcome_in other_id (record { at = at; asker = asker; id = id; body = body } ∷ packets) ≡ cond (same_id other_id id) (Some outcome) (outcome_in other_id packets))
    (phase_here : phase_of body ≡ Phase.Conclude) where
  abbrev it : ShardPacket
  it = record { at = at; asker = asker; id = id; body = body }

  abbrev now : Point
  now = record { all = all; kind = kind; rest = it ∷ packets; reached = values; seen = seen; decided = concluded }

  abbrev then : Point
  then = record { all = all; kind = kind; rest = packets; reached = values; seen = seen; decided = id ∷ concluded }

  run_on : plain_run values seen concluded (it ∷ packets) ≡ plain_run values seen (id ∷ concluded) packets
  run_on = rw (shut, plain_run) refl

  values_on : plain_values values seen concluded (it ∷ packets) ≡ plain_values values seen (id ∷ concluded) packets
  values_on = rw (shut, plain_values) refl

  writes_other : (other_id : TxnId) → same_id id other_id ≡ false → writes_in other_id (it ∷ packets) ≡ writes_in other_id packets
  writes_other other_id h = writes_are other_id ∙ cond-false _ _ _ (same_id-turned other_id id ∙ h)

  outcome_other : (other_id : TxnId) → same_id id other_id ≡ false
      → outcome_in other_id (it ∷ packets) ≡ outcome_in other_id packets
  outcome_other other_id h = outcome_is other_id ∙ cond-false _ _ _ (same_id-turned other_id id ∙ h)

  first_outcome : (state : StoreState) (entries : List Entry) → Fit now state entries → state.decided id ≡ None
      → all.outcome id ≡ Some outcome
  first_outcome state entries fit n = fit.untold id n ∙ (outcome_is id ∙ cond-true _ _ _ (same_id-from id id refl))

  free : (answer : Answer) → all.outcome id ≡ Some answer → Good all (phase_of body) id answer
  free answer h = rw phase_here h

  told_more : (state : StoreState) (entries : List Entry) → Fit now state entries → (given : Answer) → all.outcome id ≡ Some given
      → (other_id : TxnId) (answer : Answer) → decide state.decided id given other_id ≡ Some answer
      → all.outcome other_id ≡ Some answer
  told_more state entries fit given h other_id answer e = by_test (cases_Bool (same_id id other_id))
    where
      by_test : ((same_id id other_id ≡ true) ⊎ (same_id id other_id ≡ false)) → all.outcome other_id ≡ Some answer
      by_test (inl q) = ap all.outcome (sym (same_id-true id other_id q)) ∙ (h ∙ (sym (cond-true _ _ _ q) ∙ e))
      by_test (inr q) = fit.told other_id answer (sym (cond-false _ _ _ q) ∙ e)

  untold_more : (state : StoreState) (entries : List Entry) → Fit now state entries → (given : Answer) → (other_id : TxnId)
      → decide state.decided id given other_id ≡ None → all.outcome other_id ≡ outcome_in other_id packets
  untold_more state entries fit given other_id e = by_test (cases_Bool (same_id id other_id))
    where
      no : Some given ≡ None → ⊥
      no k = cc

      by_test : ((same_id id other_id ≡ true) ⊎ (same_id id other_id ≡ false)) → all.outcome other_id ≡ outcome_in other_id packets
      by_test (inl q) = absurd (no (sym (cond-true _ _ _ q) ∙ e))
      by_test (inr q) = fit.untold other_id (sym (cond-false _ _ _ q) ∙ e) ∙ outcome_other other_id q

  ruled_more : (decided : TxnId → Option Answer) (recorded : TxnId → Phase → Option Answer) (given : Answer)
      → ((other_id : TxnId) (a : Answer) → decided other_id ≡ Some a → (a ≡ Aborted) ⊎ (is_known (recorded other_id Phase.Prelim) ≡ true))
      → (given ≡ Aborted) ⊎ (is_known (recorded id Phase.Prelim) ≡ true) → (other_id : TxnId) (a : Answer)
      → decide decided id given other_id ≡ Some a → (a ≡ Aborted) ⊎ (is_known (recorded other_id Phase.Prelim) ≡ true)
  ruled_more decided recorded given h k other_id a e = by_test (cases_Bool (same_id id other_id))
    where
      by_test : ((same_id id other_id ≡ true) ⊎ (same_id id other_id ≡ false))
          → (a ≡ Aborted) ⊎ (is_known (recorded other_id Phase.Prelim) ≡ true)
      by_test (inl q) =
          let same : Some given ≡ Some a = sym (cond-true _ _ _ q) ∙ e in
          let value : given ≡ a = cc in
          subst (λ (that_id : TxnId). (a ≡ Aborted) ⊎ (is_known (recorded that_id Phase.Prelim) ≡ true)) (same_id-true id other_id q) (subst (λ (y : Answer). (y ≡ Aborted) ⊎ (is_known (recorded id Phase.Prelim) ≡ true)) value k)
      by_test (inr q) = h other_id a (sym (cond-false _ _ _ q) ∙ e)

  decide_other : (decided : TxnId → Option Answer) (answer : Answer) (other_id : TxnId) → same_id id other_id ≡ false
      → decide decided id answer other_id ≡ decided other_id
  decide_other decided answer other_id h = cond-false _ _ _ h

  -- the outcome is decided already: nothing changes
  repeated : (state : StoreState) (entries : List Entry) (answer : Answer) → state.decided id ≡ Some answer → Fit now state entries
      → Fit then state entries
  repeated state entries answer h fit = record {
    values = fit.values;
    order = fit.order;
    each =
        Each-weaker _ _
        (λ e f. fit_rest kind (it ∷ packets) packets state.recorded state.decided state.decided e (λ o p n. (n, writes_other e.packet.id (apart e.packet.id n))) f)
        entries fit.each;
    distinct = fit.distinct;
    holding = fit.holding;
    sound = fit.sound;
    logged = fit.logged;
    linked = fit.linked ∙ ap (λ t. logged_answers entries no_values ++ t) run_on;
    reaches = fit.reaches;
    seen_is = fit.seen_is;
    decided_is = λ other_id. decided_on other_id (cases_Bool (same_id other_id id));
    ends = fit.ends ∙ values_on;
    told = fit.told;
    untold = λ other_id n. fit.untold other_id n ∙ outcome_other other_id (apart other_id n);
    ruled = fit.ruled;
  }
    where
      no : Some answer ≡ None → ⊥
      no k = cc

      apart_by : (other_id : TxnId) → state.decided other_id ≡ None → ((same_id id other_id ≡ true) ⊎ (same_id id other_id ≡ false))
          → same_id id other_id ≡ false
      apart_by other_id n (inl q) = absurd (no (sym h ∙ (ap state.decided (same_id-true id other_id q) ∙ n)))
      apart_by other_id n (inr q) = q

      apart : (other_id : TxnId) → state.decided other_id ≡ None → same_id id other_id ≡ false
      apart other_id n = apart_by other_id n (cases_Bool (same_id id other_id))

      decided_on : (other_id : TxnId) → ((same_id other_id id ≡ true) ⊎ (same_id other_id id ≡ false))
          → (same_id other_id id || is_among other_id concluded) ≡ is_known (state.decided other_id)
      decided_on other_id (inl q) =
          or_left _ _ q ∙ sym (ap (λ j. is_known (state.decided j)) (same_id-true other_id id q) ∙ ap is_known h)
      decided_on other_id (inr q) = ap (λ t. t || is_among other_id concluded) q ∙ fit.decided_is other_id

  decided_more : (state : StoreState) (entries : List Entry) (answer : Answer) → Fit now state entries → (other_id : TxnId)
      → is_among other_id (id ∷ concluded) ≡ is_known (decide state.decided id answer other_id)
  decided_more state entries answer fit other_id = by_test (cases_Bool (same_id other_id id))
    where
      by_test : ((same_id other_id id ≡ true) ⊎ (same_id other_id id ≡ false))
          → (same_id other_id id || is_among other_id concluded) ≡ is_known (decide state.decided id answer other_id)
      by_test (inl q) = or_left _ _ q ∙ sym (ap is_known (cond-true _ _ _ (same_id-turned id other_id ∙ q)))
      by_test (inr q) =
          ap (λ t. t || is_among other_id concluded) q
          ∙ (fit.decided_is other_id ∙ sym (ap is_known (cond-false _ _ _ (same_id-turned id other_id ∙ q))))

  on_other : (state : StoreState) (answer : Answer) (recorded : TxnId → Phase → Option Answer) (entry : Entry)
      → (is_open entry.status ≡ true → is_prelim entry.packet.body ≡ true → Other id entry)
      → EntryFit kind (it ∷ packets) recorded state.decided entry
      → EntryFit kind packets recorded (decide state.decided id answer) entry
  on_other state answer recorded entry h f =
      fit_rest kind (it ∷ packets) packets recorded state.decided (decide state.decided id answer) entry
      (λ o p n. (decide_other state.decided answer entry.packet.id (h o p) ∙ n, writes_other entry.packet.id (h o p))) f

  -- there is no such preliminary yet
  before_it : (state : StoreState) (entries : List Entry) → Fit now state entries → all.outcome id ≡ Some Aborted
      → state.waiting ≡ waiting_in entries → holds id state.holding ≡ false → list_any (is_prelim_of id) state.waiting ≡ false
      → Fit then (record state { decided = decide state.decided id Aborted }) entries
  before_it state entries fit out waiting h w = record {
    values = fit.values;
    order = fit.order;
    each = Each-with _ _ _ (λ e f o. on_other state Aborted state.recorded e o f) entries fit.each
        (none_open id entries (sym (fit.holding (λ k. same_id id k.id)) ∙ h) (ap (list_any (is_prelim_of id)) (sym waiting) ∙ w));
    distinct = fit.distinct;
    holding = fit.holding;
    sound = fit.sound;
    logged = fit.logged;
    linked = fit.linked ∙ ap (λ t. logged_answers entries no_values ++ t) run_on;
    reaches = fit.reaches;
    seen_is = fit.seen_is;
    decided_is = decided_more state entries Aborted fit;
    ends = fit.ends ∙ values_on;
    told = told_more state entries fit Aborted out;
    untold = untold_more state entries fit Aborted;
    ruled = ruled_more state.decided state.recorded Aborted fit.ruled (inl refl);
  }

  module _ (state : StoreState) (earlier : List Entry) (own_at : Place) (own_asker : ClientId) (own_body : Body) (own_writes : List Write) (following : List Entry) where
    abbrev held : Entry
    held = entry_of own_at own_asker id own_body own_writes Holds

    others : (Q R : Entry → Type 0) (entry f : Entry) → ((other : Entry) → Other id other → Q other → R other)
        → Each (Other id) earlier → Each (Other id) following → R f → Each Q (earlier ++ entry ∷ following)
        → Each R (earlier ++ f ∷ following)
    others Q R entry f h before after own each =
        Each-append R earlier (f ∷ following) (Each-with (Other id) Q R h earlier before (Each-left Q earlier (entry ∷ following) each)) (own, Each-with (Other id) Q R h following after (Each-right Q earlier (entry ∷ following) each).1)

    put_writes : is_prelim own_body ≡ true → (writes : List Write) (key : Key) (value : Option ℕ)
        → left_at own_body writes key value ≡ put_on writes key value
    put_writes p writes key value = put_writes_by own_body p writes key value

    -- a holding preliminary is decided
    released_from : Fit now state (earlier ++ held ∷ following) → state.decided id ≡ None → Fit then (record {
      values = written writes state.values;
      recorded = state.recorded;
      decided = decide state.decided id outcome;
      holding = no_longer_holding id state.holding;
      waiting = [];
    }) (earlier ++ with_status Complete held ∷ following)
    released_from fit undecided =
        let mine : EntryFit kind (it ∷ packets) state.recorded state.decided held = (Each-right _ earlier (held ∷ following) fit.each).0 in
        let lawful = lawful_of kind (it ∷ packets) state.recorded state.decided (earlier ++ held ∷ following) fit.each in
        let before = others_before earlier held following fit.distinct in
        let after = others_after earlier held following fit.distinct in
        let prelim = mine.holder refl in
        let granted : own_writes ≡ writes = mine.writes_to_come refl prelim ∙ (writes_are id ∙ cond-true _ _ _ (same_id-from id id refl)) in
        record {
          values = λ x. written_at writes state.values x
              ∙ (ap (put_on writes x) (fit.values x)
              ∙ (ap (λ w. put_on w x (current x (earlier ++ held ∷ following) None)) (sym granted)
              ∙ (sym (put_writes prelim own_writes x (current x (earlier ++ held ∷ following) None))
              ∙ sym (left_in_place conflict modes_conflict earlier held following x None (Each-right Lawful earlier (held ∷ following) lawful).1 (order_later conflict earlier held following fit.order refl) mine.lawful refl))));
          order =
              order_changed conflict earlier held following Complete fit.order refl
              (λ k. order_before conflict earlier held following fit.order refl);
          each =
              others (EntryFit kind (it ∷ packets) state.recorded state.decided)
              (EntryFit kind packets state.recorded (decide state.decided id outcome)) held (with_status Complete held)
              (λ d o f. on_other state outcome state.recorded d (λ p q. o) f) before after
              (record {
                lawful = record { kept = mine.lawful.kept; void = λ v. absurd (cc) };
                plain = mine.plain;
                kind_is = mine.kind_is;
                known = λ w. mine.known refl;
                undecided = λ o. absurd (cc);
                writes_to_come = λ o. absurd (cc);
                holder = λ h. absurd (cc);
              }) fit.each;
          distinct = distinct_changed earlier held following Complete fit.distinct;
          holding = λ p. any_filter p (λ h. not (same_id id h.id)) state.holding
              ∙ (fit.holding (λ h. not (same_id id h.id) && p h)
              ∙ (any_holding_in earlier held following (λ h. not (same_id id h.id) && p h)
              ∙ (any_without p before after
              ∙ sym (any_holding_in earlier (with_status Complete held) following p))));
          sound = fit.sound;
          logged = λ other_id q k. has_id_changed other_id earlier held following Complete ∙ fit.logged other_id q k;
          linked = fit.linked ∙ (ap (λ t. t ++ plain_run values seen concluded (it ∷ packets)) (sym (logged_answers_changed earlier held following Complete no_values))
              ∙ ap (λ t. logged_answers (earlier ++ with_status Complete held ∷ following) no_values ++ t) run_on);
          reaches = reached_changed earlier held following Complete no_values ∙ fit.reaches;
          seen_is = λ other_id. fit.seen_is other_id ∙ sym (has_id_changed other_id earlier held following Complete);
          decided_is = decided_more state (earlier ++ held ∷ following) outcome fit;
          ends = fit.ends ∙ values_on;
          told =
              told_more state (earlier ++ held ∷ following) fit outcome
              (first_outcome state (earlier ++ held ∷ following) fit undecided);
          untold = untold_more state (earlier ++ held ∷ following) fit outcome;
          ruled =
              ruled_more state.decided state.recorded outcome fit.ruled
              (inr (ap (λ q. is_known (state.recorded id q)) (sym (phase_is own_body mine.plain ∙ cond-true _ _ _ prelim)) ∙ mine.known refl));
        }
      where
        any_without : (p : Held → Bool) → Each (Other id) earlier → Each (Other id) following
            → (list_any (λ h. not (same_id id h.id) && p h) (holding_in earlier) || list_any (λ h. not (same_id id h.id) && p h) (holding_in (held ∷ following)))
            ≡ (list_any p (holding_in earlier) || list_any p (holding_in following))
        any_without p before after =
            rw (any_others id p earlier before, same_id-from id id refl, any_others id p following after) refl

    abbrev waiter : Entry
    waiter = entry_of own_at own_asker id own_body own_writes Waits

    -- a waiting preliminary is aborted
    aborted_from : Fit now state (earlier ++ waiter ∷ following) → is_prelim own_body ≡ true → writes ≡ [] → all.outcome id ≡ Some Aborted → Fit then (record {
      values = state.values;
      recorded = note state.recorded id Phase.Prelim Aborted;
      decided = decide state.decided id Aborted;
      holding = state.holding;
      waiting = [];
    }) (earlier ++ with_status Void waiter ∷ following)
    aborted_from fit prelim none out =
        let mine : EntryFit kind (it ∷ packets) state.recorded state.decided waiter = (Each-right _ earlier (waiter ∷ following) fit.each).0 in
        let before = others_before earlier waiter following fit.distinct in
        let after = others_after earlier waiter following fit.distinct in
        let granted : own_writes ≡ [] = mine.writes_to_come refl prelim ∙ (writes_are id ∙ (cond-true _ _ _ (same_id-from id id refl) ∙ none)) in
        let phase : phase_of own_body ≡ Phase.Prelim = phase_is own_body mine.plain ∙ cond-true _ _ _ prelim in
        record {
          values =
              λ x. fit.values x ∙ (current-append x earlier (waiter ∷ following) None ∙ sym (current-append x earlier (with_status Void waiter ∷ following) None));
          order = order_changed conflict earlier waiter following Void fit.order refl (λ k. absurd (both_ways _ refl k));
          each =
              others (EntryFit kind (it ∷ packets) state.recorded state.decided)
              (EntryFit kind packets (note state.recorded id Phase.Prelim Aborted) (decide state.decided id Aborted)) waiter
              (with_status Void waiter)
              (λ d o f. on_other state Aborted (note state.recorded id Phase.Prelim Aborted) d (λ p q. o) (fit_noted kind (it ∷ packets) state.recorded state.decided id Phase.Prelim Aborted d f)) before after
              (record {
                lawful =
                    record { kept = mine.lawful.kept; void = λ v x w. put_writes prelim own_writes x w ∙ ap (λ t. put_on t x w) granted };
                plain = mine.plain;
                kind_is = mine.kind_is;
                known = λ w. rw phase (known_here state.recorded id Phase.Prelim Aborted);
                undecided = λ o. absurd (cc);
                writes_to_come = λ o. absurd (cc);
                holder = λ h. absurd (cc);
              }) fit.each;
          distinct = distinct_changed earlier waiter following Void fit.distinct;
          holding =
              λ p. fit.holding p ∙ (any_holding_in earlier waiter following p ∙ sym (any_holding_in earlier (with_status Void waiter) following p));
          sound = sound_noted all state.recorded id Phase.Prelim Aborted fit.sound (inr (refl, out));
          logged =
              λ other_id q k. has_id_changed other_id earlier waiter following Void ∙ logged_noted state.recorded Phase.Prelim Aborted earlier waiter following fit.logged other_id q k;
          linked = fit.linked ∙ (ap (λ t. t ++ plain_run values seen concluded (it ∷ packets)) (sym (logged_answers_changed earlier waiter following Void no_values))
              ∙ ap (λ t. logged_answers (earlier ++ with_status Void waiter ∷ following) no_values ++ t) run_on);
          reaches = reached_changed earlier waiter following Void no_values ∙ fit.reaches;
          seen_is = λ other_id. fit.seen_is other_id ∙ sym (has_id_changed other_id earlier waiter following Void);
          decided_is = decided_more state (earlier ++ waiter ∷ following) Aborted fit;
          ends = fit.ends ∙ values_on;
          told = told_more state (earlier ++ waiter ∷ following) fit Aborted out;
          untold = untold_more state (earlier ++ waiter ∷ following) fit Aborted;
          ruled =
              ruled_more state.decided (note state.recorded id Phase.Prelim Aborted) Aborted
              (ruled_noted state.recorded state.decided id Phase.Prelim Aborted fit.ruled) (inl refl);
        }

    still_waiting : is_prelim own_body ≡ true → Distinct (earlier ++ waiter ∷ following)
        → no_longer_waiting id (waiting_in (earlier ++ waiter ∷ following)) ≡ waiting_in (earlier ++ with_status Void waiter ∷ following)
    still_waiting prelim distinct =
        ap (no_longer_waiting id) (waiting_in-append earlier (waiter ∷ following))
        ∙ (filter-append (λ w. not (is_prelim_of id w)) (waiting_in earlier) (waiting_in (waiter ∷ following))
        ∙ (rw (kept_others id earlier (others_before earlier waiter following distinct), same_id-from id id refl, prelim, kept_others id following (others_after earlier waiter following distinct)) refl
        ∙ sym (waiting_in-append earlier (with_status Void waiter ∷ following))))

  module _ (state : StoreState) (entries : List Entry) (fit : Fit now state entries) (waiting : state.waiting ≡ waiting_in entries)
      (first : state.decided id ≡ None → holds id state.holding ≡ false → (writes ≡ []) × (outcome ≡ Aborted)) where
    at_next : (stepped : Stepped) → Right then stepped → Next all kind packets stepped
    at_next stepped h = record { reached_now = values; seen_now = seen; decided_now = id ∷ concluded; right = h }

    abbrev after_held : StoreState
    after_held = record {
      values = written writes state.values;
      recorded = state.recorded;
      decided = decide state.decided id outcome;
      holding = no_longer_holding id state.holding;
      waiting = [];
    }

    abbrev after_waiter : StoreState
    after_waiter = record {
      values = state.values;
      recorded = note state.recorded id Phase.Prelim Aborted;
      decided = decide state.decided id Aborted;
      holding = state.holding;
      waiting = [];
    }

    by_held : Found id Holds entries → holds id state.holding ≡ true → state.decided id ≡ None
        → Next all kind packets (conclude_first state it outcome writes)
    by_held f k n =
        let log : List Entry = f.left ++ with_status Complete (entry_of f.at f.asker id f.body f.writes Holds) ∷ f.right in
        let now_fit : Fit then after_held log = released_from state f.left f.at f.asker f.body f.writes f.right (subst (λ (list : List Entry). Fit now state list) f.is fit) n in
        let path : state.waiting ≡ waiting_in log = waiting ∙ (ap waiting_in f.is ∙ (waiting_in-append f.left (entry_of f.at f.asker id f.body f.writes Holds ∷ f.right)
        ∙ sym (waiting_in-append f.left (with_status Complete (entry_of f.at f.asker id f.body f.writes Holds) ∷ f.right)))) in
        let r : Right then (release at after_held [] state.waiting) = subst (λ (w : List ShardPacket). Right then (release at after_held [] w)) (sym path) (release_right then at log after_held [] [] refl now_fit) in
        rw (k, conclude_first) (at_next _ (answered then (done at it outcome false) (release at after_held [] state.waiting) (free outcome (first_outcome state entries fit n)) r))

    is_aborted : holds id state.holding ≡ false → state.decided id ≡ None → all.outcome id ≡ Some Aborted
    is_aborted k n = first_outcome state entries fit n ∙ ap Some (first n k).1

    by_waiter : FoundPrelim id entries → holds id state.holding ≡ false → list_any (is_prelim_of id) state.waiting ≡ true
        → state.decided id ≡ None → Next all kind packets (conclude_first state it outcome writes)
    by_waiter g k w n =
        let f = g.found in
        let log : List Entry = f.left ++ with_status Void (entry_of f.at f.asker id f.body f.writes Waits) ∷ f.right in
        let old_fit : Fit now state (f.left ++ entry_of f.at f.asker id f.body f.writes Waits ∷ f.right) = subst (λ (list : List Entry). Fit now state list) f.is fit in
        let now_fit : Fit then after_waiter log = aborted_from state f.left f.at f.asker f.body f.writes f.right old_fit g.prelim (first n k).0 (is_aborted k n) in
        let path : no_longer_waiting id state.waiting ≡ waiting_in log = ap (no_longer_waiting id) (waiting ∙ ap waiting_in f.is) ∙ still_waiting state f.left f.at f.asker f.body f.writes f.right g.prelim old_fit.distinct in
        let r : Right then (release at after_waiter [] (no_longer_waiting id state.waiting)) = subst (λ (q : List ShardPacket). Right then (release at after_waiter [] q)) (sym path) (release_right then at log after_waiter [] [] refl now_fit) in
        rw (k, w, conclude_first) (at_next _ (answered then (done at it Aborted false) _ (free Aborted (is_aborted k n))
        (answered_all then (aborted_late at id state.waiting) (release at after_waiter [] (no_longer_waiting id state.waiting))
        (each_aborted_late (GoodDone all) at id state.waiting (Each-any (λ w. is_prelim_of id w ≡ true → GoodDone all (done at w Aborted true)) (λ w. late_good all id w (is_aborted k n)) state.waiting)) r)))

    by_none : holds id state.holding ≡ false → list_any (is_prelim_of id) state.waiting ≡ false → state.decided id ≡ None
        → Next all kind packets (conclude_first state it outcome writes)
    by_none k w n =
        rw (k, w, conclude_first) (at_next _ (record { log = entries; fit = before_it state entries fit (is_aborted k n) waiting k w; waiting = waiting; good = (free Aborted (is_aborted k n), tt) }))

    by_waiting : (test : Bool) → list_any (is_prelim_of id) state.waiting ≡ test → holds id state.holding ≡ false
        → state.decided id ≡ None → Next all kind packets (conclude_first state it outcome writes)
    by_waiting true w k n = by_waiter (find_waiting id entries (ap (list_any (is_prelim_of id)) (sym waiting) ∙ w)) k w n
    by_waiting false w k n = by_none k w n

    by_holding : (test : Bool) → holds id state.holding ≡ test → state.decided id ≡ None
        → Next all kind packets (conclude_first state it outcome writes)
    by_holding true k n = by_held (find_held id entries (sym (fit.holding (λ h. same_id id h.id)) ∙ k)) k n
    by_holding false k n = by_waiting (list_any (is_prelim_of id) state.waiting) refl k n

    by_decided : (found : Option Answer) → state.decided id ≡ found → Next all kind packets (conclude state it outcome writes)
    by_decided (Some a) h =
        rw (h, conclude) (at_next _ (record { log = entries; fit = repeated state entries a h fit; waiting = waiting; good = (free a (fit.told id a h), tt) }))
    by_decided None h = rw (h, conclude) (by_holding (holds id state.holding) refl h)

    -- A COMMIT OR AN ABORT COMES
    pub conclude_right : Next all kind packets (conclude state it outcome writes)
    conclude_right = by_decided (state.decided id) refl
