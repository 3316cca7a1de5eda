-- Preliminaries that waited or hadn't come when their id was decided.
use Rattle.eris_base.specs.declared.ids.Phase.{Phase}
use Rattle.eris_base.specs.declared.ids.Place.{Place}
use Rattle.eris_base.specs.declared.ids.TxnId.{TxnId}
use Rattle.eris_base.proofs.Each.{Each-append, Each-filter, Each-left, Each-right}
use Rattle.eris_law_lock.proofs.Fit.{known_here, known_noted}
use Rattle.eris_base.proofs.TxnIdLaws.{same_id-true}
use Rattle.eris_law_lock.proofs.Prelims.{each_aborted_late, prelim_phase}
use Rattle.eris_law_lock.proofs.SaidFrom.{fewer}
use Rattle.eris_base.specs.Each.{Each}
use Rattle.eris_locks.specs.LockTable.{Stepped, aborted_late, all_also, also, answer_of, arrive, arrive_new, conclude, conclude_first, done, end_holding, end_waiting, execute, holding_after, nothing_done, only, release, step, step_by}
use Rattle.eris_locks.specs.Locks.{locks_of}
use Rattle.eris_locks.specs.States.{StoreState, blocked, decide, holds, is_conclusory, is_decided, is_prelim, is_prelim_of, no_longer_waiting, note, phase_of, same_phase, waits}
use Rattle.eris_base.specs.TxnIds.{same_id}
use Rattle.eris_locks.specs.declared.done.Done.{Done}
use Rattle.eris_locks.specs.declared.held.Held.{Held}
use Rattle.eris_locks.specs.declared.shard_packet.ShardPacket.{ShardPacket}
use Rattle.eris_locks.proofs.PhaseLaws.{same_phase-true}
use Rattle.eris_txn.specs.Keys.{Values}
use Rattle.eris_txn.specs.declared.answer.Answer.{Answer}
use Rattle.eris_txn.specs.declared.answer.Answer.TheVariants.{Aborted, Committed}
use Rattle.eris_txn.specs.declared.body.Body.{Body}
use Rattle.eris_txn.specs.declared.body.Body.TheVariants.{Abort, Commit, Independent, Prelim}
use Rattle.eris_txn.specs.declared.plan.Write.{Write}
use Rattle.std.proofs.Common.{Bool, List, None, Option, Some, [], ap, append_assoc, cond, false, inl, inr, not, refl, subst, sym, true, ◌&&◌, ◌++◌, ◌||◌, ◌∙◌, ◌∷◌, ◌≡◌, ◌⊎◌}
use Rattle.std.proofs.lemmas.Bool.{and_from, and_parts, both_ways, cases_Bool, cond-false, cond-true, or_cases, or_left, or_right}
use Rattle.std.proofs.lemmas.List.{append-nil}
use Rattle.std.proofs.lemmas.List.Folds.{list_any-append}
use Rattle.std.specs.List.{list_any}

-- what holds after one was executed is known
pub held_executed : (recorded : TxnId → Phase → Option Answer) (id : TxnId) (body : Body) (given : Answer) (holding : List Held)
    → ((other_id : TxnId) → holds other_id holding ≡ true → is_decided (recorded other_id Phase.Prelim) ≡ true)
    → (other_id : TxnId) → holds other_id (holding_after id body holding) ≡ true
    → is_decided (note recorded id (phase_of body) given other_id Phase.Prelim) ≡ true
held_executed recorded id (Independent ops) given holding g other_id h =
    known_noted recorded id Phase.Whole given other_id Phase.Prelim (g other_id h)
held_executed recorded id (Prelim ls) given holding g other_id h =
    by_place (or_cases (holds other_id holding) (holds other_id (record { id = id; locks = ls } ∷ [])) (sym (list_any-append (λ (held : Held). same_id other_id held.id) holding (record { id = id; locks = ls } ∷ [])) ∙ h))
  where
    last : ((same_id other_id id ≡ true) ⊎ (false ≡ true))
        → is_decided (note recorded id Phase.Prelim given other_id Phase.Prelim) ≡ true
    last (inl q) =
        subst (λ (that_id : TxnId). is_decided (note recorded id Phase.Prelim given that_id Phase.Prelim) ≡ true)
        (sym (same_id-true other_id id q)) (known_here recorded id Phase.Prelim given)
    last (inr q) = absurd (both_ways _ refl q)

    by_place : ((holds other_id holding ≡ true) ⊎ ((same_id other_id id || false) ≡ true))
        → is_decided (note recorded id Phase.Prelim given other_id Phase.Prelim) ≡ true
    by_place (inl held) = known_noted recorded id Phase.Prelim given other_id Phase.Prelim (g other_id held)
    by_place (inr held) = last (or_cases (same_id other_id id) false held)
held_executed recorded id (Commit keys writes) given holding g other_id h =
    known_noted recorded id Phase.Conclude given other_id Phase.Prelim (g other_id h)
held_executed recorded id (Abort keys) given holding g other_id h =
    known_noted recorded id Phase.Conclude given other_id Phase.Prelim (g other_id h)

module _ (E : TxnId → Type 0) (kind : TxnId → Bool) where
  -- What is known of preliminaries, where those of `came` came and these packets wait: E holds of an id that
  -- was decided while its preliminary waited or hadn't come.
  pub record Early (came : TxnId → Bool) (state : StoreState) (waiters : List ShardPacket) : Type 0 where
    pub aborted : (id : TxnId) → state.recorded id Phase.Prelim ≡ Some Aborted → E id
    pub ruled : (id : TxnId) (answer : Answer) → state.decided id ≡ Some answer
        → E id ⊎ (is_decided (state.recorded id Phase.Prelim) ≡ true)
    pub known : (id : TxnId) → came id ≡ true
        → (is_decided (state.recorded id Phase.Prelim) ≡ true) ⊎ (list_any (is_prelim_of id) waiters ≡ true)
    pub held : (id : TxnId) → holds id state.holding ≡ true → is_decided (state.recorded id Phase.Prelim) ≡ true
    pub waiting : Each (λ w. is_prelim w.body ≡ kind w.id) waiters

  abbrev pub EarlyDone : Done → Type 0
  EarlyDone given = given.phase ≡ Phase.Prelim → given.answer ≡ Aborted → E given.id

  pub record EarlyStep (came : TxnId → Bool) (stepped : Stepped) : Type 0 where
    pub state : Early came stepped.state stepped.state.waiting
    pub dones : Each EarlyDone stepped.dones

  pub came_fewer : (came came' : TxnId → Bool) (state : StoreState) (waiters : List ShardPacket)
      → ((id : TxnId) → came' id ≡ true → came id ≡ true) → Early came state waiters → Early came' state waiters
  came_fewer came came' state waiters f e =
      record { aborted = e.aborted; ruled = e.ruled; known = λ id h. e.known id (f id h); held = e.held; waiting = e.waiting }

  -- an answer that is noted: if it is a preliminary's Aborted, E holds of its id
  aborted_noted : (recorded : TxnId → Phase → Option Answer) (id : TxnId) (phase : Phase) (answer : Answer)
      → ((other_id : TxnId) → recorded other_id Phase.Prelim ≡ Some Aborted → E other_id)
      → (phase ≡ Phase.Prelim → answer ≡ Aborted → E id) → (other_id : TxnId)
      → note recorded id phase answer other_id Phase.Prelim ≡ Some Aborted → E other_id
  aborted_noted recorded id phase answer g h other_id e =
      by_test (cases_Bool (same_id id other_id && same_phase phase Phase.Prelim))
    where
      by_test : (((same_id id other_id && same_phase phase Phase.Prelim) ≡ true) ⊎ ((same_id id other_id && same_phase phase Phase.Prelim) ≡ false))
          → E other_id
      by_test (inl t) =
          let parts = and_parts (same_id id other_id) (same_phase phase Phase.Prelim) t in
          let same : Some answer ≡ Some Aborted = sym (cond-true _ _ _ t) ∙ e in
          let value : answer ≡ Aborted = cc in
          subst E (same_id-true id other_id parts.0) (h (same_phase-true phase Phase.Prelim parts.1) value)
      by_test (inr n) = g other_id (sym (cond-false _ _ _ n) ∙ e)

  ruled_kept : (decided : TxnId → Option Answer) (recorded : TxnId → Phase → Option Answer) (id : TxnId) (phase : Phase) (given : Answer)
      → ((i : TxnId) (a : Answer) → decided i ≡ Some a → E i ⊎ (is_decided (recorded i Phase.Prelim) ≡ true))
      → (i : TxnId) (a : Answer) → decided i ≡ Some a → E i ⊎ (is_decided (note recorded id phase given i Phase.Prelim) ≡ true)
  ruled_kept decided recorded id phase given h i a e = on (h i a e)
    where
      on : (E i ⊎ (is_decided (recorded i Phase.Prelim) ≡ true))
          → E i ⊎ (is_decided (note recorded id phase given i Phase.Prelim) ≡ true)
      on (inl k) = inl k
      on (inr k) = inr (known_noted recorded id phase given i Phase.Prelim k)

  ruled_more : (decided : TxnId → Option Answer) (recorded : TxnId → Phase → Option Answer) (id : TxnId) (given : Answer)
      → ((i : TxnId) (a : Answer) → decided i ≡ Some a → E i ⊎ (is_decided (recorded i Phase.Prelim) ≡ true))
      → E id ⊎ (is_decided (recorded id Phase.Prelim) ≡ true)
      → (i : TxnId) (a : Answer) → decide decided id given i ≡ Some a → E i ⊎ (is_decided (recorded i Phase.Prelim) ≡ true)
  ruled_more decided recorded id given h k i a e = by_test (cases_Bool (same_id id i))
    where
      by_test : ((same_id id i ≡ true) ⊎ (same_id id i ≡ false)) → E i ⊎ (is_decided (recorded i Phase.Prelim) ≡ true)
      by_test (inl t) =
          subst (λ (that_id : TxnId). E that_id ⊎ (is_decided (recorded that_id Phase.Prelim) ≡ true)) (same_id-true id i t) k
      by_test (inr n) = h i a (sym (cond-false _ _ _ n) ∙ e)

  answer_not_aborted : (body : Body) (values : Values) → phase_of body ≡ Phase.Prelim → answer_of body values ≡ Aborted → ⊥
  answer_not_aborted (Independent ops) values p e = cc
  answer_not_aborted (Prelim ls) values p e = cc
  answer_not_aborted (Commit keys writes) values p e = cc
  answer_not_aborted (Abort keys) values p e = cc

  -- the packet taken out of a list
  any_without : (q : ShardPacket → Bool) (before : List ShardPacket) (packet : ShardPacket) (packets : List ShardPacket)
      → list_any q (before ++ packet ∷ packets) ≡ true → (q packet ≡ true) ⊎ (list_any q (before ++ packets) ≡ true)
  any_without q [] packet packets h = or_cases (q packet) (list_any q packets) h
  any_without q (waiter ∷ before) packet packets h =
      first (or_cases (q waiter) (list_any q (before ++ packet ∷ packets)) h) (any_without q before packet packets)
    where
      later : ((q packet ≡ true) ⊎ (list_any q (before ++ packets) ≡ true))
          → (q packet ≡ true) ⊎ (list_any q (waiter ∷ (before ++ packets)) ≡ true)
      later (inl k) = inl k
      later (inr k) = inr (or_right (q waiter) (list_any q (before ++ packets)) k)

      first : ((q waiter ≡ true) ⊎ (list_any q (before ++ packet ∷ packets) ≡ true))
          → (list_any q (before ++ packet ∷ packets) ≡ true → (q packet ≡ true) ⊎ (list_any q (before ++ packets) ≡ true))
          → (q packet ≡ true) ⊎ (list_any q (waiter ∷ (before ++ packets)) ≡ true)
      first (inl k) ih = inr (or_left (q waiter) (list_any q (before ++ packets)) k)
      first (inr k) ih = later (ih k)

  -- a preliminary's answer that is noted makes it known
  known_prelim : (recorded : TxnId → Phase → Option Answer) (packet : ShardPacket) (given : Answer) (id : TxnId)
      → is_prelim_of id packet ≡ true → is_decided (note recorded packet.id (phase_of packet.body) given id Phase.Prelim) ≡ true
  known_prelim recorded packet given id t =
      let parts = and_parts (same_id id packet.id) (is_prelim packet.body) t in
      subst (λ (phase : Phase). is_decided (note recorded packet.id phase given id Phase.Prelim) ≡ true) (sym (prelim_phase packet.body parts.1))
      (subst (λ (that_id : TxnId). is_decided (note recorded packet.id Phase.Prelim given that_id Phase.Prelim) ≡ true) (sym (same_id-true id packet.id parts.0)) (known_here recorded packet.id Phase.Prelim given))

  -- one that waited is executed
  executed : (came : TxnId → Bool) (state : StoreState) (before : List ShardPacket) (packet : ShardPacket) (packets : List ShardPacket)
      → Early came state (before ++ packet ∷ packets) → Early came (execute state packet) (before ++ packets)
  executed came state before packet packets e = record {
    aborted =
        aborted_noted state.recorded packet.id (phase_of packet.body) (answer_of packet.body state.values) e.aborted
        (λ q k. absurd (answer_not_aborted packet.body state.values q k));
    ruled = ruled_kept state.decided state.recorded packet.id (phase_of packet.body) (answer_of packet.body state.values) e.ruled;
    known = λ id h. by_known id (e.known id h);
    held = held_executed state.recorded packet.id packet.body (answer_of packet.body state.values) state.holding e.held;
    waiting =
        Each-append _ before packets (Each-left _ before (packet ∷ packets) e.waiting)
        (Each-right _ before (packet ∷ packets) e.waiting).1;
  }
    where
      by_waiting : (id : TxnId) → ((is_prelim_of id packet ≡ true) ⊎ (list_any (is_prelim_of id) (before ++ packets) ≡ true))
          → (is_decided ((execute state packet).recorded id Phase.Prelim) ≡ true) ⊎ (list_any (is_prelim_of id) (before ++ packets) ≡ true)
      by_waiting id (inl k) = inl (known_prelim state.recorded packet (answer_of packet.body state.values) id k)
      by_waiting id (inr k) = inr k

      by_known : (id : TxnId)
          → ((is_decided (state.recorded id Phase.Prelim) ≡ true) ⊎ (list_any (is_prelim_of id) (before ++ packet ∷ packets) ≡ true))
          → (is_decided ((execute state packet).recorded id Phase.Prelim) ≡ true) ⊎ (list_any (is_prelim_of id) (before ++ packets) ≡ true)
      by_known id (inl k) =
          inl (known_noted state.recorded packet.id (phase_of packet.body) (answer_of packet.body state.values) id Phase.Prelim k)
      by_known id (inr k) = by_waiting id (any_without (is_prelim_of id) before packet packets k)

  executed_done : (at : Place) (state : StoreState) (packet : ShardPacket) (late : Bool)
      → EarlyDone (done at packet (answer_of packet.body state.values) late)
  executed_done at state packet late q k = absurd (answer_not_aborted packet.body state.values q k)

  releases : (came : TxnId → Bool) (at : Place) (state : StoreState) (before packets : List ShardPacket)
      → Early came state (before ++ packets) → EarlyStep came (release at state before packets)
  releases came at state before [] e = record {
    state = subst (λ (waiters : List ShardPacket). Early came (record state { waiting = before }) waiters) (append-nil before)
        (record { aborted = e.aborted; ruled = e.ruled; known = e.known; held = e.held; waiting = e.waiting });
    dones = tt;
  }
  releases came at state before (packet ∷ packets) e = by_test (blocked state.holding before (locks_of packet.body))
      (releases came at state (before ++ packet ∷ []) packets (subst (λ (waiters : List ShardPacket). Early came state waiters) (sym (append_assoc before (packet ∷ []) packets)) e))
      (releases came at (execute state packet) before packets (executed came state before packet packets e))
    where
      by_test : (test : Bool) → EarlyStep came (release at state (before ++ packet ∷ []) packets)
          → EarlyStep came (release at (execute state packet) before packets)
          → EarlyStep came (elim test [
            | true ↦ release at state (before ++ packet ∷ []) packets
            | false ↦ also (done at packet (answer_of packet.body state.values) true) (release at (execute state packet) before packets)
          ])
      by_test true stays goes = stays
      by_test false stays goes = record { state = goes.state; dones = (executed_done at state packet true, goes.dones) }

  abbrev pub came_with : (TxnId → Bool) → ShardPacket → TxnId → Bool
  came_with came packet = λ i. came i || (is_prelim_of i packet || false)

  came_cases : (came : TxnId → Bool) (packet : ShardPacket) (id : TxnId) → came_with came packet id ≡ true
      → (came id ≡ true) ⊎ (is_prelim_of id packet ≡ true)
  came_cases came packet id h = first (or_cases (came id) (is_prelim_of id packet || false) h)
    where
      second : ((is_prelim_of id packet ≡ true) ⊎ (false ≡ true)) → (came id ≡ true) ⊎ (is_prelim_of id packet ≡ true)
      second (inl k) = inr k
      second (inr k) = absurd (both_ways _ refl k)

      first : ((came id ≡ true) ⊎ ((is_prelim_of id packet || false) ≡ true)) → (came id ≡ true) ⊎ (is_prelim_of id packet ≡ true)
      first (inl k) = inl k
      first (inr k) = second (or_cases (is_prelim_of id packet) false k)

  -- one more packet came, of which something makes it known
  known_with : (came : TxnId → Bool) (packet : ShardPacket) (P : TxnId → Type 0) → ((id : TxnId) → came id ≡ true → P id)
      → ((id : TxnId) → is_prelim_of id packet ≡ true → P id) → (id : TxnId) → came_with came packet id ≡ true → P id
  known_with came packet P old new id h = by_case (came_cases came packet id h)
    where
      by_case : ((came id ≡ true) ⊎ (is_prelim_of id packet ≡ true)) → P id
      by_case (inl k) = old id k
      by_case (inr k) = new id k

  enqueued : (came : TxnId → Bool) (state : StoreState) (packet : ShardPacket) → Early came state state.waiting
      → is_prelim packet.body ≡ kind packet.id → Early (came_with came packet) state (state.waiting ++ packet ∷ [])
  enqueued came state packet e k = record {
    aborted = e.aborted;
    ruled = e.ruled;
    known =
        known_with came packet
        (λ id. (is_decided (state.recorded id Phase.Prelim) ≡ true) ⊎ (list_any (is_prelim_of id) (state.waiting ++ packet ∷ []) ≡ true))
        (λ id h. by_known id (e.known id h))
        (λ id h. inr (list_any-append (is_prelim_of id) state.waiting (packet ∷ []) ∙ or_right (list_any (is_prelim_of id) state.waiting) _ (or_left (is_prelim_of id packet) false h)));
    held = e.held;
    waiting = Each-append _ state.waiting (packet ∷ []) e.waiting (k, tt);
  }
    where
      by_known : (id : TxnId)
          → ((is_decided (state.recorded id Phase.Prelim) ≡ true) ⊎ (list_any (is_prelim_of id) state.waiting ≡ true))
          → (is_decided (state.recorded id Phase.Prelim) ≡ true) ⊎ (list_any (is_prelim_of id) (state.waiting ++ packet ∷ []) ≡ true)
      by_known id (inl h) = inl h
      by_known id (inr h) =
          inr
          (list_any-append (is_prelim_of id) state.waiting (packet ∷ []) ∙ or_left (list_any (is_prelim_of id) state.waiting) _ h)

  arrives_new : (came : TxnId → Bool) (state : StoreState) (packet : ShardPacket) → Early came state state.waiting
      → is_prelim packet.body ≡ kind packet.id → is_decided (state.recorded packet.id (phase_of packet.body)) ≡ false
      → EarlyStep (came_with came packet) (arrive_new state packet)
  arrives_new came state packet e k new =
      by_test (is_prelim packet.body && is_decided (state.decided packet.id)) refl
      (blocked state.holding state.waiting (locks_of packet.body))
    where
      late : (found : Option Answer) → state.decided packet.id ≡ found → is_decided found ≡ true → is_prelim packet.body ≡ true
          → E packet.id
      late None d q r = absurd (both_ways _ refl q)
      late (Some a) d q r = by_rule (e.ruled packet.id a d)
        where
          by_rule : (E packet.id ⊎ (is_decided (state.recorded packet.id Phase.Prelim) ≡ true)) → E packet.id
          by_rule (inl h) = h
          by_rule (inr h) =
              absurd
              (both_ways _ new (subst (λ (phase : Phase). is_decided (state.recorded packet.id phase) ≡ true) (sym (prelim_phase packet.body r)) h))

      shut : (is_prelim packet.body && is_decided (state.decided packet.id)) ≡ true → E packet.id
      shut test =
          let parts = and_parts (is_prelim packet.body) (is_decided (state.decided packet.id)) test in
          late (state.decided packet.id) refl parts.1 parts.0

      by_test : (test : Bool) → (is_prelim packet.body && is_decided (state.decided packet.id)) ≡ test → (other_test : Bool) → EarlyStep (came_with came packet) (elim test [
        | true ↦ only (record state { recorded = note state.recorded packet.id (phase_of packet.body) Aborted }) (done packet.at packet Aborted false)
        | false ↦
            elim other_test [
              | true ↦ nothing_done (record state { waiting = state.waiting ++ packet ∷ [] })
              | false ↦ only (execute state packet) (done packet.at packet (answer_of packet.body state.values) false)
            ]
      ])
      by_test true test other_test = record {
        state = record {
          aborted = aborted_noted state.recorded packet.id (phase_of packet.body) Aborted e.aborted (λ q r. shut test);
          ruled = ruled_kept state.decided state.recorded packet.id (phase_of packet.body) Aborted e.ruled;
          known =
              known_with came packet
              (λ id. (is_decided (note state.recorded packet.id (phase_of packet.body) Aborted id Phase.Prelim) ≡ true) ⊎ (list_any (is_prelim_of id) state.waiting ≡ true))
              (λ id h. by_known id (e.known id h)) (λ id h. inl (known_prelim state.recorded packet Aborted id h));
          held = λ id h. known_noted state.recorded packet.id (phase_of packet.body) Aborted id Phase.Prelim (e.held id h);
          waiting = e.waiting;
        };
        dones = ((λ q r. shut test), tt);
      }
        where
          by_known : (id : TxnId)
              → ((is_decided (state.recorded id Phase.Prelim) ≡ true) ⊎ (list_any (is_prelim_of id) state.waiting ≡ true))
              → (is_decided (note state.recorded packet.id (phase_of packet.body) Aborted id Phase.Prelim) ≡ true) ⊎ (list_any (is_prelim_of id) state.waiting ≡ true)
          by_known id (inl h) = inl (known_noted state.recorded packet.id (phase_of packet.body) Aborted id Phase.Prelim h)
          by_known id (inr h) = inr h
      by_test false test true =
          let q = enqueued came state packet e k in
          record { state = record { aborted = q.aborted; ruled = q.ruled; known = q.known; held = q.held; waiting = q.waiting }; dones = tt }
      by_test false test false = record {
        state =
            subst (λ (waiters : List ShardPacket). Early (came_with came packet) (execute state packet) waiters)
            (append-nil state.waiting)
            (executed (came_with came packet) state state.waiting packet [] (enqueued came state packet e k));
        dones = (executed_done packet.at state packet false, tt);
      }

  waiting_prelim : (id : TxnId) (waiters : List ShardPacket) → Each (λ w. is_prelim w.body ≡ kind w.id) waiters → kind id ≡ true
      → waits id waiters ≡ true → list_any (is_prelim_of id) waiters ≡ true
  waiting_prelim id [] h k w = w
  waiting_prelim id (packet ∷ waiters) h k w =
      by_case (or_cases (same_id id packet.id) (waits id waiters) w) (waiting_prelim id waiters h.1 k)
    where
      by_case : ((same_id id packet.id ≡ true) ⊎ (waits id waiters ≡ true))
          → (waits id waiters ≡ true → list_any (is_prelim_of id) waiters ≡ true)
          → list_any (is_prelim_of id) (packet ∷ waiters) ≡ true
      by_case (inl t) ih =
          or_left (is_prelim_of id packet) (list_any (is_prelim_of id) waiters)
          (and_from (same_id id packet.id) (is_prelim packet.body) t (h.0 ∙ (ap kind (sym (same_id-true id packet.id t)) ∙ k)))
      by_case (inr t) ih = or_right (is_prelim_of id packet) (list_any (is_prelim_of id) waiters) (ih t)

  arrives : (came : TxnId → Bool) (state : StoreState) (packet : ShardPacket) → Early came state state.waiting
      → is_prelim packet.body ≡ kind packet.id → EarlyStep (came_with came packet) (arrive state packet)
  arrives came state packet e k =
      by_record (state.recorded packet.id (phase_of packet.body)) refl (waits packet.id state.waiting) refl
    where
      kept : ((id : TxnId) → is_prelim_of id packet ≡ true → (is_decided (state.recorded id Phase.Prelim) ≡ true) ⊎ (list_any (is_prelim_of id) state.waiting ≡ true))
          → Early (came_with came packet) state state.waiting
      kept f = record {
        aborted = e.aborted;
        ruled = e.ruled;
        known =
            known_with came packet
            (λ id. (is_decided (state.recorded id Phase.Prelim) ≡ true) ⊎ (list_any (is_prelim_of id) state.waiting ≡ true))
            e.known f;
        held = e.held;
        waiting = e.waiting;
      }

      found : (o : Option Answer) → state.recorded packet.id (phase_of packet.body) ≡ o → is_decided o ≡ true → (id : TxnId)
          → is_prelim_of id packet ≡ true → is_decided (state.recorded id Phase.Prelim) ≡ true
      found o r d id t =
          let parts = and_parts (same_id id packet.id) (is_prelim packet.body) t in
          subst (λ (that_id : TxnId). is_decided (state.recorded that_id Phase.Prelim) ≡ true) (sym (same_id-true id packet.id parts.0))
          (subst (λ (phase : Phase). is_decided (state.recorded packet.id phase) ≡ true) (prelim_phase packet.body parts.1) (ap is_decided r ∙ d))

      queued : waits packet.id state.waiting ≡ true → (id : TxnId) → is_prelim_of id packet ≡ true
          → list_any (is_prelim_of id) state.waiting ≡ true
      queued w id t =
          let parts = and_parts (same_id id packet.id) (is_prelim packet.body) t in
          subst (λ (that_id : TxnId). list_any (is_prelim_of that_id) state.waiting ≡ true) (sym (same_id-true id packet.id parts.0)) (waiting_prelim packet.id state.waiting e.waiting (sym k ∙ parts.1) w)

      again : (a : Answer) → state.recorded packet.id (phase_of packet.body) ≡ Some a → EarlyDone (done packet.at packet a false)
      again a r q x = e.aborted packet.id (ap (state.recorded packet.id) (sym q) ∙ (r ∙ ap Some x))

      by_record : (o : Option Answer) → state.recorded packet.id (phase_of packet.body) ≡ o → (other_test : Bool) → waits packet.id state.waiting ≡ other_test → EarlyStep (came_with came packet) (elim o [
        | Some answer ↦ only state (done packet.at packet answer false)
        | None ↦ elim other_test [ true ↦ nothing_done state | false ↦ arrive_new state packet ]
      ])
      by_record (Some a) r other_test w =
          record { state = kept (λ id t. inl (found (Some a) r refl id t)); dones = (again a r, tt) }
      by_record None r true w = record { state = kept (λ id t. inr (queued w id t)); dones = tt }
      by_record None r false w = arrives_new came state packet e k (ap is_decided r)

  concluding : (packet : ShardPacket) (answer : Answer) (late : Bool) → phase_of packet.body ≡ Phase.Conclude
      → EarlyDone (done packet.at packet answer late)
  concluding packet answer late concludes_it q = absurd (clash (sym concludes_it ∙ q))
    where
      clash : Phase.Conclude ≡ Phase.Prelim → ⊥
      clash r = cc

  fewer_prelims : (recorded : TxnId → Phase → Option Answer) (id : TxnId) (waiters : List ShardPacket) (other_id : TxnId)
      → list_any (is_prelim_of other_id) waiters ≡ true
      → (is_decided (note recorded id Phase.Prelim Aborted other_id Phase.Prelim) ≡ true) ⊎ (list_any (is_prelim_of other_id) (no_longer_waiting id waiters) ≡ true)
  fewer_prelims recorded id [] other_id h = absurd (both_ways _ refl h)
  fewer_prelims recorded id (waiter ∷ waiters) other_id h =
      by_test (is_prelim_of id waiter) refl (or_cases (is_prelim_of other_id waiter) (list_any (is_prelim_of other_id) waiters) h)
      (fewer_prelims recorded id waiters other_id)
    where
      same : is_prelim_of id waiter ≡ true → is_prelim_of other_id waiter ≡ true
          → is_decided (note recorded id Phase.Prelim Aborted other_id Phase.Prelim) ≡ true
      same test u =
          let one = same_id-true id waiter.id (and_parts (same_id id waiter.id) (is_prelim waiter.body) test).0 in
          let two = same_id-true other_id waiter.id (and_parts (same_id other_id waiter.id) (is_prelim waiter.body) u).0 in
          subst (λ (that_id : TxnId). is_decided (note recorded id Phase.Prelim Aborted that_id Phase.Prelim) ≡ true) (one ∙ sym two) (known_here recorded id Phase.Prelim Aborted)

      further : (is_decided (note recorded id Phase.Prelim Aborted other_id Phase.Prelim) ≡ true) ⊎ (list_any (is_prelim_of other_id) (no_longer_waiting id waiters) ≡ true)
          → (is_decided (note recorded id Phase.Prelim Aborted other_id Phase.Prelim) ≡ true) ⊎ (list_any (is_prelim_of other_id) (waiter ∷ no_longer_waiting id waiters) ≡ true)
      further (inl k) = inl k
      further (inr k) =
          inr (or_right (is_prelim_of other_id waiter) (list_any (is_prelim_of other_id) (no_longer_waiting id waiters)) k)

      by_test : (test : Bool) → is_prelim_of id waiter ≡ test
          → ((is_prelim_of other_id waiter ≡ true) ⊎ (list_any (is_prelim_of other_id) waiters ≡ true))
          → (list_any (is_prelim_of other_id) waiters ≡ true → (is_decided (note recorded id Phase.Prelim Aborted other_id Phase.Prelim) ≡ true) ⊎ (list_any (is_prelim_of other_id) (no_longer_waiting id waiters) ≡ true))
          → (is_decided (note recorded id Phase.Prelim Aborted other_id Phase.Prelim) ≡ true) ⊎ (list_any (is_prelim_of other_id) (cond (not test) (waiter ∷ no_longer_waiting id waiters) (no_longer_waiting id waiters)) ≡ true)
      by_test true test (inl k) ih = inl (same test k)
      by_test true test (inr k) ih = ih k
      by_test false test (inl k) ih =
          inr (or_left (is_prelim_of other_id waiter) (list_any (is_prelim_of other_id) (no_longer_waiting id waiters)) k)
      by_test false test (inr k) ih = further (ih k)

  each_late : (id : TxnId) (at : Place) (waiters : List ShardPacket) → E id
      → Each (λ waiter. is_prelim_of id waiter ≡ true → EarlyDone (done at waiter Aborted true)) waiters
  each_late id at [] h = tt
  each_late id at (waiter ∷ waiters) h =
      ((λ t q x. subst E (same_id-true id waiter.id (and_parts (same_id id waiter.id) (is_prelim waiter.body) t).0) h), each_late id at waiters h)

  -- where an id isn't decided and its preliminary waits, or it didn't come, this packet ends it early
  abbrev pub Ends : (TxnId → Bool) → StoreState → ShardPacket → Type 0
  Ends came state packet =
      state.decided packet.id ≡ None → ((list_any (is_prelim_of packet.id) state.waiting ≡ true) ⊎ (came packet.id ≡ false)) → E
      packet.id

  concludes_first : (came : TxnId → Bool) (state : StoreState) (packet : ShardPacket) (outcome : Answer) (writes : List Write)
      → phase_of packet.body ≡ Phase.Conclude
      → Early came state state.waiting → state.decided packet.id ≡ None → Ends came state packet
      → EarlyStep came (conclude_first state packet outcome writes)
  concludes_first came state packet outcome writes concludes_it e d ends =
      by_test (holds packet.id state.holding) refl (list_any (is_prelim_of packet.id) state.waiting) refl
    where
      at_end : list_any (is_prelim_of packet.id) state.waiting ≡ false
          → E packet.id ⊎ (is_decided (state.recorded packet.id Phase.Prelim) ≡ true)
      at_end w = by_came (cases_Bool (came packet.id))
        where
          by_known : ((is_decided (state.recorded packet.id Phase.Prelim) ≡ true) ⊎ (list_any (is_prelim_of packet.id) state.waiting ≡ true))
              → E packet.id ⊎ (is_decided (state.recorded packet.id Phase.Prelim) ≡ true)
          by_known (inl k) = inr k
          by_known (inr k) = absurd (both_ways _ w k)

          by_came : ((came packet.id ≡ true) ⊎ (came packet.id ≡ false))
              → E packet.id ⊎ (is_decided (state.recorded packet.id Phase.Prelim) ≡ true)
          by_came (inl k) = by_known (e.known packet.id k)
          by_came (inr k) = inl (ends d (inr k))

      by_test : (test : Bool) → holds packet.id state.holding ≡ test → (other_test : Bool) → list_any (is_prelim_of packet.id) state.waiting ≡ other_test → EarlyStep came (elim test [
        | true ↦ also (done packet.at packet outcome false) (release packet.at (end_holding state packet outcome writes) [] state.waiting)
        | false ↦
            elim other_test [
              | true ↦ also (done packet.at packet Aborted false) (all_also (aborted_late packet.at packet.id state.waiting) (release packet.at (end_waiting state packet) [] (no_longer_waiting packet.id state.waiting)))
              | false ↦ only (record state { decided = decide state.decided packet.id Aborted }) (done packet.at packet Aborted false)
            ]
      ])
      by_test true h other_test w =
          let r = releases came packet.at (end_holding state packet outcome writes) [] state.waiting (record {
            aborted = e.aborted;
            ruled = ruled_more state.decided state.recorded packet.id outcome e.ruled (inr (e.held packet.id h));
            known = e.known;
            held = λ id k. e.held id (fewer id packet.id state.holding k);
            waiting = e.waiting;
          }) in
          record { state = r.state; dones = (concluding packet outcome false concludes_it, r.dones) }
      by_test false h true w =
          let early = ends d (inl w) in
          let r = releases came packet.at (end_waiting state packet) [] (no_longer_waiting packet.id state.waiting) (record {
            aborted = aborted_noted state.recorded packet.id Phase.Prelim Aborted e.aborted (λ q x. early);
            ruled =
                ruled_more state.decided (note state.recorded packet.id Phase.Prelim Aborted) packet.id Aborted
                (ruled_kept state.decided state.recorded packet.id Phase.Prelim Aborted e.ruled) (inl early);
            known = λ id k. by_known id (e.known id k);
            held = λ id k. known_noted state.recorded packet.id Phase.Prelim Aborted id Phase.Prelim (e.held id k);
            waiting = Each-filter _ (λ v. not (is_prelim_of packet.id v)) state.waiting e.waiting;
          }) in
          record {
            state = r.state;
            dones = (
              concluding packet Aborted false concludes_it,
              Each-append EarlyDone (aborted_late packet.at packet.id state.waiting) (release packet.at (end_waiting state packet) [] (no_longer_waiting packet.id state.waiting)).dones
                  (each_aborted_late EarlyDone packet.at packet.id state.waiting (each_late packet.id packet.at state.waiting early)) r.dones,
            );
          }
        where
          by_known : (id : TxnId)
              → ((is_decided (state.recorded id Phase.Prelim) ≡ true) ⊎ (list_any (is_prelim_of id) state.waiting ≡ true))
              → (is_decided (note state.recorded packet.id Phase.Prelim Aborted id Phase.Prelim) ≡ true) ⊎ (list_any (is_prelim_of id) (no_longer_waiting packet.id state.waiting) ≡ true)
          by_known id (inl k) = inl (known_noted state.recorded packet.id Phase.Prelim Aborted id Phase.Prelim k)
          by_known id (inr k) = fewer_prelims state.recorded packet.id state.waiting id k
      by_test false h false w = record {
        state =
            record { aborted = e.aborted; ruled = ruled_more state.decided state.recorded packet.id Aborted e.ruled (at_end w); known = e.known; held = e.held; waiting = e.waiting };
        dones = (concluding packet Aborted false concludes_it, tt);
      }

  concludes : (came : TxnId → Bool) (state : StoreState) (packet : ShardPacket) (outcome : Answer) (writes : List Write)
      → phase_of packet.body ≡ Phase.Conclude
      → Early came state state.waiting → Ends came state packet → EarlyStep came (conclude state packet outcome writes)
  concludes came state packet outcome writes concludes_it e ends = by_decided (state.decided packet.id) refl
    where
      by_decided : (found : Option Answer) → state.decided packet.id ≡ found → EarlyStep came (elim found [
        | Some decided ↦ only state (done packet.at packet decided false)
        | None ↦ conclude_first state packet outcome writes
      ])
      by_decided (Some a) d = record { state = e; dones = (concluding packet a false concludes_it, tt) }
      by_decided None d = concludes_first came state packet outcome writes concludes_it e d ends

  no_prelim : (came : TxnId → Bool) (packet : ShardPacket) → is_prelim packet.body ≡ false → (id : TxnId)
      → came_with came packet id ≡ true → came id ≡ true
  no_prelim came packet n id h = by_case (came_cases came packet id h)
    where
      by_case : ((came id ≡ true) ⊎ (is_prelim_of id packet ≡ true)) → came id ≡ true
      by_case (inl k) = k
      by_case (inr k) = absurd (both_ways _ n (and_parts (same_id id packet.id) (is_prelim packet.body) k).1)

  -- a Commit or an Abort is no preliminary
  after_conclude : (came : TxnId → Bool) (packet : ShardPacket) (stepped : Stepped) → is_prelim packet.body ≡ false
      → EarlyStep came stepped → EarlyStep (came_with came packet) stepped
  after_conclude came packet stepped n h =
      record { state = came_fewer came (came_with came packet) stepped.state stepped.state.waiting (no_prelim came packet n) h.state; dones = h.dones }

  steps_by : (body : Body) (came : TxnId → Bool) (state : StoreState) (packet : ShardPacket) → packet.body ≡ body
      → (is_conclusory body ≡ false → is_prelim body ≡ kind packet.id)
      → Early came state state.waiting → (phase_of packet.body ≡ Phase.Conclude → Ends came state packet)
      → EarlyStep (came_with came packet) (step_by body state packet)
  steps_by (Independent ops) came state packet is k e ends = arrives came state packet e (ap is_prelim is ∙ k refl)
  steps_by (Prelim ls) came state packet is k e ends = arrives came state packet e (ap is_prelim is ∙ k refl)
  steps_by (Commit keys writes) came state packet is k e ends =
      after_conclude came packet (conclude state packet Committed writes) (ap is_prelim is)
      (concludes came state packet Committed writes (ap phase_of is) e (ends (ap phase_of is)))
  steps_by (Abort keys) came state packet is k e ends =
      after_conclude came packet (conclude state packet Aborted []) (ap is_prelim is)
      (concludes came state packet Aborted [] (ap phase_of is) e (ends (ap phase_of is)))

  pub early_step : (came : TxnId → Bool) (state : StoreState) (packet : ShardPacket)
      → (is_conclusory packet.body ≡ false → is_prelim packet.body ≡ kind packet.id)
      → Early came state state.waiting → (phase_of packet.body ≡ Phase.Conclude → Ends came state packet)
      → EarlyStep (came_with came packet) (step state packet)
  early_step came state packet k e ends = steps_by packet.body came state packet refl k e ends
