-- Whatever the list, what a store says is of packets that came, and a granted preliminary holds until its id is decided.
use Rattle.eris_base.specs.declared.ids.Phase.{Phase}
use Rattle.eris_base.specs.declared.ids.Place.{Place}
use Rattle.eris_base.specs.declared.ids.TxnId.{TxnId}
use Rattle.eris_base.proofs.Each.{Each-append, Each-filter, Each-weaker}
use Rattle.eris_base.proofs.TxnIdLaws.{same_id-from, same_id-true}
use Rattle.eris_law_lock.proofs.Prelims.{each_aborted_late}
use Rattle.eris_base.specs.Each.{Each}
use Rattle.eris_locks.specs.Law.{HasPacket, HoldsOrDecided, Said}
use Rattle.eris_locks.specs.LockTable.{Stepped, aborted_late, all_also, also, answer_of, arrive, arrive_new, conclude, conclude_first, done, execute, holding_after, only, release, run_dones, run_state, step, step_by}
use Rattle.eris_locks.specs.Locks.{locks_of}
use Rattle.eris_locks.specs.States.{StoreState, blocked, decide, empty, holds, is_decided, is_prelim, is_prelim_of, no_longer_holding, no_longer_waiting, note, phase_of, same_phase, waits}
use Rattle.eris_base.specs.TxnIds.{same_id}
use Rattle.eris_locks.specs.declared.done.Done.{Done}
use Rattle.eris_locks.specs.declared.held.Held.{Held}
use Rattle.eris_locks.specs.declared.shard_packet.ShardPacket.{ShardPacket}
use Rattle.eris_locks.proofs.PhaseLaws.{same_phase-true}
use Rattle.eris_txn.specs.Plans.{written}
use Rattle.eris_txn.specs.declared.answer.Answer.{Answer}
use Rattle.eris_txn.specs.declared.answer.Answer.TheVariants.{Aborted, Committed, Ops}
use Rattle.eris_txn.specs.declared.body.Body.{Body}
use Rattle.eris_txn.specs.declared.body.Body.TheVariants.{Abort, Commit, Independent, Prelim}
use Rattle.eris_txn.specs.declared.lock.Lock.{Lock}
use Rattle.eris_txn.specs.declared.plan.Write.{Write}
use Rattle.std.proofs.Common.{Bool, List, None, Option, Some, [], ap, cond, false, inl, inr, not, refl, subst, sym, true, ◌&&◌, ◌++◌, ◌||◌, ◌∙◌, ◌∷◌, ◌≡◌, ◌⊎◌}
use Rattle.std.proofs.lemmas.Bool.{and_parts, both_ways, cases_Bool, cond-false, cond-true, or_cases, or_left, or_right}
use Rattle.std.proofs.lemmas.List.Folds.{list_any-append}
use Rattle.std.specs.List.{list_any}

-- an answer that isn't Aborted
abbrev pub is_granted : Option Answer → Bool
is_granted None = false
is_granted (Some (Ops made)) = true
is_granted (Some (Answer.Values read)) = true
is_granted (Some Committed) = true
is_granted (Some Aborted) = false

holds_added : (id : TxnId) (locks : List Lock) (holding : List Held)
    → holds id (holding ++ record { id = id; locks = locks } ∷ []) ≡ true
holds_added id locks holding =
    list_any-append (λ (held : Held). same_id id held.id) holding (record { id = id; locks = locks } ∷ [])
    ∙ or_right _ _ (or_left _ _ (same_id-from id id refl))

holds_more : (other_id id : TxnId) (body : Body) (holding : List Held) → holds other_id holding ≡ true
    → holds other_id (holding_after id body holding) ≡ true
holds_more other_id id (Independent ops) holding h = h
holds_more other_id id (Prelim locks) holding h =
    list_any-append (λ (h : Held). same_id other_id h.id) holding (record { id = id; locks = locks } ∷ []) ∙ or_left _ _ h
holds_more other_id id (Commit keys writes) holding h = h
holds_more other_id id (Abort keys) holding h = h

holds_kept : (other_id id : TxnId) (holding : List Held) → same_id id other_id ≡ false → holds other_id holding ≡ true
    → holds other_id (no_longer_holding id holding) ≡ true
holds_kept other_id id [] n h = h
holds_kept other_id id (held ∷ holding) n h =
    by_test (same_id id held.id) refl (or_cases (same_id other_id held.id) (holds other_id holding) h)
    (holds_kept other_id id holding n)
  where
    by_test : (test : Bool) → same_id id held.id ≡ test → ((same_id other_id held.id ≡ true) ⊎ (holds other_id holding ≡ true))
        → (holds other_id holding ≡ true → holds other_id (no_longer_holding id holding) ≡ true)
        → holds other_id (cond (not test) (held ∷ no_longer_holding id holding) (no_longer_holding id holding)) ≡ true
    by_test true e (inl j) ih =
        absurd (both_ways _ n (same_id-from id other_id (same_id-true id held.id e ∙ sym (same_id-true other_id held.id j))))
    by_test true e (inr j) ih = ih j
    by_test false e (inl j) ih = or_left _ _ j
    by_test false e (inr j) ih = or_right _ _ (ih j)

pub fewer : (other_id id : TxnId) (holding : List Held) → holds other_id (no_longer_holding id holding) ≡ true
    → holds other_id holding ≡ true
fewer other_id id [] = λ h. h
fewer other_id id (held ∷ holding) = by_test (same_id id held.id) (fewer other_id id holding)
  where
    by_test : (test : Bool) → (holds other_id (no_longer_holding id holding) ≡ true → holds other_id holding ≡ true)
        → holds other_id (cond (not test) (held ∷ no_longer_holding id holding) (no_longer_holding id holding)) ≡ true
        → holds other_id (held ∷ holding) ≡ true
    by_test true ih h = or_right _ _ (ih h)
    by_test false ih h = two (or_cases (same_id other_id held.id) (holds other_id (no_longer_holding id holding)) h)
      where
        two : ((same_id other_id held.id ≡ true) ⊎ (holds other_id (no_longer_holding id holding) ≡ true))
            → holds other_id (held ∷ holding) ≡ true
        two (inl e) = or_left _ _ e
        two (inr e) = or_right _ _ (ih e)

-- H is what is known of the ids and phases of the packets that came
module _ (H : TxnId → Phase → Type 0) where
  pub record Came (state : StoreState) : Type 0 where
    pub recorded : (id : TxnId) (phase : Phase) (answer : Answer) → state.recorded id phase ≡ Some answer → H id phase
    pub waiting : Each (λ w. H w.id (phase_of w.body)) state.waiting
    pub values : (id : TxnId) → is_granted (state.recorded id Phase.Prelim) ≡ true → HoldsOrDecided state id
    pub held : (id : TxnId) → holds id state.holding ≡ true → H id Phase.Prelim
    pub decided : (id : TxnId) (answer : Answer) → state.decided id ≡ Some answer → H id Phase.Conclude

  pub record CameDone (state : StoreState) (given : Done) : Type 0 where
    pub from : H given.id given.phase
    pub firm : given.phase ≡ Phase.Prelim → is_granted (Some given.answer) ≡ true → HoldsOrDecided state given.id

  pub record Goes (earlier : StoreState) (stepped : Stepped) : Type 0 where
    pub state : Came stepped.state
    pub keep : (id : TxnId) → HoldsOrDecided earlier id → HoldsOrDecided stepped.state id
    pub dones : Each (CameDone stepped.state) stepped.dones

  noted_from : (recorded : TxnId → Phase → Option Answer) (id : TxnId) (phase : Phase) (answer : Answer)
      → ((i : TxnId) (q : Phase) (c : Answer) → recorded i q ≡ Some c → H i q) → H id phase
      → (i : TxnId) (q : Phase) (c : Answer) → note recorded id phase answer i q ≡ Some c → H i q
  noted_from recorded id phase answer g h i q c e = by_test (cases_Bool (same_id id i && same_phase phase q))
    where
      by_test : (((same_id id i && same_phase phase q) ≡ true) ⊎ ((same_id id i && same_phase phase q) ≡ false)) → H i q
      by_test (inl t) =
          let parts = and_parts _ _ t in
          subst (λ (r : Phase). H i r) (same_phase-true phase q parts.1) (subst (λ (that_id : TxnId). H that_id phase) (same_id-true id i parts.0) h)
      by_test (inr n) = g i q c (sym (cond-false _ _ _ n) ∙ e)

  -- what is noted of values is firm
  noted_granted : (recorded : TxnId → Phase → Option Answer) (id : TxnId) (phase : Phase) (answer : Answer) (F : TxnId → Type 0)
      → ((other_id : TxnId) → is_granted (recorded other_id Phase.Prelim) ≡ true → F other_id)
      → (phase ≡ Phase.Prelim → is_granted (Some answer) ≡ true → F id) → (other_id : TxnId)
      → is_granted (note recorded id phase answer other_id Phase.Prelim) ≡ true → F other_id
  noted_granted recorded id phase answer F g h other_id e =
      by_test (cases_Bool (same_id id other_id && same_phase phase Phase.Prelim))
    where
      by_test : (((same_id id other_id && same_phase phase Phase.Prelim) ≡ true) ⊎ ((same_id id other_id && same_phase phase Phase.Prelim) ≡ false))
          → F other_id
      by_test (inl t) =
          let parts = and_parts _ _ t in
          subst F (same_id-true id other_id parts.0) (h (same_phase-true phase Phase.Prelim parts.1) (sym (ap is_granted (cond-true _ _ _ t)) ∙ e))
      by_test (inr n) = g other_id (sym (ap is_granted (cond-false _ _ _ n)) ∙ e)

  executed_held : (id : TxnId) (body : Body) (holding : List Held) → H id (phase_of body)
      → ((other_id : TxnId) → holds other_id holding ≡ true → H other_id Phase.Prelim) → (other_id : TxnId)
      → holds other_id (holding_after id body holding) ≡ true → H other_id Phase.Prelim
  executed_held id (Independent ops) holding h g other_id e = g other_id e
  executed_held id (Prelim locks) holding h g other_id e =
      by_place
      (or_cases (holds other_id holding) (holds other_id (record { id = id; locks = locks } ∷ [])) (sym (list_any-append (λ (held : Held). same_id other_id held.id) holding (record { id = id; locks = locks } ∷ [])) ∙ e))
    where
      by_place : ((holds other_id holding ≡ true) ⊎ ((same_id other_id id || false) ≡ true)) → H other_id Phase.Prelim
      by_place (inl held) = g other_id held
      by_place (inr held) = last (or_cases (same_id other_id id) false held)
        where
          last : ((same_id other_id id ≡ true) ⊎ (false ≡ true)) → H other_id Phase.Prelim
          last (inl q) = subst (λ (that_id : TxnId). H that_id Phase.Prelim) (sym (same_id-true other_id id q)) h
          last (inr q) = absurd (both_ways _ refl q)
  executed_held id (Commit keys writes) holding h g other_id e = g other_id e
  executed_held id (Abort keys) holding h g other_id e = g other_id e

  decided_from : (decided : TxnId → Option Answer) (id : TxnId) (answer : Answer)
      → ((i : TxnId) (c : Answer) → decided i ≡ Some c → H i Phase.Conclude) → H id Phase.Conclude → (i : TxnId) (c : Answer)
      → decide decided id answer i ≡ Some c → H i Phase.Conclude
  decided_from decided id answer g h i c e = by_test (cases_Bool (same_id id i))
    where
      by_test : ((same_id id i ≡ true) ⊎ (same_id id i ≡ false)) → H i Phase.Conclude
      by_test (inl t) = subst (λ (that_id : TxnId). H that_id Phase.Conclude) (same_id-true id i t) h
      by_test (inr n) = g i c (sym (cond-false _ _ _ n) ∙ e)

  executed_firm : (state : StoreState) (packet : ShardPacket) (body : Body) → phase_of body ≡ Phase.Prelim
      → holds packet.id (holding_after packet.id body state.holding) ≡ true
  executed_firm state packet (Independent ops) h = cc
  executed_firm state packet (Prelim locks) h = holds_added packet.id locks state.holding
  executed_firm state packet (Commit keys writes) h = cc
  executed_firm state packet (Abort keys) h = cc

  executes : (at : Place) (state : StoreState) (packet : ShardPacket) (late : Bool) → Came state
      → H packet.id (phase_of packet.body)
      → Goes state (only (execute state packet) (done at packet (answer_of packet.body state.values) late))
  executes at state packet late g h = record {
    state = record {
      recorded = noted_from state.recorded packet.id (phase_of packet.body) (answer_of packet.body state.values) g.recorded h;
      waiting = g.waiting;
      values =
          noted_granted state.recorded packet.id (phase_of packet.body) (answer_of packet.body state.values)
          (HoldsOrDecided (execute state packet)) (λ i e d. holds_more i packet.id packet.body state.holding (g.values i e d))
          (λ r v d. executed_firm state packet packet.body r);
      held = executed_held packet.id packet.body state.holding h g.held;
      decided = g.decided;
    };
    keep = λ i f d. holds_more i packet.id packet.body state.holding (f d);
    dones = (record { from = h; firm = λ r v d. executed_firm state packet packet.body r }, tt);
  }

  releases : (at : Place) (state : StoreState) (before packets : List ShardPacket) → Came state
      → Each (λ w. H w.id (phase_of w.body)) before → Each (λ w. H w.id (phase_of w.body)) packets
      → Goes state (release at state before packets)
  releases at state before [] g b w = record {
    state = record { recorded = g.recorded; waiting = b; values = g.values; held = g.held; decided = g.decided };
    keep = λ i f. f;
    dones = tt;
  }
  releases at state before (packet ∷ packets) g b w = by_test (blocked state.holding before (locks_of packet.body))
      (releases at state (before ++ packet ∷ []) packets g (Each-append _ before (packet ∷ []) b (w.0, tt)) w.1)
      (executes at state packet true g w.0) (releases at (execute state packet) before packets (executes at state packet true g w.0).state b w.1)
    where
      by_test : (test : Bool) → Goes state (release at state (before ++ packet ∷ []) packets)
          → Goes state (only (execute state packet) (done at packet (answer_of packet.body state.values) true))
          → Goes (execute state packet) (release at (execute state packet) before packets)
          → Goes state (elim test [
            | true ↦ release at state (before ++ packet ∷ []) packets
            | false ↦ also (done at packet (answer_of packet.body state.values) true) (release at (execute state packet) before packets)
          ])
      by_test true stays e ih = stays
      by_test false stays e ih = record {
        state = ih.state;
        keep = λ i f. ih.keep i (e.keep i f);
        dones = (record { from = w.0; firm = λ r v. ih.keep packet.id (e.dones.0.firm r v) }, ih.dones);
      }

  not_granted : (answer : Answer) → is_granted (Some answer) ≡ false → (X : Type 0) → is_granted (Some answer) ≡ true → X
  not_granted answer n X h = absurd (both_ways _ n h)

  arrives_new : (state : StoreState) (packet : ShardPacket) → Came state → H packet.id (phase_of packet.body)
      → Goes state (arrive_new state packet)
  arrives_new state packet g h =
      by_test (is_prelim packet.body && is_decided (state.decided packet.id))
      (blocked state.holding state.waiting (locks_of packet.body))
    where
      by_test : (test other_test : Bool) → Goes state (elim test [
        | true ↦ only (record state { recorded = note state.recorded packet.id (phase_of packet.body) Aborted }) (done packet.at packet Aborted false)
        | false ↦
            elim other_test [
              | true ↦ record { state = record state { waiting = state.waiting ++ packet ∷ [] }; dones = [] }
              | false ↦ only (execute state packet) (done packet.at packet (answer_of packet.body state.values) false)
            ]
      ])
      by_test true other_test = record {
        state = record {
          recorded = noted_from state.recorded packet.id (phase_of packet.body) Aborted g.recorded h;
          waiting = g.waiting;
          values =
              noted_granted state.recorded packet.id (phase_of packet.body) Aborted (HoldsOrDecided state) g.values
              (λ r v. not_granted Aborted refl (HoldsOrDecided state packet.id) v);
          held = g.held;
          decided = g.decided;
        };
        keep = λ i f. f;
        dones = (record { from = h; firm = λ r v. not_granted Aborted refl (HoldsOrDecided state packet.id) v }, tt);
      }
      by_test false true = record {
        state =
            record { recorded = g.recorded; waiting = Each-append _ state.waiting (packet ∷ []) g.waiting (h, tt); values = g.values; held = g.held; decided = g.decided };
        keep = λ i f. f;
        dones = tt;
      }
      by_test false false = executes packet.at state packet false g h

  arrives : (state : StoreState) (packet : ShardPacket) → Came state → H packet.id (phase_of packet.body)
      → Goes state (arrive state packet)
  arrives state packet g h = by_record (state.recorded packet.id (phase_of packet.body)) refl (waits packet.id state.waiting)
    where
      by_record : (found : Option Answer) → state.recorded packet.id (phase_of packet.body) ≡ found → (other_test : Bool) → Goes state (elim found [
        | Some answer ↦ only state (done packet.at packet answer false)
        | None ↦ elim other_test [ true ↦ record { state = state; dones = [] } | false ↦ arrive_new state packet ]
      ])
      by_record (Some a) e other_test = record {
        state = g;
        keep = λ i f. f;
        dones =
            (record { from = h; firm = λ r v. g.values packet.id (ap is_granted (ap (state.recorded packet.id) (sym r) ∙ e) ∙ v) }, tt);
      }
      by_record None e true = record { state = g; keep = λ i f. f; dones = tt }
      by_record None e false = arrives_new state packet g h

  decided_firm : (state : StoreState) (id : TxnId) (answer : Answer) (holding : List Held)
      → ((other_id : TxnId) → same_id id other_id ≡ false → holds other_id state.holding ≡ true → holds other_id holding ≡ true)
      → (other_id : TxnId) → HoldsOrDecided state other_id → decide state.decided id answer other_id ≡ None
      → holds other_id holding ≡ true
  decided_firm state id answer holding k other_id f d = by_test (cases_Bool (same_id id other_id))
    where
      no : Some answer ≡ None → ⊥
      no e = cc

      by_test : ((same_id id other_id ≡ true) ⊎ (same_id id other_id ≡ false)) → holds other_id holding ≡ true
      by_test (inl t) = absurd (no (sym (cond-true _ _ _ t) ∙ d))
      by_test (inr n) = k other_id n (f (sym (cond-false _ _ _ n) ∙ d))

  no_reading : (X : Type 0) → Phase.Conclude ≡ Phase.Prelim → X
  no_reading X e = absurd (clash e)
    where
      clash : Phase.Conclude ≡ Phase.Prelim → ⊥
      clash q = cc

  waiting_prelim : (id : TxnId) (waiters : List ShardPacket) → Each (λ waiter. H waiter.id (phase_of waiter.body)) waiters
      → list_any (is_prelim_of id) waiters ≡ true → H id Phase.Prelim
  waiting_prelim id [] h a = absurd (both_ways _ refl a)
  waiting_prelim id (waiter ∷ waiters) h a =
      by_test (or_cases (is_prelim_of id waiter) (list_any (is_prelim_of id) waiters) a) (waiting_prelim id waiters h.1)
    where
      by_body : (body : Body) → is_prelim body ≡ true → H waiter.id (phase_of body) → H waiter.id Phase.Prelim
      by_body (Independent ops) e k = absurd (both_ways _ refl e)
      by_body (Prelim locks) e k = k
      by_body (Commit keys writes) e k = absurd (both_ways _ refl e)
      by_body (Abort keys) e k = absurd (both_ways _ refl e)

      by_test : ((is_prelim_of id waiter ≡ true) ⊎ (list_any (is_prelim_of id) waiters ≡ true))
          → (list_any (is_prelim_of id) waiters ≡ true → H id Phase.Prelim) → H id Phase.Prelim
      by_test (inl t) ih =
          let parts = and_parts (same_id id waiter.id) (is_prelim waiter.body) t in
          subst (λ (that_id : TxnId). H that_id Phase.Prelim) (sym (same_id-true id waiter.id parts.0)) (by_body waiter.body parts.1 h.0)
      by_test (inr t) ih = ih t

  concludes_first : (state : StoreState) (packet : ShardPacket) (outcome : Answer) (writes : List Write)
      → phase_of packet.body ≡ Phase.Conclude → Came state → H packet.id (phase_of packet.body)
      → Goes state (conclude_first state packet outcome writes)
  concludes_first state packet outcome writes concludes_it g h =
      by_test (holds packet.id state.holding) (list_any (is_prelim_of packet.id) state.waiting) refl
    where
      after_commit : StoreState
      after_commit = record {
        values = written writes state.values;
        recorded = state.recorded;
        decided = decide state.decided packet.id outcome;
        holding = no_longer_holding packet.id state.holding;
        waiting = [];
      }

      after_wait : StoreState
      after_wait = record {
        values = state.values;
        recorded = note state.recorded packet.id Phase.Prelim Aborted;
        decided = decide state.decided packet.id Aborted;
        holding = state.holding;
        waiting = [];
      }

      by_test : (test other_test : Bool) → list_any (is_prelim_of packet.id) state.waiting ≡ other_test → Goes state (elim test [
        | true ↦ also (done packet.at packet outcome false) (release packet.at after_commit [] state.waiting)
        | false ↦
            elim other_test [
              | true ↦ also (done packet.at packet Aborted false) (all_also (aborted_late packet.at packet.id state.waiting) (release packet.at after_wait [] (no_longer_waiting packet.id state.waiting)))
              | false ↦ only (record state { decided = decide state.decided packet.id Aborted }) (done packet.at packet Aborted false)
            ]
      ])
      by_test true other_test e =
          let kept = decided_firm state packet.id outcome (no_longer_holding packet.id state.holding) (λ i n k. holds_kept i packet.id state.holding n k) in
          let ih = releases packet.at after_commit [] state.waiting (record { recorded = g.recorded; waiting = tt; values = λ i v. kept i (g.values i v); held = λ i k. g.held i (fewer i packet.id state.holding k); decided = decided_from state.decided packet.id outcome g.decided (subst (H packet.id) concludes_it h) }) tt g.waiting in
          record {
            state = ih.state;
            keep = λ i f. ih.keep i (kept i f);
            dones =
                (record { from = h; firm = λ r v. no_reading (HoldsOrDecided (release packet.at after_commit [] state.waiting).state packet.id) (sym concludes_it ∙ r) }, ih.dones);
          }
      by_test false true e =
          let kept = decided_firm state packet.id Aborted state.holding (λ i n k. k) in
          let reading = waiting_prelim packet.id state.waiting g.waiting e in
          let ih = releases packet.at after_wait [] (no_longer_waiting packet.id state.waiting) (record {
            recorded = noted_from state.recorded packet.id Phase.Prelim Aborted g.recorded reading;
            waiting = tt;
            values =
                noted_granted state.recorded packet.id Phase.Prelim Aborted (HoldsOrDecided after_wait)
                (λ i v. kept i (g.values i v)) (λ r v. not_granted Aborted refl (HoldsOrDecided after_wait packet.id) v);
            held = g.held;
            decided = decided_from state.decided packet.id Aborted g.decided (subst (H packet.id) concludes_it h);
          }) tt (Each-filter _ (λ w. not (is_prelim_of packet.id w)) state.waiting g.waiting) in
          record {
            state = ih.state;
            keep = λ i f. ih.keep i (kept i f);
            dones = (
              record { from = h; firm = λ r v. no_reading (HoldsOrDecided (release packet.at after_wait [] (no_longer_waiting packet.id state.waiting)).state packet.id) (sym concludes_it ∙ r) },
              Each-append _ (aborted_late packet.at packet.id state.waiting) (release packet.at after_wait [] (no_longer_waiting packet.id state.waiting)).dones
                  (each_aborted_late _ packet.at packet.id state.waiting (Each-weaker _ _ (λ w k test. record { from = k; firm = λ r v. not_granted Aborted refl (HoldsOrDecided (release packet.at after_wait [] (no_longer_waiting packet.id state.waiting)).state w.id) v }) state.waiting g.waiting))
                  ih.dones,
            );
          }
      by_test false false e =
          let kept = decided_firm state packet.id Aborted state.holding (λ i n k. k) in
          record {
            state =
                record { recorded = g.recorded; waiting = g.waiting; values = λ i v. kept i (g.values i v); held = g.held; decided = decided_from state.decided packet.id Aborted g.decided (subst (H packet.id) concludes_it h) };
            keep = kept;
            dones =
                (record { from = h; firm = λ r v. no_reading (HoldsOrDecided (record state { decided = decide state.decided packet.id Aborted }) packet.id) (sym concludes_it ∙ r) }, tt);
          }

  concludes : (state : StoreState) (packet : ShardPacket) (outcome : Answer) (writes : List Write)
      → phase_of packet.body ≡ Phase.Conclude → Came state → H packet.id (phase_of packet.body)
      → Goes state (conclude state packet outcome writes)
  concludes state packet outcome writes concludes_it g h = by_decided (state.decided packet.id)
    where
      by_decided : (found : Option Answer) → Goes state (elim found [
        | Some answer ↦ only state (done packet.at packet answer false)
        | None ↦ conclude_first state packet outcome writes
      ])
      by_decided (Some a) =
          record { state = g; keep = λ i f. f; dones = (record { from = h; firm = λ r v. no_reading (HoldsOrDecided state packet.id) (sym concludes_it ∙ r) }, tt) }
      by_decided None = concludes_first state packet outcome writes concludes_it g h

  steps_by : (body : Body) (state : StoreState) (packet : ShardPacket) → packet.body ≡ body → Came state
      → H packet.id (phase_of packet.body) → Goes state (step_by body state packet)
  steps_by (Independent ops) state packet e g h = arrives state packet g h
  steps_by (Prelim locks) state packet e g h = arrives state packet g h
  steps_by (Commit keys writes) state packet e g h = concludes state packet Committed writes (ap phase_of e) g h
  steps_by (Abort keys) state packet e g h = concludes state packet Aborted [] (ap phase_of e) g h

  pub steps : (state : StoreState) (packet : ShardPacket) → Came state → H packet.id (phase_of packet.body)
      → Goes state (step state packet)
  steps state packet g h = steps_by packet.body state packet refl g h

  pub record Ran (earlier later : StoreState) (answers : List Done) : Type 0 where
    pub state : Came later
    pub keep : (id : TxnId) → HoldsOrDecided earlier id → HoldsOrDecided later id
    pub dones : Each (CameDone later) answers

  pub runs : (packets : List ShardPacket) (state : StoreState) → Came state
      → Each (λ packet. H packet.id (phase_of packet.body)) packets → Ran state (run_state state packets) (run_dones state packets)
  runs [] state g h = record { state = g; keep = λ i f. f; dones = tt }
  runs (packet ∷ packets) state g h =
      let one = steps state packet g h.0 in
      let rest = runs packets (step state packet).state one.state h.1 in
      record {
        state = rest.state;
        keep = λ i f. rest.keep i (one.keep i f);
        dones = Each-append _ (step state packet).dones (run_dones (step state packet).state packets)
            (Each-weaker (CameDone (step state packet).state) (CameDone (run_state (step state packet).state packets)) (λ d k. record { from = k.from; firm = λ r v. rest.keep d.id (k.firm r v) }) (step state packet).dones one.dones)
            rest.dones;
      }

  pub empty_good : Came empty
  empty_good =
      record { recorded = λ i q answer e. absurd (no answer e); waiting = tt; values = λ i e. absurd (both_ways _ refl e); held = λ i e. absurd (both_ways _ refl e); decided = λ i answer e. absurd (no answer e) }
    where
      no : (answer : Answer) → None ≡ Some answer → ⊥
      no answer e = cc

all_have : (packets : List ShardPacket) → Each (λ packet. HasPacket packet.id (phase_of packet.body) packets) packets
all_have [] = tt
all_have (packet ∷ packets) =
    (inl (refl, refl), Each-weaker (λ w. HasPacket w.id (phase_of w.body) packets) (λ w. HasPacket w.id (phase_of w.body) (packet ∷ packets)) (λ w h. inr h) packets (all_have packets))

pub ran : (packets : List ShardPacket)
    → Ran (λ i q. HasPacket i q packets) empty (run_state empty packets) (run_dones empty packets)
ran packets = runs (λ i q. HasPacket i q packets) packets empty (empty_good (λ i q. HasPacket i q packets)) (all_have packets)

said_done : (H : TxnId → Phase → Type 0) (other_state : StoreState) (id : TxnId) (phase : Phase) (answer : Answer) (dones : List Done)
    → Each (CameDone H other_state) dones → Said id phase answer dones
    → H id phase × (phase ≡ Phase.Prelim → is_granted (Some answer) ≡ true → HoldsOrDecided other_state id)
said_done H other_state id phase answer [] h k = absurd k
said_done H other_state id phase answer (given ∷ dones) h (inl k) = (
  subst (λ (r : Phase). H id r) k.1 (subst (λ (other_id : TxnId). H other_id given.phase) k.0 h.0.from),
  (λ r v. subst (HoldsOrDecided other_state) k.0 (h.0.firm (k.1 ∙ r) (ap (λ (other_answer : Answer). is_granted (Some other_answer)) k.2 ∙ v))),
)
said_done H other_state id phase answer (given ∷ dones) h (inr k) = said_done H other_state id phase answer dones h.1 k

-- WHAT A STORE SAID is of a packet that came
pub said_from : (id : TxnId) (phase : Phase) (answer : Answer) (packets : List ShardPacket)
    → Said id phase answer (run_dones empty packets) → HasPacket id phase packets
said_from id phase answer packets k =
    (said_done (λ i r. HasPacket i r packets) (run_state empty packets) id phase answer (run_dones empty packets) (ran packets).dones k).0

-- A PRELIMINARY THAT WAS GRANTED holds until its id is decided
pub said_holds : (id : TxnId) (answer : Answer) (packets : List ShardPacket) → is_granted (Some answer) ≡ true
    → Said id Phase.Prelim answer (run_dones empty packets)
    → HoldsOrDecided (run_state empty packets) id
said_holds id answer packets granted k =
    (said_done (λ i r. HasPacket i r packets) (run_state empty packets) id Phase.Prelim answer (run_dones empty packets) (ran packets).dones k).1 refl granted
