-- Whatever the list, an id that was decided before its preliminary was granted is granted no more.
use Rattle.eris_base.specs.declared.ids.Phase.{Phase}
use Rattle.eris_base.specs.declared.ids.Place.{Place}
use Rattle.eris_base.specs.declared.ids.TxnId.{TxnId}
use Rattle.eris_base.proofs.Each.{Each-append}
use Rattle.eris_base.proofs.TxnIdLaws.{same_id-from, same_id-true}
use Rattle.eris_law_lock.proofs.Prelims.{each_aborted_late}
use Rattle.eris_law_lock.proofs.Runs.{dones_of_prefix}
use Rattle.eris_law_lock.proofs.SaidFrom.{is_granted, ran, said_holds}
use Rattle.eris_base.specs.Each.{Each}
use Rattle.eris_locks.specs.Law.{HoldsOrDecided, Said}
use Rattle.eris_locks.specs.LockTable.{Stepped, aborted_late, all_also, also, answer_of, arrive, arrive_new, conclude, conclude_first, done, execute, only, release, run_dones, run_state, step, step_by}
use Rattle.eris_locks.specs.Locks.{locks_of}
use Rattle.eris_locks.specs.States.{StoreState, blocked, decide, empty, holds, is_decided, is_prelim, is_prelim_of, no_longer_holding, no_longer_waiting, note, phase_of, same_phase, waits}
use Rattle.eris_base.specs.TxnIds.{same_id}
use Rattle.eris_locks.specs.declared.done.Done.{Done}
use Rattle.eris_locks.specs.declared.shard_packet.ShardPacket.{ShardPacket}
use Rattle.eris_locks.proofs.PhaseLaws.{same_phase-true}
use Rattle.eris_txn.specs.Plans.{written}
use Rattle.eris_txn.specs.declared.answer.Answer.{Answer}
use Rattle.eris_txn.specs.declared.answer.Answer.TheVariants.{Aborted, Committed}
use Rattle.eris_txn.specs.declared.body.Body.{Body}
use Rattle.eris_txn.specs.declared.body.Body.TheVariants.{Abort, Commit, Independent, Prelim}
use Rattle.eris_txn.specs.declared.plan.Write.{Write}
use Rattle.std.proofs.Common.{Bool, List, None, Option, Some, [], ap, cond, false, inl, inr, not, refl, subst, sym, true, ◌&&◌, ◌++◌, ◌∙◌, ◌∷◌, ◌≡◌, ◌⊎◌}
use Rattle.std.proofs.lemmas.Bool.{and_from, and_parts, both_ways, cases_Bool, cond-false, cond-true, or_from, or_parts}
use Rattle.std.proofs.lemmas.List.Folds.{list_any-append}
use Rattle.std.specs.List.{filter, list_any}

-- an id that was decided before its preliminary was granted: it is granted no more
module _ (id : TxnId) where
  record Lost (state : StoreState) : Type 0 where
    decided : is_decided (state.decided id) ≡ true
    unread : is_granted (state.recorded id Phase.Prelim) ≡ false
    gone : list_any (is_prelim_of id) state.waiting ≡ false

  abbrev Silent : Done → Type 0
  Silent given = given.id ≡ id → given.phase ≡ Phase.Prelim → is_granted (Some given.answer) ≡ false

  record Stays (stepped : Stepped) : Type 0 where
    state : Lost stepped.state
    dones : Each Silent stepped.dones

  not_its_prelim : (other_id : TxnId) (body : Body) → (same_id id other_id && is_prelim body) ≡ false → other_id ≡ id
      → phase_of body ≡ Phase.Prelim → ⊥
  not_its_prelim other_id (Independent ops) n e r = cc
  not_its_prelim other_id (Prelim locks) n e r =
      both_ways _ n (and_from (same_id id other_id) true (same_id-from id other_id (sym e)) refl)
  not_its_prelim other_id (Commit keys writes) n e r = cc
  not_its_prelim other_id (Abort keys) n e r = cc

  noted_other : (recorded : TxnId → Phase → Option Answer) (other_id : TxnId) (phase : Phase) (answer : Answer)
      → (other_id ≡ id → phase ≡ Phase.Prelim → is_granted (Some answer) ≡ false) → is_granted (recorded id Phase.Prelim) ≡ false
      → is_granted (note recorded other_id phase answer id Phase.Prelim) ≡ false
  noted_other recorded other_id phase answer n u = by_test (cases_Bool (same_id other_id id && same_phase phase Phase.Prelim))
    where
      by_test : (((same_id other_id id && same_phase phase Phase.Prelim) ≡ true) ⊎ ((same_id other_id id && same_phase phase Phase.Prelim) ≡ false))
          → is_granted (note recorded other_id phase answer id Phase.Prelim) ≡ false
      by_test (inl t) =
          let parts = and_parts (same_id other_id id) (same_phase phase Phase.Prelim) t in
          ap is_granted (cond-true _ _ _ t) ∙ n (same_id-true other_id id parts.0) (same_phase-true phase Phase.Prelim parts.1)
      by_test (inr k) = ap is_granted (cond-false _ _ _ k) ∙ u

  executes : (at : Place) (state : StoreState) (packet : ShardPacket) (late : Bool) → Lost state → is_prelim_of id packet ≡ false
      → Stays (only (execute state packet) (done at packet (answer_of packet.body state.values) late))
  executes at state packet late l n = record {
    state = record {
      decided = l.decided;
      unread =
          noted_other state.recorded packet.id (phase_of packet.body) (answer_of packet.body state.values)
          (λ e r. absurd (not_its_prelim packet.id packet.body n e r)) l.unread;
      gone = l.gone;
    };
    dones = ((λ e r. absurd (not_its_prelim packet.id packet.body n e r)), tt);
  }

  releases : (at : Place) (state : StoreState) (before packets : List ShardPacket) → Lost state
      → list_any (is_prelim_of id) before ≡ false → list_any (is_prelim_of id) packets ≡ false
      → Stays (release at state before packets)
  releases at state before [] l b w = record { state = record { decided = l.decided; unread = l.unread; gone = b }; dones = tt }
  releases at state before (packet ∷ packets) l b w =
      let parts = or_parts (is_prelim_of id packet) (list_any (is_prelim_of id) packets) w in
      by_test (blocked state.holding before (locks_of packet.body))
      (releases at state (before ++ packet ∷ []) packets l (list_any-append (is_prelim_of id) before (packet ∷ []) ∙ or_from _ _ b (or_from _ _ parts.0 refl)) parts.1)
      (executes at state packet true l parts.0) (releases at (execute state packet) before packets (executes at state packet true l parts.0).state b parts.1)
    where
      by_test : (test : Bool) → Stays (release at state (before ++ packet ∷ []) packets)
          → Stays (only (execute state packet) (done at packet (answer_of packet.body state.values) true))
          → Stays (release at (execute state packet) before packets)
          → Stays (elim test [
            | true ↦ release at state (before ++ packet ∷ []) packets
            | false ↦ also (done at packet (answer_of packet.body state.values) true) (release at (execute state packet) before packets)
          ])
      by_test true stays e ih = stays
      by_test false stays e ih = record { state = ih.state; dones = (e.dones.0, ih.dones) }

  decided_prelim : (state : StoreState) (other_id : TxnId) (body : Body) → is_decided (state.decided id) ≡ true
      → (is_prelim body && is_decided (state.decided other_id)) ≡ false → (same_id id other_id && is_prelim body) ≡ false
  decided_prelim state other_id body d n = by_test (cases_Bool (same_id id other_id && is_prelim body))
    where
      by_test : (((same_id id other_id && is_prelim body) ≡ true) ⊎ ((same_id id other_id && is_prelim body) ≡ false))
          → (same_id id other_id && is_prelim body) ≡ false
      by_test (inl t) =
          let parts = and_parts (same_id id other_id) (is_prelim body) t in
          absurd (both_ways _ n (and_from (is_prelim body) (is_decided (state.decided other_id)) parts.1 (subst (λ j. is_decided (state.decided j) ≡ true) (same_id-true id other_id parts.0) d)))
      by_test (inr k) = k

  arrives_new : (state : StoreState) (packet : ShardPacket) → Lost state → Stays (arrive_new state packet)
  arrives_new state packet l =
      by_test (is_prelim packet.body && is_decided (state.decided packet.id))
      (blocked state.holding state.waiting (locks_of packet.body)) refl
    where
      by_test : (test other_test : Bool) → (is_prelim packet.body && is_decided (state.decided packet.id)) ≡ test → Stays (elim test [
        | true ↦ only (record state { recorded = note state.recorded packet.id (phase_of packet.body) Aborted }) (done packet.at packet Aborted false)
        | false ↦
            elim other_test [
              | true ↦ record { state = record state { waiting = state.waiting ++ packet ∷ [] }; dones = [] }
              | false ↦ only (execute state packet) (done packet.at packet (answer_of packet.body state.values) false)
            ]
      ])
      by_test true other_test e = record {
        state =
            record { decided = l.decided; unread = noted_other state.recorded packet.id (phase_of packet.body) Aborted (λ q r. refl) l.unread; gone = l.gone };
        dones = ((λ q r. refl), tt);
      }
      by_test false true e = record {
        state = record {
          decided = l.decided;
          unread = l.unread;
          gone =
              list_any-append (is_prelim_of id) state.waiting (packet ∷ [])
              ∙ or_from _ _ l.gone (or_from _ _ (decided_prelim state packet.id packet.body l.decided e) refl);
        };
        dones = tt;
      }
      by_test false false e = executes packet.at state packet false l (decided_prelim state packet.id packet.body l.decided e)

  arrives : (state : StoreState) (packet : ShardPacket) → Lost state → Stays (arrive state packet)
  arrives state packet l = by_record (state.recorded packet.id (phase_of packet.body)) refl (waits packet.id state.waiting)
    where
      by_record : (found : Option Answer) → state.recorded packet.id (phase_of packet.body) ≡ found → (other_test : Bool) → Stays (elim found [
        | Some answer ↦ only state (done packet.at packet answer false)
        | None ↦ elim other_test [ true ↦ record { state = state; dones = [] } | false ↦ arrive_new state packet ]
      ])
      by_record (Some a) e other_test = record {
        state = l;
        dones =
            ((λ q r. sym (ap is_granted (ap (λ i. state.recorded i Phase.Prelim) (sym q) ∙ (ap (state.recorded packet.id) (sym r) ∙ e))) ∙ l.unread), tt);
      }
      by_record None e true = record { state = l; dones = tt }
      by_record None e false = arrives_new state packet l

  filtered : (test : ShardPacket → Bool) (waiters : List ShardPacket) → list_any (is_prelim_of id) waiters ≡ false
      → list_any (is_prelim_of id) (filter test waiters) ≡ false
  filtered test [] h = refl
  filtered test (waiter ∷ waiters) h =
      let parts = or_parts (is_prelim_of id waiter) (list_any (is_prelim_of id) waiters) h in
      by_test (test waiter) parts.0 (filtered test waiters parts.1)
    where
      by_test : (t : Bool) → is_prelim_of id waiter ≡ false → list_any (is_prelim_of id) (filter test waiters) ≡ false
          → list_any (is_prelim_of id) (cond t (waiter ∷ filter test waiters) (filter test waiters)) ≡ false
      by_test true n ih = or_from _ _ n ih
      by_test false n ih = ih

  no_more : (waiters : List ShardPacket) → list_any (is_prelim_of id) (no_longer_waiting id waiters) ≡ false
  no_more [] = refl
  no_more (waiter ∷ waiters) = by_test (is_prelim_of id waiter) refl (no_more waiters)
    where
      by_test : (test : Bool) → is_prelim_of id waiter ≡ test → list_any (is_prelim_of id) (no_longer_waiting id waiters) ≡ false
          → list_any (is_prelim_of id) (cond (not test) (waiter ∷ no_longer_waiting id waiters) (no_longer_waiting id waiters)) ≡ false
      by_test true e ih = ih
      by_test false e ih = or_from _ _ e ih

  still_decided : (decided : TxnId → Option Answer) (other_id : TxnId) (answer : Answer) → is_decided (decided id) ≡ true
      → is_decided (decide decided other_id answer id) ≡ true
  still_decided decided other_id answer h = by_test (same_id other_id id)
    where
      by_test : (test : Bool) → is_decided (cond test (Some answer) (decided id)) ≡ true
      by_test true = refl
      by_test false = h

  all_silent : (at : Place) (id : TxnId) (waiters : List ShardPacket)
      → Each (λ waiter. is_prelim_of id waiter ≡ true → Silent (done at waiter Aborted true)) waiters
  all_silent at id [] = tt
  all_silent at id (waiter ∷ waiters) = ((λ t q r. refl), all_silent at id waiters)

  clash : Phase.Conclude ≡ Phase.Prelim → ⊥
  clash e = cc

  concluding : (state : StoreState) (packet : ShardPacket) (answer : Answer) (l : Bool) → phase_of packet.body ≡ Phase.Conclude
      → Silent (done packet.at packet answer l)
  concluding state packet answer l concludes_it e r = absurd (clash (sym concludes_it ∙ r))

  concludes_first : (state : StoreState) (packet : ShardPacket) (outcome : Answer) (writes : List Write)
      → phase_of packet.body ≡ Phase.Conclude → Lost state → Stays (conclude_first state packet outcome writes)
  concludes_first state packet outcome writes concludes_it l =
      by_test (holds packet.id state.holding) (list_any (is_prelim_of packet.id) state.waiting)
    where
      after_commit : StoreState
      after_commit =
          record { values = written writes state.values; recorded = state.recorded; decided = decide state.decided packet.id outcome; holding = no_longer_holding packet.id state.holding; waiting = [] }

      after_wait : StoreState
      after_wait =
          record { values = state.values; recorded = note state.recorded packet.id Phase.Prelim Aborted; decided = decide state.decided packet.id Aborted; holding = state.holding; waiting = [] }

      by_test : (test other_test : Bool) → Stays (elim test [
        | true ↦ also (done packet.at packet outcome false) (release packet.at after_commit [] state.waiting)
        | false ↦
            elim other_test [
              | true ↦ also (done packet.at packet Aborted false) (all_also (aborted_late packet.at packet.id state.waiting) (release packet.at after_wait [] (no_longer_waiting packet.id state.waiting)))
              | false ↦ only (record state { decided = decide state.decided packet.id Aborted }) (done packet.at packet Aborted false)
            ]
      ])
      by_test true other_test =
          let ih = releases packet.at after_commit [] state.waiting (record { decided = still_decided state.decided packet.id outcome l.decided; unread = l.unread; gone = refl }) refl l.gone in
          record { state = ih.state; dones = (concluding state packet outcome false concludes_it, ih.dones) }
      by_test false true =
          let ih = releases packet.at after_wait [] (no_longer_waiting packet.id state.waiting) (record {
            decided = still_decided state.decided packet.id Aborted l.decided;
            unread = noted_other state.recorded packet.id Phase.Prelim Aborted (λ q r. refl) l.unread;
            gone = refl;
          }) refl (filtered (λ w. not (is_prelim_of packet.id w)) state.waiting l.gone) in
          record { state = ih.state; dones = (concluding state packet Aborted false concludes_it, Each-append Silent (aborted_late packet.at packet.id state.waiting) (release packet.at after_wait [] (no_longer_waiting packet.id state.waiting)).dones (each_aborted_late Silent packet.at packet.id state.waiting (all_silent packet.at packet.id state.waiting)) ih.dones) }
      by_test false false = record {
        state = record { decided = still_decided state.decided packet.id Aborted l.decided; unread = l.unread; gone = l.gone };
        dones = (concluding state packet Aborted false concludes_it, tt);
      }

  concludes : (state : StoreState) (packet : ShardPacket) (outcome : Answer) (writes : List Write)
      → phase_of packet.body ≡ Phase.Conclude → Lost state → Stays (conclude state packet outcome writes)
  concludes state packet outcome writes concludes_it l = by_decided (state.decided packet.id)
    where
      by_decided : (found : Option Answer) → Stays (elim found [
        | Some answer ↦ only state (done packet.at packet answer false)
        | None ↦ conclude_first state packet outcome writes
      ])
      by_decided (Some a) = record { state = l; dones = (concluding state packet a false concludes_it, tt) }
      by_decided None = concludes_first state packet outcome writes concludes_it l

  steps_by : (body : Body) (state : StoreState) (packet : ShardPacket) → packet.body ≡ body → Lost state
      → Stays (step_by body state packet)
  steps_by (Independent ops) state packet e l = arrives state packet l
  steps_by (Prelim locks) state packet e l = arrives state packet l
  steps_by (Commit keys writes) state packet e l = concludes state packet Committed writes (ap phase_of e) l
  steps_by (Abort keys) state packet e l = concludes state packet Aborted [] (ap phase_of e) l

  runs : (packets : List ShardPacket) (state : StoreState) → Lost state → Each Silent (run_dones state packets)
  runs [] state l = tt
  runs (packet ∷ packets) state l =
      let one = steps_by packet.body state packet refl l in
      Each-append Silent (step state packet).dones (run_dones (step state packet).state packets) one.dones (runs packets (step state packet).state one.state)

  -- how it gets lost: the first conclusory doesn't find it holding
  loses_first : (state : StoreState) (packet : ShardPacket) (outcome : Answer) (writes : List Write) → packet.id ≡ id
      → phase_of packet.body ≡ Phase.Conclude → holds id state.holding ≡ false → is_granted (state.recorded id Phase.Prelim) ≡ false
      → Stays (conclude_first state packet outcome writes)
  loses_first state packet outcome writes same concludes_it free ungranted =
      by_test (holds packet.id state.holding) (list_any (is_prelim_of packet.id) state.waiting) refl refl
    where
      after_wait : StoreState
      after_wait =
          record { values = state.values; recorded = note state.recorded packet.id Phase.Prelim Aborted; decided = decide state.decided packet.id Aborted; holding = state.holding; waiting = [] }

      now_decided : is_decided (decide state.decided packet.id Aborted id) ≡ true
      now_decided =
          ap is_decided (cond-true (same_id packet.id id) (Some Aborted) (state.decided id) (same_id-from packet.id id same))

      by_test : (test other_test : Bool) → holds packet.id state.holding ≡ test → list_any (is_prelim_of packet.id) state.waiting ≡ other_test → Stays (elim test [
        | true ↦ also (done packet.at packet outcome false) (release packet.at (record { values = written writes state.values; recorded = state.recorded; decided = decide state.decided packet.id outcome; holding = no_longer_holding packet.id state.holding; waiting = [] }) [] state.waiting)
        | false ↦
            elim other_test [
              | true ↦ also (done packet.at packet Aborted false) (all_also (aborted_late packet.at packet.id state.waiting) (release packet.at after_wait [] (no_longer_waiting packet.id state.waiting)))
              | false ↦ only (record state { decided = decide state.decided packet.id Aborted }) (done packet.at packet Aborted false)
            ]
      ])
      by_test true other_test a b = absurd (both_ways _ free (ap (λ i. holds i state.holding) (sym same) ∙ a))
      by_test false true a b =
          let ih = releases packet.at after_wait [] (no_longer_waiting packet.id state.waiting) (record {
            decided = now_decided;
            unread = noted_other state.recorded packet.id Phase.Prelim Aborted (λ q r. refl) ungranted;
            gone = refl;
          }) refl (subst (λ i. list_any (is_prelim_of id) (no_longer_waiting i state.waiting) ≡ false) (sym same) (no_more state.waiting)) in
          record { state = ih.state; dones = (concluding state packet Aborted false concludes_it, Each-append Silent (aborted_late packet.at packet.id state.waiting) (release packet.at after_wait [] (no_longer_waiting packet.id state.waiting)).dones (each_aborted_late Silent packet.at packet.id state.waiting (all_silent packet.at packet.id state.waiting)) ih.dones) }
      by_test false false a b = record {
        state =
            record { decided = now_decided; unread = ungranted; gone = subst (λ i. list_any (is_prelim_of i) state.waiting ≡ false) same b };
        dones = (concluding state packet Aborted false concludes_it, tt);
      }

  loses : (state : StoreState) (packet : ShardPacket) (outcome : Answer) (writes : List Write) → packet.id ≡ id
      → phase_of packet.body ≡ Phase.Conclude → state.decided id ≡ None → holds id state.holding ≡ false
      → is_granted (state.recorded id Phase.Prelim) ≡ false → Stays (conclude state packet outcome writes)
  loses state packet outcome writes same concludes_it d free ungranted =
      by_decided (state.decided packet.id) (ap state.decided same ∙ d)
    where
      by_decided : (found : Option Answer) → found ≡ None → Stays (elim found [
        | Some answer ↦ only state (done packet.at packet answer false)
        | None ↦ conclude_first state packet outcome writes
      ])
      by_decided (Some a) e = cc
      by_decided None e = loses_first state packet outcome writes same concludes_it free ungranted

  loses_by : (body : Body) (state : StoreState) (packet : ShardPacket) → packet.body ≡ body → packet.id ≡ id
      → phase_of packet.body ≡ Phase.Conclude → state.decided id ≡ None → holds id state.holding ≡ false
      → is_granted (state.recorded id Phase.Prelim) ≡ false → Stays (step_by body state packet)
  loses_by (Independent ops) state packet e same concludes_it d free ungranted = absurd (first (sym (ap phase_of e) ∙ concludes_it))
    where
      first : Phase.Whole ≡ Phase.Conclude → ⊥
      first q = cc
  loses_by (Prelim locks) state packet e same concludes_it d free ungranted = absurd (first (sym (ap phase_of e) ∙ concludes_it))
    where
      first : Phase.Prelim ≡ Phase.Conclude → ⊥
      first q = cc
  loses_by (Commit keys writes) state packet e same concludes_it d free ungranted =
      loses state packet Committed writes same concludes_it d free ungranted
  loses_by (Abort keys) state packet e same concludes_it d free ungranted =
      loses state packet Aborted [] same concludes_it d free ungranted

  silent_said : (answer : Answer) (dones : List Done) → is_granted (Some answer) ≡ true → Each Silent dones
      → Said id Phase.Prelim answer dones → ⊥
  silent_said answer [] granted h k = k
  silent_said answer (given ∷ dones) granted h (inl k) =
      both_ways _ (h.0 k.0 k.1) (ap (λ (other : Answer). is_granted (Some other)) k.2 ∙ granted)
  silent_said answer (given ∷ dones) granted h (inr k) = silent_said answer dones granted h.1 k

pub said_parts : (id : TxnId) (phase : Phase) (answer : Answer) (dones others : List Done) → Said id phase answer (dones ++ others)
    → Said id phase answer dones ⊎ Said id phase answer others
said_parts id phase answer [] others h = inr h
said_parts id phase answer (given ∷ dones) others (inl h) = inl (inl h)
said_parts id phase answer (given ∷ dones) others (inr h) = by_part (said_parts id phase answer dones others h)
  where
    by_part : (Said id phase answer dones ⊎ Said id phase answer others)
        → Said id phase answer (given ∷ dones) ⊎ Said id phase answer others
    by_part (inl k) = inl (inr k)
    by_part (inr k) = inr k

-- WHERE A PRELIMINARY WAS GRANTED, at any time, each conclusory before which none stands finds it holding
pub said_finds : (id : TxnId) (answer : Answer) (front rest : List ShardPacket) (packet : ShardPacket) → packet.id ≡ id
    → phase_of packet.body ≡ Phase.Conclude → is_granted (Some answer) ≡ true
    → Said id Phase.Prelim answer (run_dones empty (front ++ packet ∷ rest)) → HoldsOrDecided (run_state empty front) id
said_finds id answer front rest packet same concludes_it granted k d =
    by_holds (cases_Bool (holds id (run_state empty front).holding))
  where
    ungranted : holds id (run_state empty front).holding ≡ false
        → is_granted ((run_state empty front).recorded id Phase.Prelim) ≡ false
    ungranted free = by_test (cases_Bool (is_granted ((run_state empty front).recorded id Phase.Prelim)))
      where
        by_test : ((is_granted ((run_state empty front).recorded id Phase.Prelim) ≡ true) ⊎ (is_granted ((run_state empty front).recorded id Phase.Prelim) ≡ false))
            → is_granted ((run_state empty front).recorded id Phase.Prelim) ≡ false
        by_test (inl t) = absurd (both_ways _ free ((ran front).state.values id t d))
        by_test (inr t) = t

    later : holds id (run_state empty front).holding ≡ false
        → Said id Phase.Prelim answer (run_dones (run_state empty front) (packet ∷ rest)) → ⊥
    later free s =
        let one = loses_by id packet.body (run_state empty front) packet refl same concludes_it d free (ungranted free) in
        silent_said id answer (run_dones (run_state empty front) (packet ∷ rest)) granted (Each-append (Silent id) (step (run_state empty front) packet).dones (run_dones (step (run_state empty front) packet).state rest) one.dones (runs id rest (step (run_state empty front) packet).state one.state)) s

    by_part : holds id (run_state empty front).holding ≡ false
        → (Said id Phase.Prelim answer (run_dones empty front) ⊎ Said id Phase.Prelim answer (run_dones (run_state empty front) (packet ∷ rest)))
        → ⊥
    by_part free (inl s) = both_ways _ free (said_holds id answer front granted s d)
    by_part free (inr s) = later free s

    by_holds : ((holds id (run_state empty front).holding ≡ true) ⊎ (holds id (run_state empty front).holding ≡ false))
        → holds id (run_state empty front).holding ≡ true
    by_holds (inl t) = t
    by_holds (inr free) =
        absurd
        (by_part free (said_parts id Phase.Prelim answer (run_dones empty front) (run_dones (run_state empty front) (packet ∷ rest)) (subst (λ (dones : List Done). Said id Phase.Prelim answer dones) (dones_of_prefix front (packet ∷ rest) empty) k)))
