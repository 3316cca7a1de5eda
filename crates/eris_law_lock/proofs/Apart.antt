-- Whatever the list, a preliminary that holds doesn't wait.
-- No id waits twice
use Rattle.eris_base.specs.declared.ids.Phase.{Phase}
use Rattle.eris_base.specs.declared.ids.Place.{Place}
use Rattle.eris_base.specs.declared.ids.TxnId.{TxnId}
use Rattle.eris_base.proofs.Each.{Each-append, Each-filter, Each-left, Each-right}
use Rattle.eris_law_lock.proofs.Early.{held_executed}
use Rattle.eris_law_lock.proofs.Fit.{known_noted}
use Rattle.eris_base.proofs.TxnIdLaws.{same_id-true, same_id-turned}
use Rattle.eris_law_lock.proofs.Prelims.{prelim_phase}
use Rattle.eris_law_lock.proofs.SaidFrom.{fewer}
use Rattle.eris_base.specs.Each.{Each}
use Rattle.eris_locks.specs.LockTable.{Stepped, aborted_late, all_also, also, answer_of, arrive, arrive_new, conclude, done, end_holding, end_waiting, execute, nothing_done, only, release, run_state, step, step_by}
use Rattle.eris_locks.specs.Locks.{locks_of}
use Rattle.eris_locks.specs.States.{StoreState, blocked, decide, empty, holds, is_decided, is_prelim, is_prelim_of, no_longer_waiting, note, phase_of, same_phase, waits}
use Rattle.eris_base.specs.TxnIds.{same_id}
use Rattle.eris_locks.specs.declared.shard_packet.ShardPacket.{ShardPacket}
use Rattle.eris_txn.specs.declared.answer.Answer.{Answer}
use Rattle.eris_txn.specs.declared.answer.Answer.TheVariants.{Aborted, Committed}
use Rattle.eris_txn.specs.declared.body.Body.{Body}
use Rattle.eris_txn.specs.declared.body.Body.TheVariants.{Abort, Commit, Independent, Prelim}
use Rattle.eris_txn.specs.declared.plan.Write.{Write}
use Rattle.std.proofs.Common.{Bool, List, None, Option, Some, [], ap, append_assoc, cond, false, inl, inr, not, refl, subst, sym, true, ◌&&◌, ◌++◌, ◌∙◌, ◌∷◌, ◌≡◌, ◌⊎◌}
use Rattle.std.proofs.lemmas.Bool.{and_parts, both_ways, cond-false, or_cases, or_parts}
use Rattle.std.proofs.lemmas.List.{append-nil}
use Rattle.std.specs.List.{filter, list_any}

abbrev pub WaitOnce : List ShardPacket → Type 0
WaitOnce [] = Unit {0}
WaitOnce (packet ∷ packets) = Each (λ waiter. same_id packet.id waiter.id ≡ false) packets × WaitOnce packets

-- WHAT WAITS HAS NO ANSWER, and what holds has one
pub record Apart (state : StoreState) (waiters : List ShardPacket) : Type 0 where
  pub held : (id : TxnId) → holds id state.holding ≡ true → is_decided (state.recorded id Phase.Prelim) ≡ true
  pub fresh : Each (λ waiter. is_decided (state.recorded waiter.id (phase_of waiter.body)) ≡ false) waiters
  pub once : WaitOnce waiters

abbrev pub ApartStep : Stepped → Type 0
ApartStep stepped = Apart stepped.state stepped.state.waiting

-- one is taken out
once_without : (before : List ShardPacket) (packet : ShardPacket) (packets : List ShardPacket)
    → WaitOnce (before ++ packet ∷ packets)
    → WaitOnce (before ++ packets) × Each (λ waiter. same_id packet.id waiter.id ≡ false) (before ++ packets)
once_without [] packet packets h = (h.1, h.0)
once_without (waiter ∷ before) packet packets h =
    let rest = once_without before packet packets h.1 in
    let right = Each-right _ before (packet ∷ packets) h.0 in (
      (Each-append _ before packets (Each-left _ before (packet ∷ packets) h.0) right.1, rest.0),
      (same_id-turned packet.id waiter.id ∙ right.0, rest.1),
    )

once_filtered : (test : ShardPacket → Bool) (waiters : List ShardPacket) → WaitOnce waiters → WaitOnce (filter test waiters)
once_filtered test [] h = tt
once_filtered test (waiter ∷ waiters) h = by_test (test waiter) (once_filtered test waiters h.1)
  where
    by_test : (t : Bool) → WaitOnce (filter test waiters) → WaitOnce (cond t (waiter ∷ filter test waiters) (filter test waiters))
    by_test true k = (Each-filter _ test waiters h.0, k)
    by_test false k = k

-- those of other ids
others_wait : (id : TxnId) (waiters : List ShardPacket) → waits id waiters ≡ false
    → Each (λ waiter. same_id id waiter.id ≡ false) waiters
others_wait id [] h = tt
others_wait id (waiter ∷ waiters) h =
    let parts = or_parts (same_id id waiter.id) (waits id waiters) h in
    (parts.0, others_wait id waiters parts.1)

once_added : (waiters : List ShardPacket) (packet : ShardPacket) → WaitOnce waiters
    → Each (λ waiter. same_id packet.id waiter.id ≡ false) waiters → WaitOnce (waiters ++ packet ∷ [])
once_added [] packet h k = (tt, tt)
once_added (waiter ∷ waiters) packet h k =
    (Each-append _ waiters (packet ∷ []) h.0 (same_id-turned waiter.id packet.id ∙ k.0, tt), once_added waiters packet h.1 k.1)

-- an answer that is noted for another id
fresh_noted : (recorded : TxnId → Phase → Option Answer) (id : TxnId) (phase : Phase) (answer : Answer) (waiters : List ShardPacket)
    → Each (λ waiter. is_decided (recorded waiter.id (phase_of waiter.body)) ≡ false) waiters
    → Each (λ waiter. same_id id waiter.id ≡ false) waiters
    → Each (λ waiter. is_decided (note recorded id phase answer waiter.id (phase_of waiter.body)) ≡ false) waiters
fresh_noted recorded id phase answer [] h k = tt
fresh_noted recorded id phase answer (waiter ∷ waiters) h k = (
  ap is_decided (cond-false (same_id id waiter.id && same_phase phase (phase_of waiter.body)) (Some answer) (recorded waiter.id (phase_of waiter.body)) (ap (λ t. t && same_phase phase (phase_of waiter.body)) k.0)) ∙ h.0,
  fresh_noted recorded id phase answer waiters h.1 k.1,
)

-- a waiting preliminary is noted and leaves
prelim_phase_is : (body : Body) → same_phase Phase.Prelim (phase_of body) ≡ is_prelim body
prelim_phase_is (Independent ops) = refl
prelim_phase_is (Prelim locks) = refl
prelim_phase_is (Commit keys writes) = refl
prelim_phase_is (Abort keys) = refl

fresh_filtered : (recorded : TxnId → Phase → Option Answer) (id : TxnId) (waiters : List ShardPacket)
    → Each (λ waiter. is_decided (recorded waiter.id (phase_of waiter.body)) ≡ false) waiters
    → Each (λ waiter. is_decided (note recorded id Phase.Prelim Aborted waiter.id (phase_of waiter.body)) ≡ false) (no_longer_waiting id waiters)
fresh_filtered recorded id [] h = tt
fresh_filtered recorded id (waiter ∷ waiters) h = by_test (is_prelim_of id waiter) refl (fresh_filtered recorded id waiters h.1)
  where
    apart : is_prelim_of id waiter ≡ false → (same_id id waiter.id && same_phase Phase.Prelim (phase_of waiter.body)) ≡ false
    apart e = ap (λ t. same_id id waiter.id && t) (prelim_phase_is waiter.body) ∙ e

    by_test : (t : Bool) → is_prelim_of id waiter ≡ t
        → Each (λ w. is_decided (note recorded id Phase.Prelim Aborted w.id (phase_of w.body)) ≡ false) (no_longer_waiting id waiters)
        → Each (λ w. is_decided (note recorded id Phase.Prelim Aborted w.id (phase_of w.body)) ≡ false) (cond (not t) (waiter ∷ no_longer_waiting id waiters) (no_longer_waiting id waiters))
    by_test true e ih = ih
    by_test false e ih =
        (ap is_decided (cond-false _ (Some Aborted) (recorded waiter.id (phase_of waiter.body)) (apart e)) ∙ h.0, ih)

executed : (state : StoreState) (before : List ShardPacket) (packet : ShardPacket) (packets : List ShardPacket)
    → Apart state (before ++ packet ∷ packets) → Apart (execute state packet) (before ++ packets)
executed state before packet packets apart =
    let rest = once_without before packet packets apart.once in
    record {
      held = held_executed state.recorded packet.id packet.body (answer_of packet.body state.values) state.holding apart.held;
      fresh = fresh_noted state.recorded packet.id (phase_of packet.body) (answer_of packet.body state.values) (before ++ packets)
          (Each-append _ before packets (Each-left _ before (packet ∷ packets) apart.fresh) (Each-right _ before (packet ∷ packets) apart.fresh).1) rest.1;
      once = rest.0;
    }

releases : (at : Place) (state : StoreState) (before packets : List ShardPacket) → Apart state (before ++ packets)
    → ApartStep (release at state before packets)
releases at state before [] apart =
    subst (λ (waiters : List ShardPacket). Apart (record state { waiting = before }) waiters) (append-nil before)
    (record { held = apart.held; fresh = apart.fresh; once = apart.once })
releases at state before (packet ∷ packets) apart = by_test (blocked state.holding before (locks_of packet.body))
    (releases at state (before ++ packet ∷ []) packets (subst (λ (waiters : List ShardPacket). Apart state waiters) (sym (append_assoc before (packet ∷ []) packets)) apart))
    (releases at (execute state packet) before packets (executed state before packet packets apart))
  where
    by_test : (t : Bool) → ApartStep (release at state (before ++ packet ∷ []) packets)
        → ApartStep (release at (execute state packet) before packets)
        → ApartStep (elim t [
          | true ↦ release at state (before ++ packet ∷ []) packets
          | false ↦ also (done at packet (answer_of packet.body state.values) true) (release at (execute state packet) before packets)
        ])
    by_test true stays goes = stays
    by_test false stays goes = record { held = goes.held; fresh = goes.fresh; once = goes.once }

arrives_new : (state : StoreState) (packet : ShardPacket) → Apart state state.waiting
    → is_decided (state.recorded packet.id (phase_of packet.body)) ≡ false → waits packet.id state.waiting ≡ false
    → ApartStep (arrive_new state packet)
arrives_new state packet apart new alone =
    by_test (is_prelim packet.body && is_decided (state.decided packet.id))
    (blocked state.holding state.waiting (locks_of packet.body))
  where
    others : Each (λ waiter. same_id packet.id waiter.id ≡ false) state.waiting
    others = others_wait packet.id state.waiting alone

    queued : Apart state (state.waiting ++ packet ∷ [])
    queued = record {
      held = apart.held;
      fresh = Each-append _ state.waiting (packet ∷ []) apart.fresh (new, tt);
      once = once_added state.waiting packet apart.once others;
    }

    by_test : (t u : Bool) → ApartStep (elim t [
      | true ↦ only (record state { recorded = note state.recorded packet.id (phase_of packet.body) Aborted }) (done packet.at packet Aborted false)
      | false ↦
          elim u [
            | true ↦ nothing_done (record state { waiting = state.waiting ++ packet ∷ [] })
            | false ↦ only (execute state packet) (done packet.at packet (answer_of packet.body state.values) false)
          ]
    ])
    by_test true u = record {
      held = λ id h. known_noted state.recorded packet.id (phase_of packet.body) Aborted id Phase.Prelim (apart.held id h);
      fresh = fresh_noted state.recorded packet.id (phase_of packet.body) Aborted state.waiting apart.fresh others;
      once = apart.once;
    }
    by_test false true = record { held = queued.held; fresh = queued.fresh; once = queued.once }
    by_test false false =
        subst (λ (waiters : List ShardPacket). Apart (execute state packet) waiters) (append-nil state.waiting)
        (executed state state.waiting packet [] queued)

arrives : (state : StoreState) (packet : ShardPacket) → Apart state state.waiting → ApartStep (arrive state packet)
arrives state packet apart = by_record (state.recorded packet.id (phase_of packet.body)) refl (waits packet.id state.waiting) refl
  where
    by_record : (found : Option Answer) → state.recorded packet.id (phase_of packet.body) ≡ found → (u : Bool) → waits packet.id state.waiting ≡ u → ApartStep (elim found [
      | Some answer ↦ only state (done packet.at packet answer false)
      | None ↦ elim u [ true ↦ nothing_done state | false ↦ arrive_new state packet ]
    ])
    by_record (Some answer) r u w = apart
    by_record None r true w = apart
    by_record None r false w = arrives_new state packet apart (ap is_decided r) w

concludes : (state : StoreState) (packet : ShardPacket) (outcome : Answer) (writes : List Write) → Apart state state.waiting
    → ApartStep (conclude state packet outcome writes)
concludes state packet outcome writes apart =
    by_decided (state.decided packet.id) (holds packet.id state.holding) (list_any (is_prelim_of packet.id) state.waiting)
  where
    by_decided : (found : Option Answer) (t u : Bool) → ApartStep (elim found [
      | Some decided ↦ only state (done packet.at packet decided false)
      | None ↦ elim t [
        | true ↦ also (done packet.at packet outcome false) (release packet.at (end_holding state packet outcome writes) [] state.waiting)
        | false ↦
            elim u [
              | true ↦ also (done packet.at packet Aborted false)
                  (all_also (aborted_late packet.at packet.id state.waiting) (release packet.at (end_waiting state packet) [] (no_longer_waiting packet.id state.waiting)))
              | false ↦ only (record state { decided = decide state.decided packet.id Aborted }) (done packet.at packet Aborted false)
            ]
      ]
    ])
    by_decided (Some answer) t u = apart
    by_decided None true u = releases packet.at (end_holding state packet outcome writes) [] state.waiting
        (record { held = λ id h. apart.held id (fewer id packet.id state.holding h); fresh = apart.fresh; once = apart.once })
    by_decided None false true = releases packet.at (end_waiting state packet) [] (no_longer_waiting packet.id state.waiting)
        (record {
          held = λ id h. known_noted state.recorded packet.id Phase.Prelim Aborted id Phase.Prelim (apart.held id h);
          fresh = fresh_filtered state.recorded packet.id state.waiting apart.fresh;
          once = once_filtered (λ waiter. not (is_prelim_of packet.id waiter)) state.waiting apart.once;
        })
    by_decided None false false = record { held = apart.held; fresh = apart.fresh; once = apart.once }

steps : (body : Body) (state : StoreState) (packet : ShardPacket) → Apart state state.waiting
    → ApartStep (step_by body state packet)
steps (Independent ops) state packet apart = arrives state packet apart
steps (Prelim locks) state packet apart = arrives state packet apart
steps (Commit keys writes) state packet apart = concludes state packet Committed writes apart
steps (Abort keys) state packet apart = concludes state packet Aborted [] apart

apart_run : (packets : List ShardPacket) (state : StoreState) → Apart state state.waiting
    → Apart (run_state state packets) (run_state state packets).waiting
apart_run [] state apart = apart
apart_run (packet ∷ packets) state apart = apart_run packets (step state packet).state (steps packet.body state packet apart)

not_both : (state : StoreState) (id : TxnId) (waiters : List ShardPacket) → is_decided (state.recorded id Phase.Prelim) ≡ true
    → Each (λ waiter. is_decided (state.recorded waiter.id (phase_of waiter.body)) ≡ false) waiters
    → list_any (is_prelim_of id) waiters ≡ true → ⊥
not_both state id [] known fresh waits = both_ways _ refl waits
not_both state id (waiter ∷ waiters) known fresh waits =
    by_test (or_cases (is_prelim_of id waiter) (list_any (is_prelim_of id) waiters) waits) (not_both state id waiters known fresh.1)
  where
    by_test : ((is_prelim_of id waiter ≡ true) ⊎ (list_any (is_prelim_of id) waiters ≡ true))
        → (list_any (is_prelim_of id) waiters ≡ true → ⊥) → ⊥
    by_test (inl t) ih =
        let parts = and_parts (same_id id waiter.id) (is_prelim waiter.body) t in
        both_ways _ fresh.0 (subst (λ (other : TxnId). is_decided (state.recorded other (phase_of waiter.body)) ≡ true) (same_id-true id waiter.id parts.0)
        (subst (λ (phase : Phase). is_decided (state.recorded id phase) ≡ true) (sym (prelim_phase waiter.body parts.1)) known))
    by_test (inr t) ih = ih t

-- A PRELIMINARY THAT HOLDS DOESN'T WAIT
pub holder_waits_not : (packets : List ShardPacket) (id : TxnId) → holds id (run_state empty packets).holding ≡ true
    → list_any (is_prelim_of id) (run_state empty packets).waiting ≡ true → ⊥
holder_waits_not packets id holding waiting =
    let apart = apart_run packets empty (record { held = λ other h. absurd (both_ways _ refl h); fresh = tt; once = tt }) in
    not_both (run_state empty packets) id (run_state empty packets).waiting (apart.held id holding) apart.fresh waiting
