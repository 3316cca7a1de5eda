-- What is recorded or decided stays.
use Rattle.eris_base.specs.declared.ids.Phase.{Phase}
use Rattle.eris_base.specs.declared.ids.Place.{Place}
use Rattle.eris_base.specs.declared.ids.TxnId.{TxnId}
use Rattle.eris_base.proofs.Each.{Each-right}
use Rattle.eris_base.proofs.TxnIdLaws.{same_id-true}
use Rattle.eris_base.specs.Each.{Each}
use Rattle.eris_base.specs.TxnIds.{same_id}
use Rattle.eris_law_lock.proofs.Ended.{state_after}
use Rattle.eris_law_lock.proofs.Prelims.{prelim_phase}
use Rattle.eris_law_queue.proofs.Orderly.{Known, ended_holding, ended_waiting, executed, known_from_empty, known_step}
use Rattle.eris_locks.proofs.PhaseLaws.{same_phase-true}
use Rattle.eris_locks.specs.declared.shard_packet.ShardPacket.{ShardPacket}
use Rattle.eris_locks.specs.LockTable.{Stepped, aborted_late, all_also, also, answer_of, arrive, conclude, done, end_holding, end_waiting, execute, nothing_done, only, release, run_state, step, step_by}
use Rattle.eris_locks.specs.Locks.{locks_of}
use Rattle.eris_locks.specs.States.{StoreState, blocked, decide, empty, holds, is_decided, is_prelim, is_prelim_of, no_longer_waiting, note, phase_of, same_phase, waits}
use Rattle.eris_txn.specs.declared.answer.Answer.{Answer}
use Rattle.eris_txn.specs.declared.answer.Answer.TheVariants.{Aborted, Committed}
use Rattle.eris_txn.specs.declared.body.Body.{Body}
use Rattle.eris_txn.specs.declared.body.Body.TheVariants.{Abort, Commit, Independent, Prelim}
use Rattle.eris_txn.specs.declared.plan.Write.{Write}
use Rattle.std.proofs.Common.{Bool, List, None, Option, Some, [], ap, append_assoc, false, inl, inr, refl, subst, sym, true, ◌&&◌, ◌++◌, ◌∙◌, ◌∷◌, ◌≡◌, ◌⊎◌}
use Rattle.std.proofs.lemmas.Bool.{and_parts, both_ways, cases_Bool, cond-false, or_cases}
use Rattle.std.specs.List.{list_any}

-- an answer that is noted where there was none
stays_noted : (recorded : TxnId → Phase → Option Answer) (id : TxnId) (phase : Phase) (given : Answer) (other : TxnId) (kind : Phase) (answer : Answer)
    → is_decided (recorded id phase) ≡ false → recorded other kind ≡ Some answer → note recorded id phase given other kind ≡ Some answer
stays_noted recorded id phase given other kind answer new here = by_test (cases_Bool (same_id id other && same_phase phase kind))
  where
    by_test : (((same_id id other && same_phase phase kind) ≡ true) ⊎ ((same_id id other && same_phase phase kind) ≡ false))
        → note recorded id phase given other kind ≡ Some answer
    by_test (inl h) =
        let parts = and_parts (same_id id other) (same_phase phase kind) h in
        let is : recorded id phase ≡ Some answer =
        ap (λ (one : TxnId). recorded one phase) (same_id-true id other parts.0) ∙ ap (λ (one : Phase). recorded other one) (same_phase-true phase kind parts.1) ∙ here in
        absurd (both_ways _ new (ap is_decided is))
    by_test (inr h) = cond-false (same_id id other && same_phase phase kind) (Some given) (recorded other kind) h ∙ here

-- one that is decided where it wasn't
stays_decided : (decided : TxnId → Option Answer) (id : TxnId) (given : Answer) (other : TxnId) (answer : Answer)
    → decided id ≡ None → decided other ≡ Some answer → decide decided id given other ≡ Some answer
stays_decided decided id given other answer new here = by_test (cases_Bool (same_id id other))
  where
    no : None ≡ Some answer → ⊥
    no k = cc

    by_test : ((same_id id other ≡ true) ⊎ (same_id id other ≡ false)) → decide decided id given other ≡ Some answer
    by_test (inl h) = absurd (no (sym new ∙ ap decided (same_id-true id other h) ∙ here))
    by_test (inr h) = cond-false (same_id id other) (Some given) (decided other) h ∙ here

module _ (id : TxnId) (phase : Phase) (answer : Answer) where
  -- the answer is recorded in the state that a step leaves
  abbrev Recorded : Stepped → Type 0
  Recorded stepped = stepped.state.recorded id phase ≡ Some answer

  recorded_released : (at : Place) (state : StoreState) (before packets : List ShardPacket) → Known state (before ++ packets)
      → state.recorded id phase ≡ Some answer → Recorded (release at state before packets)
  recorded_released at state before [] known here = here
  recorded_released at state before (packet ∷ packets) known here =
      by_test (blocked state.holding before (locks_of packet.body))
      (recorded_released at state (before ++ packet ∷ []) packets (subst (λ (waiters : List ShardPacket). Known state waiters) (sym (append_assoc before (packet ∷ []) packets)) known) here)
      (recorded_released at (execute state packet) before packets (executed state before packet packets known)
      (stays_noted state.recorded packet.id (phase_of packet.body) (answer_of packet.body state.values) id phase answer (Each-right _ before (packet ∷ packets) known.fresh).0 here))
    where
      by_test : (t : Bool) → Recorded (release at state (before ++ packet ∷ []) packets) → Recorded (release at (execute state packet) before packets)
          → Recorded (elim t [
            | true ↦ release at state (before ++ packet ∷ []) packets
            | false ↦ also (done at packet (answer_of packet.body state.values) true) (release at (execute state packet) before packets)
          ])
      by_test true stays goes = stays
      by_test false stays goes = goes

  recorded_arrives : (state : StoreState) (packet : ShardPacket) → state.recorded id phase ≡ Some answer → Recorded (arrive state packet)
  recorded_arrives state packet here =
      by_tests (state.recorded packet.id (phase_of packet.body)) refl (waits packet.id state.waiting)
      (is_prelim packet.body && is_decided (state.decided packet.id)) (blocked state.holding state.waiting (locks_of packet.body))
    where
      by_tests : (found : Option Answer) → state.recorded packet.id (phase_of packet.body) ≡ found → (t u v : Bool) → Recorded (elim found [
        | Some given ↦ only state (done packet.at packet given false)
        | None ↦ elim t [
          | true ↦ nothing_done state
          | false ↦
              elim u [
                | true ↦ only (record state { recorded = note state.recorded packet.id (phase_of packet.body) Aborted }) (done packet.at packet Aborted false)
                | false ↦
                    elim v [
                      | true ↦ nothing_done (record state { waiting = state.waiting ++ packet ∷ [] })
                      | false ↦ only (execute state packet) (done packet.at packet (answer_of packet.body state.values) false)
                    ]
              ]
        ]
      ])
      by_tests (Some given) r t u v = here
      by_tests None r true u v = here
      by_tests None r false true v =
          stays_noted state.recorded packet.id (phase_of packet.body) Aborted id phase answer (ap is_decided r) here
      by_tests None r false false true = here
      by_tests None r false false false =
          stays_noted state.recorded packet.id (phase_of packet.body) (answer_of packet.body state.values) id phase answer (ap is_decided r) here

-- a preliminary that waits has no answer
waiting_fresh : (state : StoreState) (id : TxnId) (waiters : List ShardPacket)
    → Each (λ waiter. is_decided (state.recorded waiter.id (phase_of waiter.body)) ≡ false) waiters
    → list_any (is_prelim_of id) waiters ≡ true → is_decided (state.recorded id Phase.Prelim) ≡ false
waiting_fresh state id [] fresh waits = absurd (both_ways _ refl waits)
waiting_fresh state id (waiter ∷ waiters) fresh waits =
    by_place (or_cases (is_prelim_of id waiter) (list_any (is_prelim_of id) waiters) waits) (λ later. waiting_fresh state id waiters fresh.1 later)
  where
    by_place : ((is_prelim_of id waiter ≡ true) ⊎ (list_any (is_prelim_of id) waiters ≡ true))
        → (list_any (is_prelim_of id) waiters ≡ true → is_decided (state.recorded id Phase.Prelim) ≡ false)
        → is_decided (state.recorded id Phase.Prelim) ≡ false
    by_place (inl here) later =
        let parts = and_parts (same_id id waiter.id) (is_prelim waiter.body) here in
        subst (λ (one : TxnId). is_decided (state.recorded one Phase.Prelim) ≡ false) (sym (same_id-true id waiter.id parts.0))
        (subst (λ (one : Phase). is_decided (state.recorded waiter.id one) ≡ false) (prelim_phase waiter.body parts.1) fresh.0)
    by_place (inr there) later = later there

recorded_concludes : (id : TxnId) (phase : Phase) (answer : Answer) (state : StoreState) (packet : ShardPacket) (outcome : Answer) (writes : List Write)
    → Known state state.waiting → state.recorded id phase ≡ Some answer → Recorded id phase answer (conclude state packet outcome writes)
recorded_concludes id phase answer state packet outcome writes known here =
    by_decided (state.decided packet.id) (holds packet.id state.holding) (list_any (is_prelim_of packet.id) state.waiting) refl
  where
    by_decided : (found : Option Answer) (t u : Bool) → list_any (is_prelim_of packet.id) state.waiting ≡ u → Recorded id phase answer (elim found [
      | Some decided ↦ only state (done packet.at packet decided false)
      | None ↦ elim t [
        | true ↦ also (done packet.at packet outcome false) (release packet.at (end_holding state packet outcome writes) [] state.waiting)
        | false ↦
            elim u [
              | true ↦ also (done packet.at packet Aborted false)
                  (all_also (aborted_late packet.at packet.id state.waiting) (release packet.at (end_waiting state packet) [] (no_longer_waiting packet.id state.waiting)))
              | false ↦ only (record state { decided = decide state.decided packet.id Aborted }) (done packet.at packet Aborted false)
            ]
      ]
    ])
    by_decided (Some given) t u w = here
    by_decided None true u w =
        recorded_released id phase answer packet.at (end_holding state packet outcome writes) [] state.waiting (ended_holding state packet outcome writes known) here
    by_decided None false true w =
        recorded_released id phase answer packet.at (end_waiting state packet) [] (no_longer_waiting packet.id state.waiting) (ended_waiting state packet known)
        (stays_noted state.recorded packet.id Phase.Prelim Aborted id phase answer (waiting_fresh state packet.id state.waiting known.fresh w) here)
    by_decided None false false w = here

recorded_step : (id : TxnId) (phase : Phase) (answer : Answer) (body : Body) (state : StoreState) (packet : ShardPacket)
    → Known state state.waiting → state.recorded id phase ≡ Some answer → Recorded id phase answer (step_by body state packet)
recorded_step id phase answer (Independent ops) state packet known here = recorded_arrives id phase answer state packet here
recorded_step id phase answer (Prelim locks) state packet known here = recorded_arrives id phase answer state packet here
recorded_step id phase answer (Commit keys writes) state packet known here = recorded_concludes id phase answer state packet Committed writes known here
recorded_step id phase answer (Abort keys) state packet known here = recorded_concludes id phase answer state packet Aborted [] known here

-- a decided id stays decided so
arrive_decided : (state : StoreState) (packet : ShardPacket) (id : TxnId) → (arrive state packet).state.decided id ≡ state.decided id
arrive_decided state packet id =
    by_tests (state.recorded packet.id (phase_of packet.body)) (waits packet.id state.waiting)
    (is_prelim packet.body && is_decided (state.decided packet.id)) (blocked state.holding state.waiting (locks_of packet.body))
  where
    by_tests : (found : Option Answer) (t u v : Bool) → (elim found as (λ x. Stepped) [
      | Some given ↦ only state (done packet.at packet given false)
      | None ↦ elim t [
        | true ↦ nothing_done state
        | false ↦
            elim u [
              | true ↦ only (record state { recorded = note state.recorded packet.id (phase_of packet.body) Aborted }) (done packet.at packet Aborted false)
              | false ↦
                  elim v [
                    | true ↦ nothing_done (record state { waiting = state.waiting ++ packet ∷ [] })
                    | false ↦ only (execute state packet) (done packet.at packet (answer_of packet.body state.values) false)
                  ]
            ]
      ]
    ]).state.decided id ≡ state.decided id
    by_tests (Some given) t u v = refl
    by_tests None true u v = refl
    by_tests None false true v = refl
    by_tests None false false true = refl
    by_tests None false false false = refl

-- releasing decides nothing
release_decided : (at : Place) (state : StoreState) (before packets : List ShardPacket) (id : TxnId)
    → (release at state before packets).state.decided id ≡ state.decided id
release_decided at state before [] id = refl
release_decided at state before (packet ∷ packets) id =
    by_test (blocked state.holding before (locks_of packet.body)) (release_decided at state (before ++ packet ∷ []) packets id)
    (release_decided at (execute state packet) before packets id)
  where
    by_test : (t : Bool) → (release at state (before ++ packet ∷ []) packets).state.decided id ≡ state.decided id
        → (release at (execute state packet) before packets).state.decided id ≡ state.decided id
        → (elim t as (λ b. Stepped) [
          | true ↦ release at state (before ++ packet ∷ []) packets
          | false ↦ also (done at packet (answer_of packet.body state.values) true) (release at (execute state packet) before packets)
        ]).state.decided id ≡ state.decided id
    by_test true stays goes = stays
    by_test false stays goes = goes

conclude_decided : (id : TxnId) (answer : Answer) (state : StoreState) (packet : ShardPacket) (outcome : Answer) (writes : List Write)
    → state.decided id ≡ Some answer → (conclude state packet outcome writes).state.decided id ≡ Some answer
conclude_decided id answer state packet outcome writes here =
    by_decided (state.decided packet.id) refl (holds packet.id state.holding) (list_any (is_prelim_of packet.id) state.waiting)
  where
    by_decided : (found : Option Answer) → state.decided packet.id ≡ found → (t u : Bool) → (elim found as (λ x. Stepped) [
      | Some decided ↦ only state (done packet.at packet decided false)
      | None ↦ elim t [
        | true ↦ also (done packet.at packet outcome false) (release packet.at (end_holding state packet outcome writes) [] state.waiting)
        | false ↦
            elim u [
              | true ↦ also (done packet.at packet Aborted false)
                  (all_also (aborted_late packet.at packet.id state.waiting) (release packet.at (end_waiting state packet) [] (no_longer_waiting packet.id state.waiting)))
              | false ↦ only (record state { decided = decide state.decided packet.id Aborted }) (done packet.at packet Aborted false)
            ]
      ]
    ]).state.decided id ≡ Some answer
    by_decided (Some given) r t u = here
    by_decided None r true u =
        release_decided packet.at (end_holding state packet outcome writes) [] state.waiting id
        ∙ stays_decided state.decided packet.id outcome id answer r here
    by_decided None r false true =
        release_decided packet.at (end_waiting state packet) [] (no_longer_waiting packet.id state.waiting) id
        ∙ stays_decided state.decided packet.id Aborted id answer r here
    by_decided None r false false = stays_decided state.decided packet.id Aborted id answer r here

decided_step : (id : TxnId) (answer : Answer) (body : Body) (state : StoreState) (packet : ShardPacket) → state.decided id ≡ Some answer
    → (step_by body state packet).state.decided id ≡ Some answer
decided_step id answer (Independent ops) state packet here = arrive_decided state packet id ∙ here
decided_step id answer (Prelim locks) state packet here = arrive_decided state packet id ∙ here
decided_step id answer (Commit keys writes) state packet here = conclude_decided id answer state packet Committed writes here
decided_step id answer (Abort keys) state packet here = conclude_decided id answer state packet Aborted [] here

-- over a list
recorded_run : (rest : List ShardPacket) (id : TxnId) (phase : Phase) (answer : Answer) (state : StoreState) → Known state state.waiting
    → state.recorded id phase ≡ Some answer → (run_state state rest).recorded id phase ≡ Some answer
recorded_run [] id phase answer state known here = here
recorded_run (packet ∷ rest) id phase answer state known here =
    recorded_run rest id phase answer (step state packet).state (known_step packet.body state packet refl known)
    (recorded_step id phase answer packet.body state packet known here)

decided_run : (rest : List ShardPacket) (id : TxnId) (answer : Answer) (state : StoreState) → state.decided id ≡ Some answer
    → (run_state state rest).decided id ≡ Some answer
decided_run [] id answer state here = here
decided_run (packet ∷ rest) id answer state here =
    decided_run rest id answer (step state packet).state (decided_step id answer packet.body state packet here)

-- WHAT IS RECORDED STAYS
pub recorded_stays : (packets rest : List ShardPacket) (id : TxnId) (phase : Phase) (answer : Answer)
    → (run_state empty packets).recorded id phase ≡ Some answer → (run_state empty (packets ++ rest)).recorded id phase ≡ Some answer
recorded_stays packets rest id phase answer here =
    ap (λ (state : StoreState). state.recorded id phase) (state_after packets rest empty)
    ∙ recorded_run rest id phase answer (run_state empty packets) (known_from_empty packets) here

-- AND SO DOES WHAT IS DECIDED
pub decided_stays : (packets rest : List ShardPacket) (id : TxnId) (outcome : Answer) → (run_state empty packets).decided id ≡ Some outcome
    → (run_state empty (packets ++ rest)).decided id ≡ Some outcome
decided_stays packets rest id outcome here =
    ap (λ (state : StoreState). state.decided id) (state_after packets rest empty)
    ∙ decided_run rest id outcome (run_state empty packets) here
