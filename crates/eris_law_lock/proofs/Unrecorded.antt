-- Whatever the list, no conclusion is recorded.
-- WHAT WAITS IS NO CONCLUSION, and no conclusion is recorded
use Rattle.eris_base.specs.declared.ids.Phase.{Phase}
use Rattle.eris_base.specs.declared.ids.Place.{Place}
use Rattle.eris_base.specs.declared.ids.TxnId.{TxnId}
use Rattle.eris_base.proofs.Each.{Each-append, Each-filter}
use Rattle.eris_base.specs.Each.{Each}
use Rattle.eris_locks.specs.LockTable.{Stepped, aborted_late, all_also, also, answer_of, arrive, conclude, done, end_holding, end_waiting, execute, nothing_done, only, release, run_state, step, step_by}
use Rattle.eris_locks.specs.Locks.{locks_of}
use Rattle.eris_locks.specs.States.{StoreState, blocked, decide, empty, holds, is_conclusory, is_decided, is_prelim, is_prelim_of, no_longer_waiting, note, phase_of, same_phase, waits}
use Rattle.eris_base.specs.TxnIds.{same_id}
use Rattle.eris_locks.specs.declared.shard_packet.ShardPacket.{ShardPacket}
use Rattle.eris_txn.specs.declared.answer.Answer.{Answer}
use Rattle.eris_txn.specs.declared.answer.Answer.TheVariants.{Aborted, Committed}
use Rattle.eris_txn.specs.declared.body.Body.{Body}
use Rattle.eris_txn.specs.declared.body.Body.TheVariants.{Abort, Commit, Independent, Prelim}
use Rattle.eris_txn.specs.declared.plan.Write.{Write}
use Rattle.std.proofs.Common.{Bool, List, None, Option, Some, [], ap, false, not, refl, true, ◌&&◌, ◌++◌, ◌∙◌, ◌∷◌, ◌≡◌}
use Rattle.std.proofs.lemmas.Bool.{cond-false}
use Rattle.std.specs.List.{list_any}

pub record Unrecorded (state : StoreState) (waiters : List ShardPacket) : Type 0 where
  pub none : (id : TxnId) → state.recorded id Phase.Conclude ≡ None
  pub plain : Each (λ waiter. is_conclusory waiter.body ≡ false) waiters

abbrev pub UnrecordedStep : Stepped → Type 0
UnrecordedStep stepped = Unrecorded stepped.state stepped.state.waiting

not_conclusion : (body : Body) → is_conclusory body ≡ false → same_phase (phase_of body) Phase.Conclude ≡ false
not_conclusion (Independent ops) h = refl
not_conclusion (Prelim locks) h = refl
not_conclusion (Commit keys writes) h = cc
not_conclusion (Abort keys) h = cc

and_no : (b : Bool) → (b && false) ≡ false
and_no true = refl
and_no false = refl

-- an answer of another phase is noted
none_noted : (recorded : TxnId → Phase → Option Answer) (id : TxnId) (phase : Phase) (answer : Answer)
    → same_phase phase Phase.Conclude ≡ false
    → ((other : TxnId) → recorded other Phase.Conclude ≡ None) → (other : TxnId)
    → note recorded id phase answer other Phase.Conclude ≡ None
none_noted recorded id phase answer apart none other =
    cond-false (same_id id other && same_phase phase Phase.Conclude) (Some answer) (recorded other Phase.Conclude)
    (ap (λ t. same_id id other && t) apart ∙ and_no (same_id id other)) ∙ none other

executed : (state : StoreState) (packet : ShardPacket) → is_conclusory packet.body ≡ false
    → ((id : TxnId) → state.recorded id Phase.Conclude ≡ None)
    → (id : TxnId) → (execute state packet).recorded id Phase.Conclude ≡ None
executed state packet plain none =
    none_noted state.recorded packet.id (phase_of packet.body) (answer_of packet.body state.values) (not_conclusion packet.body plain) none

releases : (at : Place) (state : StoreState) (before packets : List ShardPacket)
    → ((id : TxnId) → state.recorded id Phase.Conclude ≡ None)
    → Each (λ waiter. is_conclusory waiter.body ≡ false) before → Each (λ waiter. is_conclusory waiter.body ≡ false) packets
    → UnrecordedStep (release at state before packets)
releases at state before [] none stays more = record { none = none; plain = stays }
releases at state before (packet ∷ packets) none stays more = by_test (blocked state.holding before (locks_of packet.body))
    (releases at state (before ++ packet ∷ []) packets none (Each-append _ before (packet ∷ []) stays (more.0, tt)) more.1)
    (releases at (execute state packet) before packets (executed state packet more.0 none) stays more.1)
  where
    by_test : (t : Bool) → UnrecordedStep (release at state (before ++ packet ∷ []) packets)
        → UnrecordedStep (release at (execute state packet) before packets)
        → UnrecordedStep (elim t [
          | true ↦ release at state (before ++ packet ∷ []) packets
          | false ↦ also (done at packet (answer_of packet.body state.values) true) (release at (execute state packet) before packets)
        ])
    by_test true kept goes = kept
    by_test false kept goes = record { none = goes.none; plain = goes.plain }

arrives : (state : StoreState) (packet : ShardPacket) → is_conclusory packet.body ≡ false → Unrecorded state state.waiting
    → UnrecordedStep (arrive state packet)
arrives state packet plain kept = by_tests (state.recorded packet.id (phase_of packet.body)) (waits packet.id state.waiting)
    (is_prelim packet.body && is_decided (state.decided packet.id)) (blocked state.holding state.waiting (locks_of packet.body))
  where
    by_tests : (found : Option Answer) (t u v : Bool) → UnrecordedStep (elim found [
      | Some answer ↦ only state (done packet.at packet answer false)
      | None ↦ elim t [
        | true ↦ nothing_done state
        | false ↦
            elim u [
              | true ↦ only (record state { recorded = note state.recorded packet.id (phase_of packet.body) Aborted }) (done packet.at packet Aborted false)
              | false ↦
                  elim v [
                    | true ↦ nothing_done (record state { waiting = state.waiting ++ packet ∷ [] })
                    | false ↦ only (execute state packet) (done packet.at packet (answer_of packet.body state.values) false)
                  ]
            ]
      ]
    ])
    by_tests (Some answer) t u v = kept
    by_tests None true u v = kept
    by_tests None false true v =
        record { none = none_noted state.recorded packet.id (phase_of packet.body) Aborted (not_conclusion packet.body plain) kept.none; plain = kept.plain }
    by_tests None false false true =
        record { none = kept.none; plain = Each-append _ state.waiting (packet ∷ []) kept.plain (plain, tt) }
    by_tests None false false false = record { none = executed state packet plain kept.none; plain = kept.plain }

concludes : (state : StoreState) (packet : ShardPacket) (outcome : Answer) (writes : List Write) → Unrecorded state state.waiting
    → UnrecordedStep (conclude state packet outcome writes)
concludes state packet outcome writes kept =
    by_decided (state.decided packet.id) (holds packet.id state.holding) (list_any (is_prelim_of packet.id) state.waiting)
  where
    by_decided : (found : Option Answer) (t u : Bool) → UnrecordedStep (elim found [
      | Some decided ↦ only state (done packet.at packet decided false)
      | None ↦ elim t [
        | true ↦ also (done packet.at packet outcome false) (release packet.at (end_holding state packet outcome writes) [] state.waiting)
        | false ↦
            elim u [
              | true ↦ also (done packet.at packet Aborted false)
                  (all_also (aborted_late packet.at packet.id state.waiting) (release packet.at (end_waiting state packet) [] (no_longer_waiting packet.id state.waiting)))
              | false ↦ only (record state { decided = decide state.decided packet.id Aborted }) (done packet.at packet Aborted false)
            ]
      ]
    ])
    by_decided (Some answer) t u = kept
    by_decided None true u = releases packet.at (end_holding state packet outcome writes) [] state.waiting kept.none tt kept.plain
    by_decided None false true = releases packet.at (end_waiting state packet) [] (no_longer_waiting packet.id state.waiting)
        (none_noted state.recorded packet.id Phase.Prelim Aborted refl kept.none) tt (Each-filter _ (λ waiter. not (is_prelim_of packet.id waiter)) state.waiting kept.plain)
    by_decided None false false = record { none = kept.none; plain = kept.plain }

steps : (body : Body) (state : StoreState) (packet : ShardPacket) → packet.body ≡ body → Unrecorded state state.waiting
    → UnrecordedStep (step_by body state packet)
steps (Independent ops) state packet is kept = arrives state packet (ap is_conclusory is) kept
steps (Prelim locks) state packet is kept = arrives state packet (ap is_conclusory is) kept
steps (Commit keys writes) state packet is kept = concludes state packet Committed writes kept
steps (Abort keys) state packet is kept = concludes state packet Aborted [] kept

unrecorded_run : (packets : List ShardPacket) (state : StoreState) → Unrecorded state state.waiting
    → Unrecorded (run_state state packets) (run_state state packets).waiting
unrecorded_run [] state kept = kept
unrecorded_run (packet ∷ packets) state kept =
    unrecorded_run packets (step state packet).state (steps packet.body state packet refl kept)

-- NO CONCLUSION IS RECORDED
pub conclusion_unrecorded : (packets : List ShardPacket) (id : TxnId) → (run_state empty packets).recorded id Phase.Conclude ≡ None
conclusion_unrecorded packets id = (unrecorded_run packets empty (record { none = λ other. refl; plain = tt })).none id
