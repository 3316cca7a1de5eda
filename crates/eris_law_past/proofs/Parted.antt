-- Where a conclusory packet of an id came, no preliminary of it holds or waits: when it came, what held was let go and
-- what waited was taken out, and what comes later is refused.
use Rattle.std.proofs.Common.{◌≡◌, ◌⊎◌, inl, inr, Bool, true, false, cond, not, ◌&&◌, ◌||◌, Option, Some, None, List, [], ◌∷◌, ◌++◌, refl, ap, sym, ◌∙◌, subst, append_assoc}
use Rattle.std.proofs.lemmas.Bool.{and_from, both_ways, cases_Bool, cond-false, or_parts}
use Rattle.std.proofs.lemmas.List.{append-nil}
use Rattle.std.proofs.lemmas.List.Folds.{list_any-append}
use Rattle.std.specs.List.{list_any}
use Rattle.eris_base.specs.declared.ids.Phase.{Phase}
use Rattle.eris_base.specs.declared.ids.Place.{Place}
use Rattle.eris_base.specs.declared.ids.TxnId.{TxnId}
use Rattle.eris_base.specs.Each.{Each}
use Rattle.eris_base.specs.TxnIds.{same_id}
use Rattle.eris_base.proofs.Each.{Each-append, Each-left, Each-right}
use Rattle.eris_base.proofs.TxnIdLaws.{same_id-refl, same_id-true}
use Rattle.eris_txn.specs.declared.answer.Answer.{Answer}
use Rattle.eris_txn.specs.declared.answer.Answer.TheVariants.{Aborted, Committed}
use Rattle.eris_txn.specs.declared.body.Body.{Body}
use Rattle.eris_txn.specs.declared.body.Body.TheVariants.{Abort, Commit, Independent, Prelim}
use Rattle.eris_txn.specs.declared.plan.Write.{Write}
use Rattle.eris_locks.specs.declared.held.Held.{Held}
use Rattle.eris_locks.specs.declared.shard_packet.ShardPacket.{ShardPacket}
use Rattle.eris_locks.specs.Law.{HasPacket}
use Rattle.eris_locks.specs.Locks.{locks_of}
use Rattle.eris_locks.specs.LockTable.{Stepped, aborted_late, all_also, also, answer_of, arrive, conclude, done, end_holding, end_waiting, execute, holding_after, nothing_done, only, release, run_state, step, step_by}
use Rattle.eris_locks.specs.ShardRun.{outcome_by, outcome_in}
use Rattle.eris_locks.specs.States.{StoreState, blocked, decide, empty, holds, is_decided, is_prelim, is_prelim_of, no_longer_holding, no_longer_waiting, note, phase_of, waits}
use Rattle.eris_law_lock.proofs.Ended.{undecided_first}
use Rattle.eris_law_lock.proofs.Prelims.{prelim_phase}
use Rattle.eris_law_lock.proofs.SaidFrom.{fewer}
use Rattle.eris_law_queue.proofs.Orderly.{Known, known_step}

-- THE INVARIANT, while these packets wait
pub record Parted (state : StoreState) (waiters : List ShardPacket) : Type 0 where
  pub held : (id : TxnId) → is_decided (state.decided id) ≡ true → holds id state.holding ≡ false
  pub waiting : Each (λ waiter. is_prelim waiter.body ≡ true → is_decided (state.decided waiter.id) ≡ false) waiters

abbrev PartedStep : Stepped → Type 0
PartedStep stepped = Parted stepped.state stepped.state.waiting

-- an id that isn't the one decided
decided_other : (decided : TxnId → Option Answer) (id : TxnId) (given : Answer) (other : TxnId) (b : Bool) → same_id id other ≡ false
    → is_decided (decided other) ≡ b → is_decided (decide decided id given other) ≡ b
decided_other decided id given other b apart is = ap is_decided (cond-false (same_id id other) (Some given) (decided other) apart) ∙ is

other_decided : (decided : TxnId → Option Answer) (id : TxnId) (given : Answer) (other : TxnId) (b : Bool) → same_id id other ≡ false
    → is_decided (decide decided id given other) ≡ b → is_decided (decided other) ≡ b
other_decided decided id given other b apart is = ap is_decided (sym (cond-false (same_id id other) (Some given) (decided other) apart)) ∙ is

false_from : (b : Bool) → (b ≡ true → ⊥) → b ≡ false
false_from true n = absurd (n refl)
false_from false n = refl

-- ---- one is executed
held_after : (decided : TxnId → Option Answer) (id : TxnId) (body : Body) (holding : List Held) → ((i : TxnId) → is_decided (decided i) ≡ true → holds i holding ≡ false)
    → (is_prelim body ≡ true → is_decided (decided id) ≡ false) → (i : TxnId) → is_decided (decided i) ≡ true → holds i (holding_after id body holding) ≡ false
held_after decided id (Independent ops) holding held new i is = held i is
held_after decided id (Prelim locks) holding held new i is =
    list_any-append (λ (one : Held). same_id i one.id) holding (record { id = id; locks = locks } ∷ [])
    ∙ (ap (λ b. b || (same_id i id || false)) (held i is) ∙ ap (λ b. b || false) (false_from (same_id i id) other))
  where
    other : same_id i id ≡ true → ⊥
    other same = both_ways _ (new refl) (ap (λ j. is_decided (decided j)) (sym (same_id-true i id same)) ∙ is)
held_after decided id (Commit keys writes) holding held new i is = held i is
held_after decided id (Abort keys) holding held new i is = held i is

executed : (state : StoreState) (packet : ShardPacket) (waiters : List ShardPacket) → Parted state waiters → (is_prelim packet.body ≡ true → is_decided (state.decided packet.id) ≡ false)
    → Parted (execute state packet) waiters
executed state packet waiters parted new = record { held = held_after state.decided packet.id packet.body state.holding parted.held new; waiting = parted.waiting }

released : (at : Place) (state : StoreState) (before packets : List ShardPacket) → Parted state (before ++ packets) → PartedStep (release at state before packets)
released at state before [] parted =
    let left = subst (λ (list : List ShardPacket). Parted state list) (append-nil before) parted in
    record { held = left.held; waiting = left.waiting }
released at state before (packet ∷ packets) parted =
    by_test (blocked state.holding before (locks_of packet.body))
    (released at state (before ++ packet ∷ []) packets (subst (λ (list : List ShardPacket). Parted state list) (sym (append_assoc before (packet ∷ []) packets)) parted))
    (released at (execute state packet) before packets (executed state packet (before ++ packets) without here))
  where
    here : is_prelim packet.body ≡ true → is_decided (state.decided packet.id) ≡ false
    here = (Each-right _ before (packet ∷ packets) parted.waiting).0

    without : Parted state (before ++ packets)
    without = record { held = parted.held; waiting = Each-append _ before packets (Each-left _ before (packet ∷ packets) parted.waiting) (Each-right _ before (packet ∷ packets) parted.waiting).1 }

    by_test : (t : Bool) → PartedStep (release at state (before ++ packet ∷ []) packets) → PartedStep (release at (execute state packet) before packets)
        → PartedStep (elim t [
          | true ↦ release at state (before ++ packet ∷ []) packets
          | false ↦ also (done at packet (answer_of packet.body state.values) true) (release at (execute state packet) before packets)
        ])
    by_test true stays goes = stays
    by_test false stays goes = goes

-- ---- an Independent or a Prelim comes
undecided_here : (prelim decided : Bool) → (prelim && decided) ≡ false → prelim ≡ true → decided ≡ false
undecided_here true decided neither is = neither
undecided_here false decided neither is = absurd (both_ways _ refl is)

arrives : (state : StoreState) (packet : ShardPacket) → Parted state state.waiting → PartedStep (arrive state packet)
arrives state packet parted =
    by_tests (state.recorded packet.id (phase_of packet.body)) (waits packet.id state.waiting)
    (is_prelim packet.body && is_decided (state.decided packet.id)) refl (blocked state.holding state.waiting (locks_of packet.body))
  where
    by_tests : (found : Option Answer) (t u : Bool) → (is_prelim packet.body && is_decided (state.decided packet.id)) ≡ u → (v : Bool) → PartedStep (elim found [
      | Some given ↦ only state (done packet.at packet given false)
      | None ↦ elim t [
        | true ↦ nothing_done state
        | false ↦
            elim u [
              | true ↦ only (record state { recorded = note state.recorded packet.id (phase_of packet.body) Aborted }) (done packet.at packet Aborted false)
              | false ↦
                  elim v [
                    | true ↦ nothing_done (record state { waiting = state.waiting ++ packet ∷ [] })
                    | false ↦ only (execute state packet) (done packet.at packet (answer_of packet.body state.values) false)
                  ]
            ]
      ]
    ])
    by_tests (Some given) t u e v = parted
    by_tests None true u e v = parted
    by_tests None false true e v = record { held = parted.held; waiting = parted.waiting }
    by_tests None false false e true = record {
      held = parted.held;
      waiting = Each-append _ state.waiting (packet ∷ []) parted.waiting (undecided_here (is_prelim packet.body) (is_decided (state.decided packet.id)) e, tt);
    }
    by_tests None false false e false = executed state packet state.waiting parted (undecided_here (is_prelim packet.body) (is_decided (state.decided packet.id)) e)

-- ---- a Commit or an Abort comes
let_go : (id : TxnId) (holding : List Held) → holds id (no_longer_holding id holding) ≡ false
let_go id [] = refl
let_go id (held ∷ holding) = by_test (same_id id held.id) refl (let_go id holding)
  where
    by_test : (t : Bool) → same_id id held.id ≡ t → holds id (no_longer_holding id holding) ≡ false
        → holds id (cond (not t) (held ∷ no_longer_holding id holding) (no_longer_holding id holding)) ≡ false
    by_test true e rest = rest
    by_test false e rest = ap (λ b. b || holds id (no_longer_holding id holding)) e ∙ rest

held_let_go : (decided : TxnId → Option Answer) (id : TxnId) (given : Answer) (holding : List Held) → ((i : TxnId) → is_decided (decided i) ≡ true → holds i holding ≡ false)
    → (i : TxnId) → is_decided (decide decided id given i) ≡ true → holds i (no_longer_holding id holding) ≡ false
held_let_go decided id given holding held i is = by_test (cases_Bool (same_id id i))
  where
    by_test : ((same_id id i ≡ true) ⊎ (same_id id i ≡ false)) → holds i (no_longer_holding id holding) ≡ false
    by_test (inl same) = subst (λ (j : TxnId). holds j (no_longer_holding id holding) ≡ false) (same_id-true id i same) (let_go id holding)
    by_test (inr apart) =
        false_from _ (λ still. both_ways _ (held i (other_decided decided id given i true apart is)) (fewer i id holding still))

held_undone : (decided : TxnId → Option Answer) (id : TxnId) (given : Answer) (holding : List Held) → holds id holding ≡ false → ((i : TxnId) → is_decided (decided i) ≡ true → holds i holding ≡ false)
    → (i : TxnId) → is_decided (decide decided id given i) ≡ true → holds i holding ≡ false
held_undone decided id given holding none held i is = by_test (cases_Bool (same_id id i))
  where
    by_test : ((same_id id i ≡ true) ⊎ (same_id id i ≡ false)) → holds i holding ≡ false
    by_test (inl same) = subst (λ (j : TxnId). holds j holding ≡ false) (same_id-true id i same) none
    by_test (inr apart) = held i (other_decided decided id given i true apart is)

-- what waits is of other ids, where a preliminary holds
each_apart : (state : StoreState) (id : TxnId) (given : Answer) (waiters : List ShardPacket)
    → Each (λ waiter. is_decided (state.recorded waiter.id (phase_of waiter.body)) ≡ false) waiters
    → is_decided (state.recorded id Phase.Prelim) ≡ true
    → Each (λ waiter. is_prelim waiter.body ≡ true → is_decided (state.decided waiter.id) ≡ false) waiters
    → Each (λ waiter. is_prelim waiter.body ≡ true → is_decided (decide state.decided id given waiter.id) ≡ false) waiters
each_apart state id given [] fresh known each = tt
each_apart state id given (waiter ∷ waiters) fresh known each =
    (λ prelim. decided_other state.decided id given waiter.id false (false_from _ (other prelim)) (each.0 prelim), each_apart state id given waiters fresh.1 known each.1)
  where
    other : is_prelim waiter.body ≡ true → same_id id waiter.id ≡ true → ⊥
    other prelim same =
        both_ways _ fresh.0 (ap (λ (phase : Phase). is_decided (state.recorded waiter.id phase)) (prelim_phase waiter.body prelim)
        ∙ (ap (λ (one : TxnId). is_decided (state.recorded one Phase.Prelim)) (sym (same_id-true id waiter.id same)) ∙ known))

-- where its preliminary waits no longer
each_left : (decided : TxnId → Option Answer) (id : TxnId) (given : Answer) (waiters : List ShardPacket)
    → Each (λ waiter. is_prelim waiter.body ≡ true → is_decided (decided waiter.id) ≡ false) waiters
    → Each (λ waiter. is_prelim waiter.body ≡ true → is_decided (decide decided id given waiter.id) ≡ false) (no_longer_waiting id waiters)
each_left decided id given [] each = tt
each_left decided id given (waiter ∷ waiters) each = by_test (same_id id waiter.id) (is_prelim waiter.body) refl refl (each_left decided id given waiters each.1)
  where
    by_test : (t u : Bool) → same_id id waiter.id ≡ t → is_prelim waiter.body ≡ u
        → Each (λ one. is_prelim one.body ≡ true → is_decided (decide decided id given one.id) ≡ false) (no_longer_waiting id waiters)
        → Each (λ one. is_prelim one.body ≡ true → is_decided (decide decided id given one.id) ≡ false) (cond (not (t && u)) (waiter ∷ no_longer_waiting id waiters) (no_longer_waiting id waiters))
    by_test true true e f rest = rest
    by_test true false e f rest = (λ prelim. absurd (both_ways _ f prelim), rest)
    by_test false u e f rest = (λ prelim. decided_other decided id given waiter.id false e (each.0 prelim), rest)

-- and where none waits
each_other : (decided : TxnId → Option Answer) (id : TxnId) (given : Answer) (waiters : List ShardPacket) → list_any (is_prelim_of id) waiters ≡ false
    → Each (λ waiter. is_prelim waiter.body ≡ true → is_decided (decided waiter.id) ≡ false) waiters
    → Each (λ waiter. is_prelim waiter.body ≡ true → is_decided (decide decided id given waiter.id) ≡ false) waiters
each_other decided id given [] none each = tt
each_other decided id given (waiter ∷ waiters) none each =
    let parts = or_parts (is_prelim_of id waiter) (list_any (is_prelim_of id) waiters) none in
    (λ prelim. decided_other decided id given waiter.id false (false_from _ (λ same. both_ways _ parts.0 (and_from _ _ same prelim))) (each.0 prelim), each_other decided id given waiters parts.1 each.1)

concludes : (state : StoreState) (packet : ShardPacket) (outcome : Answer) (writes : List Write) → Known state state.waiting → Parted state state.waiting
    → PartedStep (conclude state packet outcome writes)
concludes state packet outcome writes known parted =
    by_decided (state.decided packet.id) (holds packet.id state.holding) refl (list_any (is_prelim_of packet.id) state.waiting) refl
  where
    by_decided : (found : Option Answer) (t : Bool) → holds packet.id state.holding ≡ t → (u : Bool) → list_any (is_prelim_of packet.id) state.waiting ≡ u → PartedStep (elim found [
      | Some decided ↦ only state (done packet.at packet decided false)
      | None ↦ elim t [
        | true ↦ also (done packet.at packet outcome false) (release packet.at (end_holding state packet outcome writes) [] state.waiting)
        | false ↦
            elim u [
              | true ↦ also (done packet.at packet Aborted false)
                  (all_also (aborted_late packet.at packet.id state.waiting) (release packet.at (end_waiting state packet) [] (no_longer_waiting packet.id state.waiting)))
              | false ↦ only (record state { decided = decide state.decided packet.id Aborted }) (done packet.at packet Aborted false)
            ]
      ]
    ])
    by_decided (Some given) t e u w = parted
    by_decided None true e u w =
        released packet.at (end_holding state packet outcome writes) [] state.waiting (record {
          held = held_let_go state.decided packet.id outcome state.holding parted.held;
          waiting = each_apart state packet.id outcome state.waiting known.fresh (known.held packet.id e) parted.waiting;
        })
    by_decided None false e true w =
        released packet.at (end_waiting state packet) [] (no_longer_waiting packet.id state.waiting) (record {
          held = held_undone state.decided packet.id Aborted state.holding e parted.held;
          waiting = each_left state.decided packet.id Aborted state.waiting parted.waiting;
        })
    by_decided None false e false w = record {
      held = held_undone state.decided packet.id Aborted state.holding e parted.held;
      waiting = each_other state.decided packet.id Aborted state.waiting w parted.waiting;
    }

parted_step : (body : Body) (state : StoreState) (packet : ShardPacket) → Known state state.waiting → Parted state state.waiting → PartedStep (step_by body state packet)
parted_step (Independent ops) state packet known parted = arrives state packet parted
parted_step (Prelim locks) state packet known parted = arrives state packet parted
parted_step (Commit keys writes) state packet known parted = concludes state packet Committed writes known parted
parted_step (Abort keys) state packet known parted = concludes state packet Aborted [] known parted

parted_run : (packets : List ShardPacket) (state : StoreState) → Known state state.waiting → Parted state state.waiting
    → Parted (run_state state packets) (run_state state packets).waiting
parted_run [] state known parted = parted
parted_run (packet ∷ packets) state known parted =
    parted_run packets (step state packet).state (known_step packet.body state packet refl known) (parted_step packet.body state packet known parted)

parted : (packets : List ShardPacket) → Parted (run_state empty packets) (run_state empty packets).waiting
parted packets =
    parted_run packets empty (record { wait_once = tt; hold_once = tt; acts = tt; fresh = tt; held = λ id h. absurd (both_ways _ refl h) })
    (record { held = λ id h. absurd (both_ways _ refl h); waiting = tt })

-- ---- a conclusory packet that came
said_here : (body : Body) (later : Option Answer) → phase_of body ≡ Phase.Conclude → outcome_by body true later ≡ None → ⊥
said_here (Independent ops) later is none = cc
said_here (Prelim locks) later is none = cc
said_here (Commit keys writes) later is none = cc
said_here (Abort keys) later is none = cc

said_later : (body : Body) (here : Bool) (later : Option Answer) → outcome_by body here later ≡ None → later ≡ None
said_later (Independent ops) here later none = none
said_later (Prelim locks) here later none = none
said_later (Commit keys writes) true later none = cc
said_later (Commit keys writes) false later none = none
said_later (Abort keys) true later none = cc
said_later (Abort keys) false later none = none

pub concluded_says : (id : TxnId) (packets : List ShardPacket) → HasPacket id Phase.Conclude packets → outcome_in id packets ≡ None → ⊥
concluded_says id [] has none = has
concluded_says id (packet ∷ packets) (inl here) none =
    said_here packet.body (outcome_in id packets) here.1
    (subst (λ (b : Bool). outcome_by packet.body b (outcome_in id packets) ≡ None) (ap (λ (one : TxnId). same_id id one) here.0 ∙ same_id-refl id) none)
concluded_says id (packet ∷ packets) (inr there) none =
    concluded_says id packets there (said_later packet.body (same_id id packet.id) (outcome_in id packets) none)

-- ONCE A CONCLUSORY PACKET CAME, no preliminary of its id holds
pub ended_holds_not : (packets : List ShardPacket) (id : TxnId) → HasPacket id Phase.Conclude packets → holds id (run_state empty packets).holding ≡ false
ended_holds_not packets id has = (parted packets).held id (by_found ((run_state empty packets).decided id) refl)
  where
    by_found : (found : Option Answer) → (run_state empty packets).decided id ≡ found → is_decided ((run_state empty packets).decided id) ≡ true
    by_found (Some answer) is = ap is_decided is
    by_found None is = absurd (concluded_says id packets has (undecided_first packets empty id is).1)
