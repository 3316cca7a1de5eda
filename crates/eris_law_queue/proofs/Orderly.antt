-- Every state that a store reaches is orderly.
use Rattle.eris_base.specs.declared.ids.Phase.{Phase}
use Rattle.eris_base.specs.declared.ids.Place.{Place}
use Rattle.eris_base.specs.declared.ids.TxnId.{TxnId}
use Rattle.eris_base.proofs.Each.{Each-append, Each-filter, Each-left, Each-right}
use Rattle.eris_base.proofs.TxnIdLaws.{same_id-turned}
use Rattle.eris_base.specs.Each.{Each, EachAfter}
use Rattle.eris_base.specs.TxnIds.{same_id}
use Rattle.eris_law_lock.proofs.Early.{held_executed}
use Rattle.eris_law_lock.proofs.Fit.{known_noted}
use Rattle.eris_law_lock.proofs.SaidFrom.{fewer}
use Rattle.eris_law_lock.proofs.Stuck.{StuckFrom, run_stuck}
use Rattle.eris_law_queue.specs.Orderly.{HoldOnce, IsOrderly, WaitOnce}
use Rattle.eris_locks.specs.declared.held.Held.{Held}
use Rattle.eris_locks.specs.declared.shard_packet.ShardPacket.{ShardPacket}
use Rattle.eris_locks.specs.LockTable.{Stepped, aborted_late, all_also, also, answer_of, arrive, arrive_new, conclude, done, end_holding, end_waiting, execute, holding_after, nothing_done, only, release, run_state, step, step_by}
use Rattle.eris_locks.specs.Locks.{locks_of}
use Rattle.eris_locks.specs.States.{StoreState, blocked, decide, empty, holds, is_conclusory, is_decided, is_prelim, is_prelim_of, no_longer_waiting, note, phase_of, same_phase, waits}
use Rattle.eris_txn.specs.declared.answer.Answer.{Answer}
use Rattle.eris_txn.specs.declared.answer.Answer.TheVariants.{Aborted, Committed}
use Rattle.eris_txn.specs.declared.body.Body.{Body}
use Rattle.eris_txn.specs.declared.body.Body.TheVariants.{Abort, Commit, Independent, Prelim}
use Rattle.eris_txn.specs.declared.plan.Write.{Write}
use Rattle.std.proofs.Common.{Bool, List, None, Option, Some, [], ap, append_assoc, cond, false, inl, inr, not, refl, subst, sym, true, ◌&&◌, ◌++◌, ◌∙◌, ◌∷◌, ◌≡◌, ◌⊎◌}
use Rattle.std.proofs.lemmas.Bool.{both_ways, cases_Bool, cond-false, or_parts}
use Rattle.std.proofs.lemmas.List.{append-nil}
use Rattle.std.specs.List.{filter, list_any}

-- what is known of a store while these packets wait, but for what blocks them
pub record Known (state : StoreState) (waiters : List ShardPacket) : Type 0 where
  pub wait_once : WaitOnce waiters
  pub hold_once : HoldOnce state.holding
  pub acts : Each (λ waiter. is_conclusory waiter.body ≡ false) waiters
  pub fresh : Each (λ waiter. is_decided (state.recorded waiter.id (phase_of waiter.body)) ≡ false) waiters
  pub held : (id : TxnId) → holds id state.holding ≡ true → is_decided (state.recorded id Phase.Prelim) ≡ true

abbrev pub KnownStep : Stepped → Type 0
KnownStep stepped = Known stepped.state stepped.state.waiting

-- one is taken out of a list
once_without : (before : List ShardPacket) (packet : ShardPacket) (packets : List ShardPacket)
    → WaitOnce (before ++ packet ∷ packets)
    → WaitOnce (before ++ packets) × Each (λ waiter. same_id packet.id waiter.id ≡ false) (before ++ packets)
once_without [] packet packets h = (h.1, h.0)
once_without (waiter ∷ before) packet packets h =
    let rest = once_without before packet packets h.1 in
    let right = Each-right _ before (packet ∷ packets) h.0 in (
      (Each-append _ before packets (Each-left _ before (packet ∷ packets) h.0) right.1, rest.0),
      (same_id-turned packet.id waiter.id ∙ right.0, rest.1),
    )

pub each_without : (P : ShardPacket → Type 0) (before : List ShardPacket) (packet : ShardPacket) (packets : List ShardPacket)
    → Each P (before ++ packet ∷ packets) → Each P (before ++ packets)
each_without P before packet packets h =
    Each-append P before packets (Each-left P before (packet ∷ packets) h) (Each-right P before (packet ∷ packets) h).1

waiting_filtered : (test : ShardPacket → Bool) (waiters : List ShardPacket) → WaitOnce waiters → WaitOnce (filter test waiters)
waiting_filtered test [] h = tt
waiting_filtered test (waiter ∷ waiters) h = by_test (test waiter) (waiting_filtered test waiters h.1)
  where
    by_test : (t : Bool) → WaitOnce (filter test waiters) → WaitOnce (cond t (waiter ∷ filter test waiters) (filter test waiters))
    by_test true k = (Each-filter _ test waiters h.0, k)
    by_test false k = k

holding_filtered : (test : Held → Bool) (holding : List Held) → HoldOnce holding → HoldOnce (filter test holding)
holding_filtered test [] h = tt
holding_filtered test (held ∷ holding) h = by_test (test held) (holding_filtered test holding h.1)
  where
    by_test : (t : Bool) → HoldOnce (filter test holding) → HoldOnce (cond t (held ∷ filter test holding) (filter test holding))
    by_test true k = (Each-filter _ test holding h.0, k)
    by_test false k = k

-- those of other ids
others_wait : (id : TxnId) (waiters : List ShardPacket) → waits id waiters ≡ false
    → Each (λ waiter. same_id id waiter.id ≡ false) waiters
others_wait id [] h = tt
others_wait id (waiter ∷ waiters) h =
    let parts = or_parts (same_id id waiter.id) (waits id waiters) h in
    (parts.0, others_wait id waiters parts.1)

others_hold : (id : TxnId) (holding : List Held) → holds id holding ≡ false → Each (λ held. same_id id held.id ≡ false) holding
others_hold id [] h = tt
others_hold id (held ∷ holding) h =
    let parts = or_parts (same_id id held.id) (holds id holding) h in
    (parts.0, others_hold id holding parts.1)

-- one more at the end
waiting_added : (waiters : List ShardPacket) (packet : ShardPacket) → WaitOnce waiters
    → Each (λ waiter. same_id packet.id waiter.id ≡ false) waiters → WaitOnce (waiters ++ packet ∷ [])
waiting_added [] packet h k = (tt, tt)
waiting_added (waiter ∷ waiters) packet h k =
    (Each-append _ waiters (packet ∷ []) h.0 (same_id-turned waiter.id packet.id ∙ k.0, tt), waiting_added waiters packet h.1 k.1)

holding_added : (holding : List Held) (held : Held) → HoldOnce holding → Each (λ other. same_id held.id other.id ≡ false) holding
    → HoldOnce (holding ++ held ∷ [])
holding_added [] held h k = (tt, tt)
holding_added (other ∷ holding) held h k =
    (Each-append _ holding (held ∷ []) h.0 (same_id-turned other.id held.id ∙ k.0, tt), holding_added holding held h.1 k.1)

-- WHAT HAS NO ANSWER YET DOESN'T HOLD
pub fresh_holds_not : (recorded : TxnId → Phase → Option Answer) (holding : List Held) (id : TxnId)
    → ((other : TxnId) → holds other holding ≡ true → is_decided (recorded other Phase.Prelim) ≡ true)
    → is_decided (recorded id Phase.Prelim) ≡ false → holds id holding ≡ false
fresh_holds_not recorded holding id held fresh = by_test (cases_Bool (holds id holding))
  where
    by_test : ((holds id holding ≡ true) ⊎ (holds id holding ≡ false)) → holds id holding ≡ false
    by_test (inl h) = absurd (both_ways _ fresh (held id h))
    by_test (inr h) = h

holding_executed : (recorded : TxnId → Phase → Option Answer) (id : TxnId) (body : Body) (holding : List Held) → HoldOnce holding
    → ((other : TxnId) → holds other holding ≡ true → is_decided (recorded other Phase.Prelim) ≡ true)
    → is_decided (recorded id (phase_of body)) ≡ false → HoldOnce (holding_after id body holding)
holding_executed recorded id (Independent ops) holding h held fresh = h
holding_executed recorded id (Prelim locks) holding h held fresh =
    holding_added holding (record { id = id; locks = locks }) h (others_hold id holding (fresh_holds_not recorded holding id held fresh))
holding_executed recorded id (Commit keys writes) holding h held fresh = h
holding_executed recorded id (Abort keys) holding h held fresh = h

-- an answer that is noted for another id
fresh_noted : (recorded : TxnId → Phase → Option Answer) (id : TxnId) (phase : Phase) (answer : Answer) (waiters : List ShardPacket)
    → Each (λ waiter. is_decided (recorded waiter.id (phase_of waiter.body)) ≡ false) waiters
    → Each (λ waiter. same_id id waiter.id ≡ false) waiters
    → Each (λ waiter. is_decided (note recorded id phase answer waiter.id (phase_of waiter.body)) ≡ false) waiters
fresh_noted recorded id phase answer [] h k = tt
fresh_noted recorded id phase answer (waiter ∷ waiters) h k = (
  ap is_decided (cond-false (same_id id waiter.id && same_phase phase (phase_of waiter.body)) (Some answer) (recorded waiter.id (phase_of waiter.body)) (ap (λ t. t && same_phase phase (phase_of waiter.body)) k.0)) ∙ h.0,
  fresh_noted recorded id phase answer waiters h.1 k.1,
)

-- a waiting preliminary is noted and leaves
prelim_phase_is : (body : Body) → same_phase Phase.Prelim (phase_of body) ≡ is_prelim body
prelim_phase_is (Independent ops) = refl
prelim_phase_is (Prelim locks) = refl
prelim_phase_is (Commit keys writes) = refl
prelim_phase_is (Abort keys) = refl

fresh_filtered : (recorded : TxnId → Phase → Option Answer) (id : TxnId) (waiters : List ShardPacket)
    → Each (λ waiter. is_decided (recorded waiter.id (phase_of waiter.body)) ≡ false) waiters
    → Each (λ waiter. is_decided (note recorded id Phase.Prelim Aborted waiter.id (phase_of waiter.body)) ≡ false) (no_longer_waiting id waiters)
fresh_filtered recorded id [] h = tt
fresh_filtered recorded id (waiter ∷ waiters) h = by_test (is_prelim_of id waiter) refl (fresh_filtered recorded id waiters h.1)
  where
    apart : is_prelim_of id waiter ≡ false → (same_id id waiter.id && same_phase Phase.Prelim (phase_of waiter.body)) ≡ false
    apart e = ap (λ t. same_id id waiter.id && t) (prelim_phase_is waiter.body) ∙ e

    by_test : (t : Bool) → is_prelim_of id waiter ≡ t
        → Each (λ w. is_decided (note recorded id Phase.Prelim Aborted w.id (phase_of w.body)) ≡ false) (no_longer_waiting id waiters)
        → Each (λ w. is_decided (note recorded id Phase.Prelim Aborted w.id (phase_of w.body)) ≡ false) (cond (not t) (waiter ∷ no_longer_waiting id waiters) (no_longer_waiting id waiters))
    by_test true e ih = ih
    by_test false e ih =
        (ap is_decided (cond-false _ (Some Aborted) (recorded waiter.id (phase_of waiter.body)) (apart e)) ∙ h.0, ih)

-- ONE OF THOSE THAT WAIT IS EXECUTED
pub executed : (state : StoreState) (before : List ShardPacket) (packet : ShardPacket) (packets : List ShardPacket)
    → Known state (before ++ packet ∷ packets) → Known (execute state packet) (before ++ packets)
executed state before packet packets known =
    let rest = once_without before packet packets known.wait_once in
    let new = (Each-right _ before (packet ∷ packets) known.fresh).0 in
    record {
      wait_once = rest.0;
      hold_once = holding_executed state.recorded packet.id packet.body state.holding known.hold_once known.held new;
      acts = each_without _ before packet packets known.acts;
      fresh = fresh_noted state.recorded packet.id (phase_of packet.body) (answer_of packet.body state.values) (before ++ packets)
          (each_without _ before packet packets known.fresh) rest.1;
      held = held_executed state.recorded packet.id packet.body (answer_of packet.body state.values) state.holding known.held;
    }

releases : (at : Place) (state : StoreState) (before packets : List ShardPacket) → Known state (before ++ packets)
    → KnownStep (release at state before packets)
releases at state before [] known =
    subst (λ (waiters : List ShardPacket). Known (record state { waiting = before }) waiters) (append-nil before)
    (record { wait_once = known.wait_once; hold_once = known.hold_once; acts = known.acts; fresh = known.fresh; held = known.held })
releases at state before (packet ∷ packets) known = by_test (blocked state.holding before (locks_of packet.body))
    (releases at state (before ++ packet ∷ []) packets (subst (λ (waiters : List ShardPacket). Known state waiters) (sym (append_assoc before (packet ∷ []) packets)) known))
    (releases at (execute state packet) before packets (executed state before packet packets known))
  where
    by_test : (t : Bool) → KnownStep (release at state (before ++ packet ∷ []) packets)
        → KnownStep (release at (execute state packet) before packets)
        → KnownStep (elim t [
          | true ↦ release at state (before ++ packet ∷ []) packets
          | false ↦ also (done at packet (answer_of packet.body state.values) true) (release at (execute state packet) before packets)
        ])
    by_test true stays goes = stays
    by_test false stays goes =
        record { wait_once = goes.wait_once; hold_once = goes.hold_once; acts = goes.acts; fresh = goes.fresh; held = goes.held }

arrives_new : (state : StoreState) (packet : ShardPacket) → is_conclusory packet.body ≡ false → Known state state.waiting
    → is_decided (state.recorded packet.id (phase_of packet.body)) ≡ false → waits packet.id state.waiting ≡ false
    → KnownStep (arrive_new state packet)
arrives_new state packet plain known new alone =
    by_test (is_prelim packet.body && is_decided (state.decided packet.id))
    (blocked state.holding state.waiting (locks_of packet.body))
  where
    others : Each (λ waiter. same_id packet.id waiter.id ≡ false) state.waiting
    others = others_wait packet.id state.waiting alone

    queued : Known state (state.waiting ++ packet ∷ [])
    queued = record {
      wait_once = waiting_added state.waiting packet known.wait_once others;
      hold_once = known.hold_once;
      acts = Each-append _ state.waiting (packet ∷ []) known.acts (plain, tt);
      fresh = Each-append _ state.waiting (packet ∷ []) known.fresh (new, tt);
      held = known.held;
    }

    by_test : (t u : Bool) → KnownStep (elim t [
      | true ↦ only (record state { recorded = note state.recorded packet.id (phase_of packet.body) Aborted }) (done packet.at packet Aborted false)
      | false ↦
          elim u [
            | true ↦ nothing_done (record state { waiting = state.waiting ++ packet ∷ [] })
            | false ↦ only (execute state packet) (done packet.at packet (answer_of packet.body state.values) false)
          ]
    ])
    by_test true u = record {
      wait_once = known.wait_once;
      hold_once = known.hold_once;
      acts = known.acts;
      fresh = fresh_noted state.recorded packet.id (phase_of packet.body) Aborted state.waiting known.fresh others;
      held = λ id h. known_noted state.recorded packet.id (phase_of packet.body) Aborted id Phase.Prelim (known.held id h);
    }
    by_test false true =
        record { wait_once = queued.wait_once; hold_once = queued.hold_once; acts = queued.acts; fresh = queued.fresh; held = queued.held }
    by_test false false =
        subst (λ (waiters : List ShardPacket). Known (execute state packet) waiters) (append-nil state.waiting)
        (executed state state.waiting packet [] queued)

arrives : (state : StoreState) (packet : ShardPacket) → is_conclusory packet.body ≡ false → Known state state.waiting
    → KnownStep (arrive state packet)
arrives state packet plain known = by_record (state.recorded packet.id (phase_of packet.body)) refl (waits packet.id state.waiting) refl
  where
    by_record : (found : Option Answer) → state.recorded packet.id (phase_of packet.body) ≡ found → (u : Bool) → waits packet.id state.waiting ≡ u → KnownStep (elim found [
      | Some answer ↦ only state (done packet.at packet answer false)
      | None ↦ elim u [ true ↦ nothing_done state | false ↦ arrive_new state packet ]
    ])
    by_record (Some answer) r u w = known
    by_record None r true w = known
    by_record None r false w = arrives_new state packet plain known (ap is_decided r) w

-- A PRELIMINARY THAT HOLDS ENDS
pub ended_holding : (state : StoreState) (packet : ShardPacket) (outcome : Answer) (writes : List Write) → Known state state.waiting
    → Known (end_holding state packet outcome writes) state.waiting
ended_holding state packet outcome writes known = record {
  wait_once = known.wait_once;
  hold_once = holding_filtered (λ held. not (same_id packet.id held.id)) state.holding known.hold_once;
  acts = known.acts;
  fresh = known.fresh;
  held = λ id h. known.held id (fewer id packet.id state.holding h);
}

-- ONE THAT WAITS ENDS
pub ended_waiting : (state : StoreState) (packet : ShardPacket) → Known state state.waiting
    → Known (end_waiting state packet) (no_longer_waiting packet.id state.waiting)
ended_waiting state packet known = record {
  wait_once = waiting_filtered (λ waiter. not (is_prelim_of packet.id waiter)) state.waiting known.wait_once;
  hold_once = known.hold_once;
  acts = Each-filter _ (λ waiter. not (is_prelim_of packet.id waiter)) state.waiting known.acts;
  fresh = fresh_filtered state.recorded packet.id state.waiting known.fresh;
  held = λ id h. known_noted state.recorded packet.id Phase.Prelim Aborted id Phase.Prelim (known.held id h);
}

concludes : (state : StoreState) (packet : ShardPacket) (outcome : Answer) (writes : List Write) → Known state state.waiting
    → KnownStep (conclude state packet outcome writes)
concludes state packet outcome writes known =
    by_decided (state.decided packet.id) (holds packet.id state.holding) (list_any (is_prelim_of packet.id) state.waiting)
  where
    by_decided : (found : Option Answer) (t u : Bool) → KnownStep (elim found [
      | Some decided ↦ only state (done packet.at packet decided false)
      | None ↦ elim t [
        | true ↦ also (done packet.at packet outcome false) (release packet.at (end_holding state packet outcome writes) [] state.waiting)
        | false ↦
            elim u [
              | true ↦ also (done packet.at packet Aborted false)
                  (all_also (aborted_late packet.at packet.id state.waiting) (release packet.at (end_waiting state packet) [] (no_longer_waiting packet.id state.waiting)))
              | false ↦ only (record state { decided = decide state.decided packet.id Aborted }) (done packet.at packet Aborted false)
            ]
      ]
    ])
    by_decided (Some answer) t u = known
    by_decided None true u =
        releases packet.at (end_holding state packet outcome writes) [] state.waiting (ended_holding state packet outcome writes known)
    by_decided None false true =
        releases packet.at (end_waiting state packet) [] (no_longer_waiting packet.id state.waiting) (ended_waiting state packet known)
    by_decided None false false =
        record { wait_once = known.wait_once; hold_once = known.hold_once; acts = known.acts; fresh = known.fresh; held = known.held }

pub known_step : (body : Body) (state : StoreState) (packet : ShardPacket) → packet.body ≡ body → Known state state.waiting
    → KnownStep (step_by body state packet)
known_step (Independent ops) state packet is known = arrives state packet (ap is_conclusory is) known
known_step (Prelim locks) state packet is known = arrives state packet (ap is_conclusory is) known
known_step (Commit keys writes) state packet is known = concludes state packet Committed writes known
known_step (Abort keys) state packet is known = concludes state packet Aborted [] known

pub known_run : (packets : List ShardPacket) (state : StoreState) → Known state state.waiting
    → Known (run_state state packets) (run_state state packets).waiting
known_run [] state known = known
known_run (packet ∷ packets) state known = known_run packets (step state packet).state (known_step packet.body state packet refl known)

pub known_from_empty : (packets : List ShardPacket) → Known (run_state empty packets) (run_state empty packets).waiting
known_from_empty packets =
    known_run packets empty (record { wait_once = tt; hold_once = tt; acts = tt; fresh = tt; held = λ id h. absurd (both_ways _ refl h) })

-- each waiting one is blocked
each_stuck : (holding : List Held) (before waiters : List ShardPacket) → StuckFrom holding before waiters
    → EachAfter (λ ahead packet. blocked holding ahead (locks_of packet.body) ≡ true) before waiters
each_stuck holding before [] h = tt
each_stuck holding before (waiter ∷ waiters) h = (h.0, each_stuck holding (before ++ waiter ∷ []) waiters h.1)

-- EVERY STATE THAT A STORE REACHES IS ORDERLY
pub run_is_orderly : (packets : List ShardPacket) → IsOrderly (run_state empty packets)
run_is_orderly packets =
    let known = known_from_empty packets in
    record {
      stuck = each_stuck (run_state empty packets).holding [] (run_state empty packets).waiting (run_stuck packets empty tt);
      wait_once = known.wait_once;
      hold_once = known.hold_once;
      acts = known.acts;
      fresh = known.fresh;
      held = known.held;
    }
