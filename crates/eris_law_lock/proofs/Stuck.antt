-- Each waiting packet is blocked, over every list.
use Rattle.eris_base.specs.declared.ids.Phase.{Phase}
use Rattle.eris_base.specs.declared.ids.Place.{Place}
use Rattle.eris_base.specs.declared.ids.TxnId.{TxnId}
use Rattle.eris_locks.specs.LockTable.{arrive, arrive_new, conclude, conclude_first, execute, holding_after, release, run_state, step, step_by}
use Rattle.eris_locks.specs.Locks.{conflict, locks_of}
use Rattle.eris_locks.specs.States.{StoreState, blocked, decide, holds, is_decided, is_prelim, is_prelim_of, no_longer_holding, no_longer_waiting, note, phase_of, waits}
use Rattle.eris_locks.specs.declared.held.Held.{Held}
use Rattle.eris_locks.specs.declared.shard_packet.ShardPacket.{ShardPacket}
use Rattle.eris_txn.specs.Plans.{written}
use Rattle.eris_txn.specs.declared.answer.Answer.{Answer}
use Rattle.eris_txn.specs.declared.answer.Answer.TheVariants.{Aborted, Committed}
use Rattle.eris_txn.specs.declared.body.Body.{Body}
use Rattle.eris_txn.specs.declared.body.Body.TheVariants.{Abort, Commit, Independent, Prelim}
use Rattle.eris_txn.specs.declared.lock.Lock.{Lock}
use Rattle.eris_txn.specs.declared.plan.Write.{Write}
use Rattle.std.proofs.Common.{Bool, List, None, Option, Some, [], append_assoc, false, inl, inr, refl, subst, sym, true, ◌&&◌, ◌++◌, ◌∙◌, ◌∷◌, ◌≡◌, ◌⊎◌}
use Rattle.std.proofs.lemmas.Bool.{both_ways, or_cases, or_left, or_right}
use Rattle.std.proofs.lemmas.List.{append-nil}
use Rattle.std.proofs.lemmas.List.Folds.{list_any-append}
use Rattle.std.specs.List.{list_any}

-- each waiting one is blocked
abbrev pub StuckFrom : List Held → List ShardPacket → List ShardPacket → Type 0
StuckFrom holding before [] = Unit {0}
StuckFrom holding before (waiter ∷ waiters) =
    (blocked holding before (locks_of waiter.body) ≡ true) × StuckFrom holding (before ++ waiter ∷ []) waiters

abbrev pub Stuck : StoreState → Type 0
Stuck state = StuckFrom state.holding [] state.waiting

stuck_push : (holding : List Held) (before waiters : List ShardPacket) (waiter : ShardPacket) → StuckFrom holding before waiters
    → blocked holding (before ++ waiters) (locks_of waiter.body) ≡ true → StuckFrom holding before (waiters ++ waiter ∷ [])
stuck_push holding before [] waiter h b =
    (subst (λ (list : List ShardPacket). blocked holding list (locks_of waiter.body) ≡ true) (append-nil before) b, tt)
stuck_push holding before (other_waiter ∷ waiters) waiter h b =
    (h.0, stuck_push holding (before ++ other_waiter ∷ []) waiters waiter h.1 (subst (λ (list : List ShardPacket). blocked holding list (locks_of waiter.body) ≡ true) (sym (append_assoc before (other_waiter ∷ []) waiters)) b))

-- more is held
blocked_more : (held : Held) (holding : List Held) (before : List ShardPacket) (locks : List Lock)
    → blocked holding before locks ≡ true → blocked (holding ++ held ∷ []) before locks ≡ true
blocked_more held holding before locks b = split (or_cases _ _ b)
  where
    split : ((list_any (λ k. conflict k.locks locks) holding ≡ true) ⊎ (list_any (λ w. conflict (locks_of w.body) locks) before ≡ true))
        → blocked (holding ++ held ∷ []) before locks ≡ true
    split (inl q) = or_left _ _ (list_any-append (λ k. conflict k.locks locks) holding (held ∷ []) ∙ or_left _ _ q)
    split (inr q) = or_right _ _ q

stuck_more : (held : Held) (holding : List Held) (before waiters : List ShardPacket) → StuckFrom holding before waiters
    → StuckFrom (holding ++ held ∷ []) before waiters
stuck_more held holding before [] k = tt
stuck_more held holding before (waiter ∷ waiters) k =
    (blocked_more held holding before (locks_of waiter.body) k.0, stuck_more held holding (before ++ waiter ∷ []) waiters k.1)

stuck_after : (id : TxnId) (body : Body) (holding : List Held) (waiters : List ShardPacket) → StuckFrom holding [] waiters
    → StuckFrom (holding_after id body holding) [] waiters
stuck_after id (Independent ops) holding waiters k = k
stuck_after id (Prelim ls) holding waiters k = stuck_more (record { id = id; locks = ls }) holding [] waiters k
stuck_after id (Commit keys writes) holding waiters k = k
stuck_after id (Abort keys) holding waiters k = k

release_stuck : (at : Place) (waiters before : List ShardPacket) (state : StoreState) → StuckFrom state.holding [] before
    → Stuck (release at state before waiters).state
release_stuck at [] before state k = k
release_stuck at (waiter ∷ waiters) before state k = by_test (blocked state.holding before (locks_of waiter.body)) refl
    (λ b. release_stuck at waiters (before ++ waiter ∷ []) state (stuck_push state.holding [] before waiter k b))
    (release_stuck at waiters before (execute state waiter) (stuck_after waiter.id waiter.body state.holding before k))
  where
    by_test : (test : Bool) → blocked state.holding before (locks_of waiter.body) ≡ test
        → (blocked state.holding before (locks_of waiter.body) ≡ true → Stuck (release at state (before ++ waiter ∷ []) waiters).state)
        → Stuck (release at (execute state waiter) before waiters).state → Stuck (release at state before (waiter ∷ waiters)).state
    by_test true e f g = rw (e, release) (f e)
    by_test false e f g = rw (e, release) g

arrive_stuck : (state : StoreState) (packet : ShardPacket) → Stuck state → Stuck (arrive state packet).state
arrive_stuck state packet k = by_record (state.recorded packet.id (phase_of packet.body)) refl
  where
    by_blocked : (test : Bool) → (is_prelim packet.body && is_decided (state.decided packet.id)) ≡ false
        → blocked state.holding state.waiting (locks_of packet.body) ≡ test → Stuck (arrive_new state packet).state
    by_blocked true d e = rw (d, e, arrive_new) (stuck_push state.holding [] state.waiting packet k e)
    by_blocked false d e = rw (d, e, arrive_new) (stuck_after packet.id packet.body state.holding state.waiting k)

    by_decided : (test : Bool) → (is_prelim packet.body && is_decided (state.decided packet.id)) ≡ test
        → Stuck (arrive_new state packet).state
    by_decided true e = rw (e, arrive_new) k
    by_decided false e = by_blocked (blocked state.holding state.waiting (locks_of packet.body)) e refl

    by_waits : (test : Bool) → waits packet.id state.waiting ≡ test → state.recorded packet.id (phase_of packet.body) ≡ None
        → Stuck (arrive state packet).state
    by_waits true e h = rw (h, e, arrive) k
    by_waits false e h = rw (h, e, arrive) (by_decided (is_prelim packet.body && is_decided (state.decided packet.id)) refl)

    by_record : (found : Option Answer) → state.recorded packet.id (phase_of packet.body) ≡ found
        → Stuck (arrive state packet).state
    by_record (Some a) h = rw (h, arrive) k
    by_record None h = by_waits (waits packet.id state.waiting) refl h

conclude_stuck : (state : StoreState) (packet : ShardPacket) (outcome : Answer) (writes : List Write) → Stuck state
    → Stuck (conclude state packet outcome writes).state
conclude_stuck state packet outcome writes k = by_decided (state.decided packet.id) refl
  where
    by_waiting : (test : Bool) → list_any (is_prelim_of packet.id) state.waiting ≡ test → holds packet.id state.holding ≡ false
        → Stuck (conclude_first state packet outcome writes).state
    by_waiting true e h = rw (h, e, conclude_first) (release_stuck packet.at (no_longer_waiting packet.id state.waiting) []
        (record { values = state.values; recorded = note state.recorded packet.id Phase.Prelim Aborted; decided = decide state.decided packet.id Aborted; holding = state.holding; waiting = [] }) tt)
    by_waiting false e h = rw (h, e, conclude_first) k

    by_holding : (test : Bool) → holds packet.id state.holding ≡ test → Stuck (conclude_first state packet outcome writes).state
    by_holding true e = rw (e, conclude_first) (release_stuck packet.at state.waiting []
        (record { values = written writes state.values; recorded = state.recorded; decided = decide state.decided packet.id outcome; holding = no_longer_holding packet.id state.holding; waiting = [] }) tt)
    by_holding false e = by_waiting (list_any (is_prelim_of packet.id) state.waiting) refl e

    by_decided : (found : Option Answer) → state.decided packet.id ≡ found → Stuck (conclude state packet outcome writes).state
    by_decided (Some a) h = rw (h, conclude) k
    by_decided None h = rw (h, conclude) (by_holding (holds packet.id state.holding) refl)

step_stuck : (body : Body) (state : StoreState) (packet : ShardPacket) → Stuck state → Stuck (step_by body state packet).state
step_stuck (Independent ops) state packet k = arrive_stuck state packet k
step_stuck (Prelim ls) state packet k = arrive_stuck state packet k
step_stuck (Commit keys writes) state packet k = conclude_stuck state packet Committed writes k
step_stuck (Abort keys) state packet k = conclude_stuck state packet Aborted [] k

pub run_stuck : (packets : List ShardPacket) (state : StoreState) → Stuck state → Stuck (run_state state packets)
run_stuck [] state k = k
run_stuck (packet ∷ packets) state k = run_stuck packets (step state packet).state (step_stuck packet.body state packet k)

-- WHERE NOTHING HOLDS, NOTHING WAITS
pub none_waits : (state : StoreState) → Stuck state → state.holding ≡ [] → state.waiting ≡ []
none_waits state k h = by_list state.waiting (subst (λ (holding : List Held). StuckFrom holding [] state.waiting) h k)
  where
    by_list : (waiters : List ShardPacket) → StuckFrom [] [] waiters → waiters ≡ []
    by_list [] q = refl
    by_list (waiter ∷ waiters) q = absurd (both_ways _ refl q.0)
