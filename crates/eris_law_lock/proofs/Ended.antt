-- A preliminary that is answered Aborted was ended early.
-- releasing decides nothing
use Rattle.eris_base.specs.declared.ids.Phase.{Phase}
use Rattle.eris_base.specs.declared.ids.Place.{Place}
use Rattle.eris_base.specs.declared.ids.TxnId.{TxnId}
use Rattle.eris_base.proofs.Each.{Each-append}
use Rattle.eris_law_lock.proofs.Early.{Early, EarlyDone, Ends, came_fewer, came_with, early_step}
use Rattle.eris_base.proofs.TxnIdLaws.{same_id-true, same_id-turned}
use Rattle.eris_base.specs.Each.{Each}
use Rattle.eris_locks.specs.Law.{EndedEarly}
use Rattle.eris_locks.specs.LockTable.{Stepped, aborted_late, all_also, also, answer_of, arrive, conclude, done, end_holding, end_waiting, execute, nothing_done, only, release, run_dones, run_state, step, step_by}
use Rattle.eris_locks.specs.Locks.{locks_of}
use Rattle.eris_locks.specs.ShardRun.{outcome_by, outcome_in}
use Rattle.eris_locks.specs.States.{StoreState, blocked, decide, empty, holds, is_conclusory, is_decided, is_prelim, is_prelim_of, no_longer_waiting, note, phase_of, waits}
use Rattle.eris_base.specs.TxnIds.{same_id}
use Rattle.eris_locks.specs.declared.shard_packet.ShardPacket.{ShardPacket}
use Rattle.eris_txn.specs.declared.answer.Answer.{Answer}
use Rattle.eris_txn.specs.declared.answer.Answer.TheVariants.{Aborted, Committed}
use Rattle.eris_txn.specs.declared.body.Body.{Body}
use Rattle.eris_txn.specs.declared.body.Body.TheVariants.{Abort, Commit, Independent, Prelim}
use Rattle.eris_txn.specs.declared.plan.Write.{Write}
use Rattle.std.proofs.Common.{Bool, List, None, Option, Some, [], ap, append_assoc, false, inl, inr, refl, subst, sym, true, ◌&&◌, ◌++◌, ◌∙◌, ◌∷◌, ◌≡◌, ◌⊎◌}
use Rattle.std.proofs.lemmas.Bool.{both_ways, cases_Bool, cond-false, cond-true}
use Rattle.std.proofs.lemmas.List.Folds.{list_any-append}
use Rattle.std.specs.List.{list_any}

release_decided : (at : Place) (state : StoreState) (before packets : List ShardPacket) (id : TxnId)
    → (release at state before packets).state.decided id ≡ state.decided id
release_decided at state before [] id = refl
release_decided at state before (packet ∷ packets) id =
    by_test (blocked state.holding before (locks_of packet.body)) (release_decided at state (before ++ packet ∷ []) packets id)
    (release_decided at (execute state packet) before packets id)
  where
    by_test : (test : Bool) → (release at state (before ++ packet ∷ []) packets).state.decided id ≡ state.decided id
        → (release at (execute state packet) before packets).state.decided id ≡ state.decided id
        → (elim test as (λ b. Stepped) [
          | true ↦ release at state (before ++ packet ∷ []) packets
          | false ↦ also (done at packet (answer_of packet.body state.values) true) (release at (execute state packet) before packets)
        ]).state.decided id ≡ state.decided id
    by_test true h k = h
    by_test false h k = k

-- what isn't decided after a step wasn't before, and the packet was no conclusory of it
pub record Undecided (state : StoreState) (packet : ShardPacket) (id : TxnId) : Type 0 where
  pub still : state.decided id ≡ None
  pub passes : outcome_by packet.body (same_id id packet.id) None ≡ None

arrive_decided : (state : StoreState) (packet : ShardPacket) (id : TxnId)
    → (arrive state packet).state.decided id ≡ state.decided id
arrive_decided state packet id =
    by_record (state.recorded packet.id (phase_of packet.body)) (waits packet.id state.waiting)
    (is_prelim packet.body && is_decided (state.decided packet.id)) (blocked state.holding state.waiting (locks_of packet.body))
  where
    by_record : (found : Option Answer) (other_test test v : Bool) → (elim found as (λ x. Stepped) [
      | Some answer ↦ only state (done packet.at packet answer false)
      | None ↦ elim other_test [
        | true ↦ nothing_done state
        | false ↦
            elim test [
              | true ↦ only (record state { recorded = note state.recorded packet.id (phase_of packet.body) Aborted }) (done packet.at packet Aborted false)
              | false ↦
                  elim v [
                    | true ↦ nothing_done (record state { waiting = state.waiting ++ packet ∷ [] })
                    | false ↦ only (execute state packet) (done packet.at packet (answer_of packet.body state.values) false)
                  ]
            ]
      ]
    ]).state.decided id ≡ state.decided id
    by_record (Some a) other_test test v = refl
    by_record None true test v = refl
    by_record None false true v = refl
    by_record None false false true = refl
    by_record None false false false = refl

not_there : (decided : TxnId → Option Answer) (id : TxnId) (given : Answer) (other_id : TxnId)
    → decide decided id given other_id ≡ None → (decided other_id ≡ None) × (same_id other_id id ≡ false)
not_there decided id given other_id h = by_test (cases_Bool (same_id id other_id))
  where
    no : Some given ≡ None → ⊥
    no k = cc

    by_test : ((same_id id other_id ≡ true) ⊎ (same_id id other_id ≡ false))
        → (decided other_id ≡ None) × (same_id other_id id ≡ false)
    by_test (inl t) = absurd (no (sym (cond-true _ _ _ t) ∙ h))
    by_test (inr n) = (sym (cond-false _ _ _ n) ∙ h, same_id-turned other_id id ∙ n)

conclude_decided : (state : StoreState) (packet : ShardPacket) (outcome : Answer) (writes : List Write) (id : TxnId)
    → (conclude state packet outcome writes).state.decided id ≡ None → (state.decided id ≡ None) × (same_id id packet.id ≡ false)
conclude_decided state packet outcome writes id =
    by_decided (state.decided packet.id) refl (holds packet.id state.holding) (list_any (is_prelim_of packet.id) state.waiting)
  where
    repeated : (answer : Answer) → state.decided packet.id ≡ Some answer → state.decided id ≡ None
        → ((same_id id packet.id ≡ true) ⊎ (same_id id packet.id ≡ false)) → same_id id packet.id ≡ false
    repeated answer d n (inl test) = absurd (no (sym d ∙ (ap state.decided (sym (same_id-true id packet.id test)) ∙ n)))
      where
        no : Some answer ≡ None → ⊥
        no k = cc
    repeated answer d n (inr test) = test

    by_decided : (found : Option Answer) → state.decided packet.id ≡ found → (test other_test : Bool) → (elim found as (λ x. Stepped) [
      | Some decided ↦ only state (done packet.at packet decided false)
      | None ↦ elim test [
        | true ↦ also (done packet.at packet outcome false) (release packet.at (end_holding state packet outcome writes) [] state.waiting)
        | false ↦
            elim other_test [
              | true ↦ also (done packet.at packet Aborted false) (all_also (aborted_late packet.at packet.id state.waiting) (release packet.at (end_waiting state packet) [] (no_longer_waiting packet.id state.waiting)))
              | false ↦ only (record state { decided = decide state.decided packet.id Aborted }) (done packet.at packet Aborted false)
            ]
      ]
    ]).state.decided id ≡ None → (state.decided id ≡ None) × (same_id id packet.id ≡ false)
    by_decided (Some answer) d test other_test h = (h, repeated answer d h (cases_Bool (same_id id packet.id)))
    by_decided None d true other_test h =
        not_there state.decided packet.id outcome id
        (sym (release_decided packet.at (end_holding state packet outcome writes) [] state.waiting id) ∙ h)
    by_decided None d false true h =
        not_there state.decided packet.id Aborted id
        (sym (release_decided packet.at (end_waiting state packet) [] (no_longer_waiting packet.id state.waiting) id) ∙ h)
    by_decided None d false false h = not_there state.decided packet.id Aborted id h

step_decided : (body : Body) (state : StoreState) (packet : ShardPacket) (id : TxnId)
    → (step_by body state packet).state.decided id ≡ None
    → (state.decided id ≡ None) × (outcome_by body (same_id id packet.id) None ≡ None)
step_decided (Independent ops) state packet id h = (sym (arrive_decided state packet id) ∙ h, refl)
step_decided (Prelim ls) state packet id h = (sym (arrive_decided state packet id) ∙ h, refl)
step_decided (Commit keys writes) state packet id h =
    let r = conclude_decided state packet Committed writes id h in
    (r.0, cond-false _ _ _ r.1)
step_decided (Abort keys) state packet id h =
    let r = conclude_decided state packet Aborted [] id h in
    (r.0, cond-false _ _ _ r.1)

-- where an id isn't decided, no conclusory packet of it came
pub undecided_first : (packets : List ShardPacket) (state : StoreState) (id : TxnId) → (run_state state packets).decided id ≡ None
    → (state.decided id ≡ None) × (outcome_in id packets ≡ None)
undecided_first [] state id h = (h, refl)
undecided_first (packet ∷ packets) state id h =
    let later = undecided_first packets (step state packet).state id h in
    let here = step_decided packet.body state packet id later.0 in
    (here.0, ap (outcome_by packet.body (same_id id packet.id)) later.1 ∙ here.1)

pub state_after : (packets rest : List ShardPacket) (state : StoreState)
    → run_state state (packets ++ rest) ≡ run_state (run_state state packets) rest
state_after [] rest state = refl
state_after (packet ∷ packets) rest state = state_after packets rest (step state packet).state

abbrev came_in : List ShardPacket → TxnId → Bool
came_in packets id = list_any (is_prelim_of id) packets

module _ (all : List ShardPacket) (kind : TxnId → Bool) where
  -- the rest of a list of which these packets came
  early_run : (packets front : List ShardPacket) → all ≡ front ++ packets
      → Each (λ packet. is_conclusory packet.body ≡ false → is_prelim packet.body ≡ kind packet.id) packets
      → (state : StoreState) → run_state empty front ≡ state → Early (EndedEarly all) kind (came_in front) state state.waiting
      → Each (EarlyDone (EndedEarly all) kind) (run_dones state packets)
  early_run [] front is k state at_s e = tt
  early_run (packet ∷ packets) front is k state at_s e =
      let one = early_step (EndedEarly all) kind (came_in front) state packet k.0 e ends in
      Each-append (EarlyDone (EndedEarly all) kind) (step state packet).dones (run_dones (step state packet).state packets) one.dones
      (early_run packets (front ++ packet ∷ []) (is ∙ sym (append_assoc front (packet ∷ []) packets)) k.1 (step state packet).state (state_after front (packet ∷ []) empty ∙ ap (λ (other_state : StoreState). (step other_state packet).state) at_s)
      (came_fewer (EndedEarly all) kind (came_with (EndedEarly all) kind (came_in front) packet) (came_in (front ++ packet ∷ [])) (step state packet).state (step state packet).state.waiting
      (λ i h. sym (list_any-append (is_prelim_of i) front (packet ∷ [])) ∙ h) one.state))
    where
      ends : phase_of packet.body ≡ Phase.Conclude → Ends (EndedEarly all) kind (came_in front) state packet
      ends concludes d u = record {
        before = front;
        conclusory = packet;
        rest = packets;
        cut = is;
        of_id = refl;
        concludes = concludes;
        first =
            (undecided_first front empty packet.id (ap (λ (other_state : StoreState). other_state.decided packet.id) at_s ∙ d)).1;
        unread =
            subst
            (λ (other_state : StoreState). (list_any (is_prelim_of packet.id) other_state.waiting ≡ true) ⊎ (list_any (is_prelim_of packet.id) front ≡ false))
            (sym at_s) u;
      }

  pub early_answers : Each (λ p. is_conclusory p.body ≡ false → is_prelim p.body ≡ kind p.id) all
      → Each (EarlyDone (EndedEarly all) kind) (run_dones empty all)
  early_answers k = early_run all [] refl k empty refl (record {
    aborted = λ i e. absurd (no e);
    ruled = λ i answer e. absurd (none answer e);
    known = λ i h. absurd (both_ways _ refl h);
    held = λ i h. absurd (both_ways _ refl h);
    waiting = tt;
  })
    where
      none : (answer : Answer) → None ≡ Some answer → ⊥
      none answer e = cc

      no : None ≡ Some Aborted → ⊥
      no e = cc
