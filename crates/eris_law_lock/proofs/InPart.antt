-- Values that a whole list says, a beginning with a conclusory packet of the id says.
-- WHAT IS RECORDED OR HELD WAS SAID; D is what was said
use Rattle.eris_base.specs.declared.ids.Phase.{Phase}
use Rattle.eris_base.specs.declared.ids.Place.{Place}
use Rattle.eris_base.specs.declared.ids.TxnId.{TxnId}
use Rattle.eris_base.proofs.Each.{Each-left, Each-right}
use Rattle.eris_law_lock.proofs.Final.{all_said, answers_right}
use Rattle.eris_base.proofs.TxnIdLaws.{same_id-from, same_id-true}
use Rattle.eris_law_lock.proofs.Lost.{said_finds}
use Rattle.eris_law_lock.proofs.Once.{answer_to, stands_once}
use Rattle.eris_law_lock.proofs.Prelims.{prelim_phase}
use Rattle.eris_law_lock.proofs.Runs.{dones_of_prefix}
use Rattle.eris_law_lock.proofs.SaidFrom.{fewer, ran}
use Rattle.eris_base.specs.Each.{Each}
use Rattle.eris_locks.specs.Law.{HasPacket, HoldsOrDecided, IsRight, IsRightDone, Said, StandsIn}
use Rattle.eris_locks.specs.LockTable.{Stepped, aborted_late, all_also, also, answer_of, arrive, arrive_new, conclude, conclude_first, done, end_holding, end_waiting, execute, holding_after, only, release, run_dones, run_state, step, step_by}
use Rattle.eris_locks.specs.Locks.{locks_of}
use Rattle.eris_locks.specs.ShardRun.{plain_run}
use Rattle.eris_locks.specs.States.{StoreState, blocked, decide, empty, holds, is_decided, is_prelim, is_prelim_of, no_longer_waiting, note, phase_of, same_phase, waits}
use Rattle.eris_base.specs.TxnIds.{same_id}
use Rattle.eris_locks.specs.WellFormed.{WellFormed}
use Rattle.eris_locks.specs.declared.done.Done.{Done}
use Rattle.eris_locks.specs.declared.held.Held.{Held}
use Rattle.eris_locks.specs.declared.shard_packet.ShardPacket.{ShardPacket}
use Rattle.eris_locks.proofs.PhaseLaws.{same_phase-true}
use Rattle.eris_txn.specs.Keys.{Values, no_values}
use Rattle.eris_txn.specs.declared.answer.Answer.{Answer}
use Rattle.eris_txn.specs.declared.answer.Answer.TheVariants.{Aborted, Committed}
use Rattle.eris_txn.specs.declared.body.Body.{Body}
use Rattle.eris_txn.specs.declared.body.Body.TheVariants.{Abort, Commit, Independent, Prelim}
use Rattle.eris_txn.specs.declared.plan.Write.{Write}
use Rattle.std.proofs.Common.{Bool, List, None, Option, Some, [], ap, append_assoc, false, inl, inr, refl, subst, sym, true, ℕ, ◌&&◌, ◌++◌, ◌||◌, ◌∙◌, ◌∷◌, ◌≡◌, ◌⊎◌}
use Rattle.std.proofs.lemmas.Bool.{and_from, and_parts, both_ways, cases_Bool, cond-false, cond-true, or_cases}
use Rattle.std.proofs.lemmas.List.Folds.{list_any-append}
use Rattle.std.specs.List.{list_any}

module _ (D : TxnId → Phase → Answer → Type 0) where
  abbrev OfDone : Done → Type 0
  OfDone given = D given.id given.phase given.answer

  pub record WasSaid (state : StoreState) : Type 0 where
    pub recorded : (id : TxnId) (phase : Phase) (answer : Answer) → state.recorded id phase ≡ Some answer → D id phase answer
    pub held : (id : TxnId) → holds id state.holding ≡ true → (read : List (Option ℕ)) × D id Phase.Prelim (Answer.Values read)

  noted_said : (recorded : TxnId → Phase → Option Answer) (id : TxnId) (phase : Phase) (answer : Answer)
      → ((i : TxnId) (q : Phase) (c : Answer) → recorded i q ≡ Some c → D i q c) → D id phase answer
      → (i : TxnId) (q : Phase) (c : Answer) → note recorded id phase answer i q ≡ Some c → D i q c
  noted_said recorded id phase answer g h i q c e = by_test (cases_Bool (same_id id i && same_phase phase q))
    where
      by_test : (((same_id id i && same_phase phase q) ≡ true) ⊎ ((same_id id i && same_phase phase q) ≡ false)) → D i q c
      by_test (inl t) =
          let parts = and_parts (same_id id i) (same_phase phase q) t in
          let same : Some answer ≡ Some c = sym (cond-true _ _ _ t) ∙ e in
          let value : answer ≡ c = cc in
          subst (λ (r : Phase). D i r c) (same_phase-true phase q parts.1) (subst (λ (that_id : TxnId). D that_id phase c) (same_id-true id i parts.0) (subst (λ (given : Answer). D id phase given) value h))
      by_test (inr n) = g i q c (sym (cond-false _ _ _ n) ∙ e)

  held_said : (id : TxnId) (body : Body) (values : Values) (holding : List Held) → D id (phase_of body) (answer_of body values)
      → ((i : TxnId) → holds i holding ≡ true → (read : List (Option ℕ)) × D i Phase.Prelim (Answer.Values read))
      → (i : TxnId) → holds i (holding_after id body holding) ≡ true
      → (read : List (Option ℕ)) × D i Phase.Prelim (Answer.Values read)
  held_said id (Independent ops) values holding h g i e = g i e
  held_said id (Prelim locks) values holding h g i e =
      by_place
      (or_cases (holds i holding) (holds i (record { id = id; locks = locks } ∷ [])) (sym (list_any-append (λ (held : Held). same_id i held.id) holding (record { id = id; locks = locks } ∷ [])) ∙ e))
    where
      last : ((same_id i id ≡ true) ⊎ (false ≡ true)) → (read : List (Option ℕ)) × D i Phase.Prelim (Answer.Values read)
      last (inl q) =
          (_, subst (λ (that_id : TxnId). D that_id Phase.Prelim (answer_of (Prelim locks) values)) (sym (same_id-true i id q)) h)
      last (inr q) = absurd (both_ways _ refl q)

      by_place : ((holds i holding ≡ true) ⊎ ((same_id i id || false) ≡ true))
          → (read : List (Option ℕ)) × D i Phase.Prelim (Answer.Values read)
      by_place (inl held) = g i held
      by_place (inr held) = last (or_cases (same_id i id) false held)
  held_said id (Commit keys writes) values holding h g i e = g i e
  held_said id (Abort keys) values holding h g i e = g i e

  executes : (state : StoreState) (packet : ShardPacket) → WasSaid state
      → D packet.id (phase_of packet.body) (answer_of packet.body state.values) → WasSaid (execute state packet)
  executes state packet r d = record {
    recorded = noted_said state.recorded packet.id (phase_of packet.body) (answer_of packet.body state.values) r.recorded d;
    held = held_said packet.id packet.body state.values state.holding d r.held;
  }

  releases : (at : Place) (state : StoreState) (before packets : List ShardPacket) → WasSaid state
      → Each OfDone (release at state before packets).dones → WasSaid (release at state before packets).state
  releases at state before [] r = λ d. record { recorded = r.recorded; held = r.held }
  releases at state before (packet ∷ packets) r =
      by_test (blocked state.holding before (locks_of packet.body)) (releases at state (before ++ packet ∷ []) packets r)
      (λ k. releases at (execute state packet) before packets k)
    where
      by_test : (test : Bool)
          → (Each OfDone (release at state (before ++ packet ∷ []) packets).dones → WasSaid (release at state (before ++ packet ∷ []) packets).state)
          → (WasSaid (execute state packet) → Each OfDone (release at (execute state packet) before packets).dones → WasSaid (release at (execute state packet) before packets).state)
          → Each OfDone (elim test as (λ b. Stepped) [
            | true ↦ release at state (before ++ packet ∷ []) packets
            | false ↦ also (done at packet (answer_of packet.body state.values) true) (release at (execute state packet) before packets)
          ]).dones
          → WasSaid (elim test as (λ b. Stepped) [
            | true ↦ release at state (before ++ packet ∷ []) packets
            | false ↦ also (done at packet (answer_of packet.body state.values) true) (release at (execute state packet) before packets)
          ]).state
      by_test true stays ih d = stays d
      by_test false stays ih d = ih (executes state packet r d.0) d.1

  arrives_new : (state : StoreState) (packet : ShardPacket) → WasSaid state → Each OfDone (arrive_new state packet).dones
      → WasSaid (arrive_new state packet).state
  arrives_new state packet r =
      by_test (is_prelim packet.body && is_decided (state.decided packet.id))
      (blocked state.holding state.waiting (locks_of packet.body))
    where
      by_test : (test other_test : Bool) → Each OfDone (elim test as (λ b. Stepped) [
        | true ↦ only (record state { recorded = note state.recorded packet.id (phase_of packet.body) Aborted }) (done packet.at packet Aborted false)
        | false ↦
            elim other_test as (λ b. Stepped) [
              | true ↦ record { state = record state { waiting = state.waiting ++ packet ∷ [] }; dones = [] }
              | false ↦ only (execute state packet) (done packet.at packet (answer_of packet.body state.values) false)
            ]
      ]).dones → WasSaid (elim test as (λ b. Stepped) [
        | true ↦ only (record state { recorded = note state.recorded packet.id (phase_of packet.body) Aborted }) (done packet.at packet Aborted false)
        | false ↦
            elim other_test as (λ b. Stepped) [
              | true ↦ record { state = record state { waiting = state.waiting ++ packet ∷ [] }; dones = [] }
              | false ↦ only (execute state packet) (done packet.at packet (answer_of packet.body state.values) false)
            ]
      ]).state
      by_test true other_test d =
          record { recorded = noted_said state.recorded packet.id (phase_of packet.body) Aborted r.recorded d.0; held = r.held }
      by_test false true d = record { recorded = r.recorded; held = r.held }
      by_test false false d = executes state packet r d.0

  arrives : (state : StoreState) (packet : ShardPacket) → WasSaid state → Each OfDone (arrive state packet).dones
      → WasSaid (arrive state packet).state
  arrives state packet r = by_record (state.recorded packet.id (phase_of packet.body)) (waits packet.id state.waiting)
    where
      by_record : (found : Option Answer) (other_test : Bool) → Each OfDone (elim found as (λ b. Stepped) [
        | Some answer ↦ only state (done packet.at packet answer false)
        | None ↦ elim other_test as (λ b. Stepped) [ true ↦ record { state = state; dones = [] } | false ↦ arrive_new state packet ]
      ]).dones → WasSaid (elim found as (λ b. Stepped) [
        | Some answer ↦ only state (done packet.at packet answer false)
        | None ↦ elim other_test as (λ b. Stepped) [ true ↦ record { state = state; dones = [] } | false ↦ arrive_new state packet ]
      ]).state
      by_record (Some a) other_test d = r
      by_record None true d = r
      by_record None false d = arrives_new state packet r d

  abbrev first_by : StoreState → ShardPacket → Answer → List Write → Bool → Bool → Stepped
  first_by state packet outcome writes test other_test = elim test [
    | true ↦ also (done packet.at packet outcome false) (release packet.at (end_holding state packet outcome writes) [] state.waiting)
    | false ↦ elim other_test [
      | true ↦ also (done packet.at packet Aborted false) (all_also (aborted_late packet.at packet.id state.waiting) (release packet.at (end_waiting state packet) [] (no_longer_waiting packet.id state.waiting)))
      | false ↦ only (record state { decided = decide state.decided packet.id Aborted }) (done packet.at packet Aborted false)
    ]
  ]

  -- the late answer of a waiting preliminary that is aborted
  aborted_said : (at : Place) (id : TxnId) (waiters : List ShardPacket) → list_any (is_prelim_of id) waiters ≡ true
      → Each OfDone (aborted_late at id waiters) → D id Phase.Prelim Aborted
  aborted_said at id [] h d = absurd (both_ways _ refl h)
  aborted_said at id (waiter ∷ waiters) h d =
      by_test (is_prelim_of id waiter) refl (or_cases (is_prelim_of id waiter) (list_any (is_prelim_of id) waiters) h) d
      (aborted_said at id waiters)
    where
      by_test : (test : Bool) → is_prelim_of id waiter ≡ test
          → ((is_prelim_of id waiter ≡ true) ⊎ (list_any (is_prelim_of id) waiters ≡ true))
          → Each OfDone (elim test [ true ↦ done at waiter Aborted true ∷ [] | false ↦ aborted_late at id waiters ])
          → (list_any (is_prelim_of id) waiters ≡ true → Each OfDone (aborted_late at id waiters) → D id Phase.Prelim Aborted)
          → D id Phase.Prelim Aborted
      by_test true test k q ih =
          let parts = and_parts (same_id id waiter.id) (is_prelim waiter.body) test in
          subst (λ (that_id : TxnId). D that_id Phase.Prelim Aborted) (sym (same_id-true id waiter.id parts.0)) (subst (λ (r : Phase). D waiter.id r Aborted) (prelim_phase waiter.body parts.1) q.0)
      by_test false test (inl k) q ih = absurd (both_ways _ test k)
      by_test false test (inr k) q ih = ih k q

  concludes_first : (state : StoreState) (packet : ShardPacket) (outcome : Answer) (writes : List Write) → WasSaid state
      → Each OfDone (conclude_first state packet outcome writes).dones → WasSaid (conclude_first state packet outcome writes).state
  concludes_first state packet outcome writes r =
      by_test (holds packet.id state.holding) (list_any (is_prelim_of packet.id) state.waiting) refl
    where
      by_test : (test other_test : Bool) → list_any (is_prelim_of packet.id) state.waiting ≡ other_test
          → Each OfDone (first_by state packet outcome writes test other_test).dones
          → WasSaid (first_by state packet outcome writes test other_test).state
      by_test true other_test e d =
          releases packet.at (end_holding state packet outcome writes) [] state.waiting
          (record { recorded = r.recorded; held = λ i k. r.held i (fewer i packet.id state.holding k) }) d.1
      by_test false true e d =
          let front = Each-left OfDone (aborted_late packet.at packet.id state.waiting) (release packet.at (end_waiting state packet) [] (no_longer_waiting packet.id state.waiting)).dones d.1 in
          releases packet.at (end_waiting state packet) [] (no_longer_waiting packet.id state.waiting)
          (record { recorded = noted_said state.recorded packet.id Phase.Prelim Aborted r.recorded (aborted_said packet.at packet.id state.waiting e front); held = r.held })
          (Each-right OfDone (aborted_late packet.at packet.id state.waiting) (release packet.at (end_waiting state packet) [] (no_longer_waiting packet.id state.waiting)).dones d.1)
      by_test false false e d = record { recorded = r.recorded; held = r.held }

  concludes : (state : StoreState) (packet : ShardPacket) (outcome : Answer) (writes : List Write) → WasSaid state
      → Each OfDone (conclude state packet outcome writes).dones → WasSaid (conclude state packet outcome writes).state
  concludes state packet outcome writes r = by_decided (state.decided packet.id)
    where
      by_decided : (found : Option Answer) → Each OfDone (elim found as (λ b. Stepped) [
        | Some answer ↦ only state (done packet.at packet answer false)
        | None ↦ conclude_first state packet outcome writes
      ]).dones → WasSaid (elim found as (λ b. Stepped) [
        | Some answer ↦ only state (done packet.at packet answer false)
        | None ↦ conclude_first state packet outcome writes
      ]).state
      by_decided (Some a) d = r
      by_decided None d = concludes_first state packet outcome writes r d

  steps_by : (body : Body) (state : StoreState) (packet : ShardPacket) → WasSaid state
      → Each OfDone (step_by body state packet).dones → WasSaid (step_by body state packet).state
  steps_by (Independent ops) state packet r d = arrives state packet r d
  steps_by (Prelim locks) state packet r d = arrives state packet r d
  steps_by (Commit keys writes) state packet r d = concludes state packet Committed writes r d
  steps_by (Abort keys) state packet r d = concludes state packet Aborted [] r d

  pub run_said : (packets : List ShardPacket) (state : StoreState) → WasSaid state → Each OfDone (run_dones state packets)
      → WasSaid (run_state state packets)
  run_said [] state r d = r
  run_said (packet ∷ packets) state r d =
      run_said packets (step state packet).state
      (steps_by packet.body state packet r (Each-left OfDone (step state packet).dones (run_dones (step state packet).state packets) d))
      (Each-right OfDone (step state packet).dones (run_dones (step state packet).state packets) d)

  pub empty_said : WasSaid empty
  empty_said = record { recorded = λ i q answer e. absurd (clash answer e); held = λ i e. absurd (both_ways _ refl e) }
    where
      clash : (answer : Answer) → None ≡ Some answer → ⊥
      clash answer e = cc

front_said : (packets : List ShardPacket) → WasSaid (λ i q a. Said i q a (run_dones empty packets)) (run_state empty packets)
front_said packets =
    run_said (λ i q a. Said i q a (run_dones empty packets)) packets empty
    (empty_said (λ i q a. Said i q a (run_dones empty packets))) (all_said (run_dones empty packets))

-- the first conclusory of an id
pub record FirstConcluded (id : TxnId) (packets : List ShardPacket) : Type 0 where
  pub before : List ShardPacket
  pub here : ShardPacket
  pub after : List ShardPacket
  pub splits : packets ≡ before ++ here ∷ after
  pub same : here.id ≡ id
  pub concludes : phase_of here.body ≡ Phase.Conclude
  pub none : HasPacket id Phase.Conclude before → ⊥

phase_from_test : (body : Body) → same_phase Phase.Conclude (phase_of body) ≡ true → phase_of body ≡ Phase.Conclude
phase_from_test body h = sym (same_phase-true Phase.Conclude (phase_of body) h)

same_self : (phase : Phase) → phase ≡ Phase.Conclude → same_phase Phase.Conclude phase ≡ true
same_self Phase.Whole e = cc
same_self Phase.Prelim e = cc
same_self Phase.Conclude e = refl

first_concluded : (id : TxnId) (packets : List ShardPacket) → HasPacket id Phase.Conclude packets → FirstConcluded id packets
first_concluded id [] h = absurd h
first_concluded id (packet ∷ packets) h =
    by_test (cases_Bool (same_id id packet.id && same_phase Phase.Conclude (phase_of packet.body))) h (first_concluded id packets)
  where
    by_test : (((same_id id packet.id && same_phase Phase.Conclude (phase_of packet.body)) ≡ true) ⊎ ((same_id id packet.id && same_phase Phase.Conclude (phase_of packet.body)) ≡ false))
        → (((packet.id ≡ id) × (phase_of packet.body ≡ Phase.Conclude)) ⊎ HasPacket id Phase.Conclude packets)
        → (HasPacket id Phase.Conclude packets → FirstConcluded id packets) → FirstConcluded id (packet ∷ packets)
    by_test (inl t) k ih =
        let parts = and_parts (same_id id packet.id) (same_phase Phase.Conclude (phase_of packet.body)) t in
        record { before = []; here = packet; after = packets; splits = refl; same = sym (same_id-true id packet.id parts.0); concludes = phase_from_test packet.body parts.1; none = λ z. z }
    by_test (inr n) (inl k) ih =
        absurd
        (both_ways _ n (and_from (same_id id packet.id) (same_phase Phase.Conclude (phase_of packet.body)) (same_id-from id packet.id (sym k.0)) (same_self (phase_of packet.body) k.1)))
    by_test (inr n) (inr k) ih =
        let r = ih k in
        record { before = packet ∷ r.before; here = r.here; after = r.after; splits = ap (λ l. packet ∷ l) r.splits; same = r.same; concludes = r.concludes; none = λ z. more r.before r.none z }
      where
        more : (B : List ShardPacket) → (HasPacket id Phase.Conclude B → ⊥) → HasPacket id Phase.Conclude (packet ∷ B) → ⊥
        more B f (inl z) =
            both_ways _ n
            (and_from (same_id id packet.id) (same_phase Phase.Conclude (phase_of packet.body)) (same_id-from id packet.id (sym z.0)) (same_self (phase_of packet.body) z.1))
        more B f (inr z) = f z

said_more : (id : TxnId) (phase : Phase) (answer : Answer) (packets rest : List ShardPacket)
    → Said id phase answer (run_dones empty packets) → Said id phase answer (run_dones empty (packets ++ rest))
said_more id phase answer packets rest h =
    subst (λ (dones : List Done). Said id phase answer dones) (sym (dones_of_prefix packets rest empty))
    (left (run_dones empty packets) (run_dones (run_state empty packets) rest) h)
  where
    left : (dones others : List Done) → Said id phase answer dones → Said id phase answer (dones ++ others)
    left [] others k = absurd k
    left (given ∷ dones) others (inl k) = inl k
    left (given ∷ dones) others (inr k) = inr (left dones others k)

-- what was said is right where all that was said is
pub said_right : (packets : List ShardPacket) (id : TxnId) (phase : Phase) (answer : Answer) (dones : List Done)
    → Each (IsRightDone packets) dones → Said id phase answer dones → IsRight packets phase id answer
said_right packets id phase answer [] h k = absurd k
said_right packets id phase answer (given ∷ dones) h (inl k) =
    subst (λ (other_answer : Answer). IsRight packets phase id other_answer) k.2 (subst (λ (r : Phase). IsRight packets r id given.answer) k.1 (subst (λ (other_id : TxnId). IsRight packets given.phase other_id given.answer) k.0 h.0))
said_right packets id phase answer (given ∷ dones) h (inr k) = said_right packets id phase answer dones h.1 k

-- VALUES THAT A WHOLE LIST SAYS, a beginning with a conclusory of the id says
pub said_in_part : (id : TxnId) (read : List (Option ℕ)) (packets rest : List ShardPacket) → WellFormed (packets ++ rest)
    → HasPacket id Phase.Conclude packets
    → Said id Phase.Prelim (Answer.Values read) (run_dones empty (packets ++ rest))
    → Said id Phase.Prelim (Answer.Values read) (run_dones empty packets)
said_in_part id read packets rest well has said = by_first (first_concluded id packets has)
  where
    clash : (xs : List (Option ℕ)) → Answer.Values xs ≡ Aborted → ⊥
    clash xs e = cc

    stands : (xs : List (Option ℕ)) → IsRight (packets ++ rest) Phase.Prelim id (Answer.Values xs)
        → StandsIn (answer_to id (Answer.Values xs)) (plain_run no_values [] [] (packets ++ rest))
    stands xs (inl k) = k.plain
    stands xs (inr k) = absurd (clash xs k.is)

    by_first : FirstConcluded id packets → Said id Phase.Prelim (Answer.Values read) (run_dones empty packets)
    by_first f =
        subst (λ (list : List ShardPacket). Said id Phase.Prelim (Answer.Values read) (run_dones empty list)) (sym f.splits)
        (said_more id Phase.Prelim (Answer.Values read) f.before (f.here ∷ f.after) (by_decided ((run_state empty f.before).decided id) refl))
      where
        whole : packets ++ rest ≡ f.before ++ f.here ∷ (f.after ++ rest)
        whole = ap (λ list. list ++ rest) f.splits ∙ append_assoc f.before (f.here ∷ f.after) rest

        firm : HoldsOrDecided (run_state empty f.before) id
        firm =
            said_finds id (Answer.Values read) f.before (f.after ++ rest) f.here f.same f.concludes refl
            (subst (λ (list : List ShardPacket). Said id Phase.Prelim (Answer.Values read) (run_dones empty list)) whole said)

        by_held : (xs : List (Option ℕ)) → Said id Phase.Prelim (Answer.Values xs) (run_dones empty f.before)
            → Said id Phase.Prelim (Answer.Values read) (run_dones empty f.before)
        by_held xs k =
            let mine = stands read (said_right (packets ++ rest) id Phase.Prelim (Answer.Values read) (run_dones empty (packets ++ rest)) (answers_right (packets ++ rest) well) said) in
            let theirs = stands xs (said_right (packets ++ rest) id Phase.Prelim (Answer.Values xs) (run_dones empty (packets ++ rest)) (answers_right (packets ++ rest) well) (subst (λ (list : List ShardPacket). Said id Phase.Prelim (Answer.Values xs) (run_dones empty list)) (sym whole) (said_more id Phase.Prelim (Answer.Values xs) f.before (f.here ∷ (f.after ++ rest)) k))) in
            subst (λ (other_answer : Answer). Said id Phase.Prelim other_answer (run_dones empty f.before)) (stands_once (packets ++ rest) no_values [] [] id (Answer.Values xs) (Answer.Values read) theirs mine) k

        by_decided : (d : Option Answer) → (run_state empty f.before).decided id ≡ d
            → Said id Phase.Prelim (Answer.Values read) (run_dones empty f.before)
        by_decided (Some a) e = absurd (f.none ((ran f.before).state.decided id a e))
        by_decided None e =
            let r = (front_said f.before).held id (firm e) in
            by_held r.0 r.1
