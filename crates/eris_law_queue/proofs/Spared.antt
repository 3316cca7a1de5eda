-- A shard's store gives values to keys of its shard alone: what it takes spares a key of another shard.
use Rattle.eris_base.specs.declared.ids.Place.{Place}
use Rattle.eris_base.specs.declared.ids.ShardId.{ShardId}
use Rattle.eris_base.proofs.Each.{Each-append, Each-filter}
use Rattle.eris_base.specs.Each.{Each}
use Rattle.eris_law_queue.proofs.Orderly.{each_without}
use Rattle.eris_locks.specs.declared.shard_packet.ShardPacket.{ShardPacket}
use Rattle.eris_locks.specs.LockTable.{Stepped, aborted_late, all_also, also, answer_of, arrive, arrive_new, conclude, done, end_holding, end_waiting, execute, nothing_done, only, release, run_state, step, step_by, values_after}
use Rattle.eris_locks.specs.Locks.{locks_of}
use Rattle.eris_locks.specs.Shards.{cut, cut_body, is_on, names_shard, on_shard}
use Rattle.eris_locks.specs.States.{StoreState, blocked, decide, empty, holds, is_decided, is_prelim, is_prelim_of, no_longer_waiting, note, phase_of, waits}
use Rattle.eris_txn.proofs.KeyLaws.{same_key-true}
use Rattle.eris_txn.specs.declared.answer.Answer.{Answer}
use Rattle.eris_txn.specs.declared.answer.Answer.TheVariants.{Aborted, Committed}
use Rattle.eris_txn.specs.declared.body.Body.{Body}
use Rattle.eris_txn.specs.declared.body.Body.TheVariants.{Abort, Commit, Independent, Prelim}
use Rattle.eris_txn.specs.declared.key.Key.{Key}
use Rattle.eris_txn.specs.declared.op.Op.{Op}
use Rattle.eris_txn.specs.declared.packet.Packet.{Packet}
use Rattle.eris_txn.specs.declared.plan.Write.{Write}
use Rattle.eris_txn.specs.Keys.{Values, same_key}
use Rattle.eris_txn.specs.Operations.{after, after_all, key_of, left_by}
use Rattle.eris_txn.specs.Plans.{written}
use Rattle.std.proofs.Common.{Bool, List, None, Option, Some, [], ap, append_assoc, cond, false, inl, inr, not, refl, subst, sym, true, ◌&&◌, ◌++◌, ◌∙◌, ◌∷◌, ◌≡◌, ◌⊎◌}
use Rattle.std.proofs.lemmas.Bool.{both_ways, cases_Bool, cond-false}
use Rattle.std.proofs.lemmas.List.{append-nil}
use Rattle.std.specs.Bool.{⊤}
use Rattle.std.specs.List.{filter, list_any}

-- what passes a test has what the test shows
each_kept : {A : Type 0} (P : A → Type 0) (test : A → Bool) (items : List A) → ((item : A) → test item ≡ true → P item) → Each P (filter test items)
each_kept P test [] h = tt
each_kept P test (item ∷ items) h = by_test (cases_Bool (test item)) (each_kept P test items h)
  where
    by_test : ((test item ≡ true) ⊎ (test item ≡ false)) → Each P (filter test items)
        → Each P (cond (test item) (item ∷ filter test items) (filter test items))
    by_test (inl t) k = subst (λ (b : Bool). Each P (cond b (item ∷ filter test items) (filter test items))) (sym t) (h item t, k)
    by_test (inr t) k = subst (λ (b : Bool). Each P (cond b (item ∷ filter test items) (filter test items))) (sym t) k

module _ (key : Key) where
  -- executing the body leaves the key's value as it is
  abbrev pub Spares : Body → Type 0
  Spares (Independent ops) = Each (λ op. same_key (key_of op) key ≡ false) ops
  Spares (Prelim locks) = ⊤
  Spares (Commit keys writes) = Each (λ write. same_key write.key key ≡ false) writes
  Spares (Abort keys) = ⊤

  -- the key has no value, and what waits spares it
  record Clear (state : StoreState) (waiters : List ShardPacket) : Type 0 where
    pub value : state.values key ≡ None
    pub spared : Each (λ waiter. Spares waiter.body) waiters

  abbrev ClearStep : Stepped → Type 0
  ClearStep stepped = Clear stepped.state stepped.state.waiting

  ops_spare : (ops : List Op) (values : Values) → Each (λ op. same_key (key_of op) key ≡ false) ops → after_all ops values key ≡ values key
  ops_spare [] values h = refl
  ops_spare (op ∷ ops) values h =
      ops_spare ops (after op values) h.1 ∙ cond-false (same_key (key_of op) key) (left_by op (values (key_of op))) (values key) h.0

  writes_spare : (writes : List Write) (values : Values) → Each (λ write. same_key write.key key ≡ false) writes → written writes values key ≡ values key
  writes_spare [] values h = refl
  writes_spare (write ∷ writes) values h =
      writes_spare writes (λ other. cond (same_key write.key other) (Some write.value) (values other)) h.1
      ∙ cond-false (same_key write.key key) (Some write.value) (values key) h.0

  executing_spares : (body : Body) (values : Values) → Spares body → values_after body values key ≡ values key
  executing_spares (Independent ops) values h = ops_spare ops values h
  executing_spares (Prelim locks) values h = refl
  executing_spares (Commit keys writes) values h = refl
  executing_spares (Abort keys) values h = refl

  releases_spare : (at : Place) (state : StoreState) (before packets : List ShardPacket) → Clear state (before ++ packets)
      → ClearStep (release at state before packets)
  releases_spare at state before [] clear =
      record { value = clear.value; spared = subst (Each (λ waiter. Spares waiter.body)) (append-nil before) clear.spared }
  releases_spare at state before (packet ∷ packets) clear = by_test (blocked state.holding before (locks_of packet.body))
      (releases_spare at state (before ++ packet ∷ []) packets (record {
        value = clear.value;
        spared = subst (Each (λ waiter. Spares waiter.body)) (sym (append_assoc before (packet ∷ []) packets)) clear.spared;
      }))
      (releases_spare at (execute state packet) before packets (record {
        value = executing_spares packet.body state.values (of_it before clear.spared) ∙ clear.value;
        spared = each_without _ before packet packets clear.spared;
      }))
    where
      of_it : (front : List ShardPacket) → Each (λ waiter. Spares waiter.body) (front ++ packet ∷ packets) → Spares packet.body
      of_it [] h = h.0
      of_it (waiter ∷ front) h = of_it front h.1

      by_test : (t : Bool) → ClearStep (release at state (before ++ packet ∷ []) packets)
          → ClearStep (release at (execute state packet) before packets)
          → ClearStep (elim t [
            | true ↦ release at state (before ++ packet ∷ []) packets
            | false ↦ also (done at packet (answer_of packet.body state.values) true) (release at (execute state packet) before packets)
          ])
      by_test true stays goes = stays
      by_test false stays goes = record { value = goes.value; spared = goes.spared }

  arrives_spare : (state : StoreState) (packet : ShardPacket) → Spares packet.body → Clear state state.waiting
      → ClearStep (arrive state packet)
  arrives_spare state packet own clear =
      by_record (state.recorded packet.id (phase_of packet.body)) (waits packet.id state.waiting)
    where
      by_test : (t u : Bool) → ClearStep (elim t [
        | true ↦ only (record state { recorded = note state.recorded packet.id (phase_of packet.body) Aborted }) (done packet.at packet Aborted false)
        | false ↦
            elim u [
              | true ↦ nothing_done (record state { waiting = state.waiting ++ packet ∷ [] })
              | false ↦ only (execute state packet) (done packet.at packet (answer_of packet.body state.values) false)
            ]
      ])
      by_test true u = record { value = clear.value; spared = clear.spared }
      by_test false true =
          record { value = clear.value; spared = Each-append _ state.waiting (packet ∷ []) clear.spared (own, tt) }
      by_test false false =
          record { value = executing_spares packet.body state.values own ∙ clear.value; spared = clear.spared }

      by_record : (found : Option Answer) (u : Bool) → ClearStep (elim found [
        | Some answer ↦ only state (done packet.at packet answer false)
        | None ↦ elim u [ true ↦ nothing_done state | false ↦ arrive_new state packet ]
      ])
      by_record (Some answer) u = clear
      by_record None true = clear
      by_record None false = by_test (is_prelim packet.body && is_decided (state.decided packet.id)) (blocked state.holding state.waiting (locks_of packet.body))

  concludes_spare : (state : StoreState) (packet : ShardPacket) (outcome : Answer) (writes : List Write)
      → Each (λ write. same_key write.key key ≡ false) writes → Clear state state.waiting
      → ClearStep (conclude state packet outcome writes)
  concludes_spare state packet outcome writes own clear =
      by_decided (state.decided packet.id) (holds packet.id state.holding) (list_any (is_prelim_of packet.id) state.waiting)
    where
      by_decided : (found : Option Answer) (t u : Bool) → ClearStep (elim found [
        | Some decided ↦ only state (done packet.at packet decided false)
        | None ↦ elim t [
          | true ↦ also (done packet.at packet outcome false) (release packet.at (end_holding state packet outcome writes) [] state.waiting)
          | false ↦
              elim u [
                | true ↦ also (done packet.at packet Aborted false)
                    (all_also (aborted_late packet.at packet.id state.waiting) (release packet.at (end_waiting state packet) [] (no_longer_waiting packet.id state.waiting)))
                | false ↦ only (record state { decided = decide state.decided packet.id Aborted }) (done packet.at packet Aborted false)
              ]
        ]
      ])
      by_decided (Some answer) t u = clear
      by_decided None true u =
          let left = releases_spare packet.at (end_holding state packet outcome writes) [] state.waiting (record {
            value = writes_spare writes state.values own ∙ clear.value;
            spared = clear.spared;
          }) in
          record { value = left.value; spared = left.spared }
      by_decided None false true =
          let left = releases_spare packet.at (end_waiting state packet) [] (no_longer_waiting packet.id state.waiting) (record {
            value = clear.value;
            spared = Each-filter _ (λ waiter. not (is_prelim_of packet.id waiter)) state.waiting clear.spared;
          }) in
          record { value = left.value; spared = left.spared }
      by_decided None false false = record { value = clear.value; spared = clear.spared }

  step_spares : (body : Body) (state : StoreState) (packet : ShardPacket) → packet.body ≡ body → Spares body → Clear state state.waiting
      → ClearStep (step_by body state packet)
  step_spares (Independent ops) state packet is own clear = arrives_spare state packet (subst Spares (sym is) own) clear
  step_spares (Prelim locks) state packet is own clear = arrives_spare state packet (subst Spares (sym is) own) clear
  step_spares (Commit keys writes) state packet is own clear = concludes_spare state packet Committed writes own clear
  step_spares (Abort keys) state packet is own clear = concludes_spare state packet Aborted [] tt clear

  run_spares : (packets : List ShardPacket) (state : StoreState) → Each (λ packet. Spares packet.body) packets → Clear state state.waiting
      → (run_state state packets).values key ≡ None
  run_spares [] state own clear = clear.value
  run_spares (packet ∷ packets) state own clear =
      run_spares packets (step state packet).state own.1 (step_spares packet.body state packet refl own.0 clear)

  module _ (shard : ShardId) (elsewhere : is_on shard key ≡ false) where
    other_key : (some : Key) → is_on shard some ≡ true → same_key some key ≡ false
    other_key some on = by_test (cases_Bool (same_key some key))
      where
        by_test : ((same_key some key ≡ true) ⊎ (same_key some key ≡ false)) → same_key some key ≡ false
        by_test (inl t) = absurd (both_ways _ elsewhere (sym (ap (is_on shard) (same_key-true some key t)) ∙ on))
        by_test (inr t) = t

    cut_spares : (body : Body) → Spares (cut_body shard body)
    cut_spares (Independent ops) = each_kept _ (λ op. is_on shard (key_of op)) ops (λ op on. other_key (key_of op) on)
    cut_spares (Prelim locks) = tt
    cut_spares (Commit keys writes) = each_kept _ (λ write. is_on shard write.key) writes (λ write on. other_key write.key on)
    cut_spares (Abort keys) = tt

    all_spare : (packets : List Packet) → Each (λ packet. Spares packet.body) (on_shard shard packets)
    all_spare [] = tt
    all_spare (packet ∷ packets) = by_test (names_shard shard packet) (all_spare packets)
      where
        by_test : (t : Bool) → Each (λ other. Spares other.body) (on_shard shard packets)
            → Each (λ other. Spares other.body) (elim t [ true ↦ cut shard packet ∷ on_shard shard packets | false ↦ on_shard shard packets ])
        by_test true k = (cut_spares packet.body, k)
        by_test false k = k

    -- A KEY OF ANOTHER SHARD HAS NO VALUE, whatever packets came
    pub elsewhere_is_none : (packets : List Packet) → (run_state empty (on_shard shard packets)).values key ≡ None
    elsewhere_is_none packets = run_spares (on_shard shard packets) empty (all_spare packets) (record { value = refl; spared = tt })
