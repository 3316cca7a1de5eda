-- The release over candidates is the release.
use Rattle.std.proofs.Common.{Bool, List, [], ap, append_assoc, cond, false, not, refl, subst, sym, true, ◌&&◌, ◌++◌, ◌∙◌, ◌∷◌, ◌≡◌}
use Rattle.std.proofs.lemmas.Bool.{both_ways, or_parts}
use Rattle.std.proofs.lemmas.List.{append-nil}
use Rattle.std.proofs.lemmas.List.Folds.{list_any-append}
use Rattle.eris_base.specs.declared.ids.Place.{Place}
use Rattle.eris_base.specs.declared.ids.TxnId.{TxnId}
use Rattle.eris_base.specs.TxnIds.{is_among, same_id}
use Rattle.eris_base.proofs.TxnIdLaws.{same_id-refl}
use Rattle.eris_txn.specs.declared.lock.Lock.{Lock}
use Rattle.eris_locks.specs.declared.held.Held.{Held}
use Rattle.eris_locks.specs.declared.shard_packet.ShardPacket.{ShardPacket}
use Rattle.eris_locks.specs.LockTable.{Stepped, also, answer_of, done, execute, holding_after, release}
use Rattle.eris_locks.specs.Locks.{locks_of}
use Rattle.eris_locks.specs.States.{StoreState, blocked}
use Rattle.eris_law_queue.specs.Candidates.{AllBlockedBut, freed_ids, is_freed, leaving, release_chosen}
use Rattle.eris_law_queue.proofs.Freed.{blocked_after, blocked_without}

-- the first of the waiting packets isn't freed if its id isn't among those that are
record Unfreed (left : List Lock) (before : List ShardPacket) (packet : ShardPacket) (packets : List ShardPacket) (id : TxnId) : Type 0 where
  pub rest : is_among id (freed_ids left (before ++ packet ∷ []) packets) ≡ false
  pub first : id ≡ packet.id → is_freed left before (locks_of packet.body) ≡ false

unfreed : (left : List Lock) (before : List ShardPacket) (packet : ShardPacket) (packets : List ShardPacket) (id : TxnId)
    → is_among id (freed_ids left before (packet ∷ packets)) ≡ false → Unfreed left before packet packets id
unfreed left before packet packets id h = by_test (is_freed left before (locks_of packet.body)) refl h
  where
    by_test : (t : Bool) → is_freed left before (locks_of packet.body) ≡ t
        → is_among id (cond t (packet.id ∷ freed_ids left (before ++ packet ∷ []) packets) (freed_ids left (before ++ packet ∷ []) packets)) ≡ false
        → Unfreed left before packet packets id
    by_test true e k =
        let parts = or_parts (same_id id packet.id) (is_among id (freed_ids left (before ++ packet ∷ []) packets)) k in
        record { rest = parts.1; first = λ is. absurd (both_ways _ parts.0 (subst (λ (other : TxnId). same_id id other ≡ true) is (same_id-refl id))) }
    by_test false e k = record { rest = k; first = λ is. e }

-- what isn't among the candidates of later is not among those of now, and isn't freed
abbrev Fewer : List TxnId → List TxnId → List Lock → List ShardPacket → List ShardPacket → Type 0
Fewer later chosen left before packets =
    (id : TxnId) → is_among id later ≡ false → (is_among id chosen ≡ false) × (is_among id (freed_ids left before packets) ≡ false)

module _ (chosen later : List TxnId) (holding : List Held) (gone : ShardPacket) where
  -- those behind the one that is executed
  blocked_but : (some others packets : List ShardPacket) → AllBlockedBut chosen holding (some ++ gone ∷ others) packets
      → Fewer later chosen (leaving gone.body) (some ++ others) packets
      → AllBlockedBut later (holding_after gone.id gone.body holding) (some ++ others) packets
  blocked_but some others [] h fewer = tt
  blocked_but some others (packet ∷ packets) h fewer = (
    λ n. blocked_after gone.id gone.body holding (some ++ others) (locks_of packet.body)
        (blocked_without holding some others gone (locks_of packet.body) (h.0 (fewer packet.id n).0))
        ((unfreed (leaving gone.body) (some ++ others) packet packets packet.id (fewer packet.id n).1).first refl),
    subst (λ (ahead : List ShardPacket). AllBlockedBut later (holding_after gone.id gone.body holding) ahead packets) (sym (append_assoc some others (packet ∷ [])))
        (blocked_but some (others ++ packet ∷ []) packets
        (subst (λ (ahead : List ShardPacket). AllBlockedBut chosen holding ahead packets) (append_assoc some (gone ∷ others) (packet ∷ [])) h.1)
        (subst (λ (ahead : List ShardPacket). Fewer later chosen (leaving gone.body) ahead packets) (append_assoc some others (packet ∷ []))
        (λ id n. ((fewer id n).0, (unfreed (leaving gone.body) (some ++ others) packet packets id (fewer id n).1).rest)))),
  )

-- not among two lists
among_neither : (id : TxnId) (some others : List TxnId) → is_among id (some ++ others) ≡ false
    → (is_among id some ≡ false) × (is_among id others ≡ false)
among_neither id some others h =
    or_parts (is_among id some) (is_among id others) (sym (list_any-append (λ (other : TxnId). same_id id other) some others) ∙ h)

-- after the first of those that wait was executed
pub after_first : (chosen : List TxnId) (state : StoreState) (before : List ShardPacket) (packet : ShardPacket) (packets : List ShardPacket)
    → AllBlockedBut chosen state.holding (before ++ packet ∷ []) packets
    → AllBlockedBut (chosen ++ freed_ids (leaving packet.body) before packets) (execute state packet).holding before packets
after_first chosen state before packet packets h =
    subst (λ (ahead : List ShardPacket). AllBlockedBut (chosen ++ freed_ids (leaving packet.body) before packets) (execute state packet).holding ahead packets) (append-nil before)
    (blocked_but chosen (chosen ++ freed_ids (leaving packet.body) before packets) state.holding packet before [] packets h
    (subst (λ (ahead : List ShardPacket). Fewer (chosen ++ freed_ids (leaving packet.body) before packets) chosen (leaving packet.body) ahead packets) (sym (append-nil before))
    (λ id n. among_neither id chosen (freed_ids (leaving packet.body) before packets) n)))

-- IT SUFFICES TO LOOK AT CANDIDATES
pub chosen_suffice : (at : Place) (chosen : List TxnId) (state : StoreState) (before packets : List ShardPacket)
    → AllBlockedBut chosen state.holding before packets → release_chosen at chosen state before packets ≡ release at state before packets
chosen_suffice at chosen state before [] h = refl
chosen_suffice at chosen state before (packet ∷ packets) h =
    by_tests (blocked state.holding before (locks_of packet.body)) refl (is_among packet.id chosen) refl
    (chosen_suffice at chosen state (before ++ packet ∷ []) packets h.1)
    (chosen_suffice at (chosen ++ freed_ids (leaving packet.body) before packets) (execute state packet) before packets (after_first chosen state before packet packets h.1))
  where
    by_tests : (stuck : Bool) → blocked state.holding before (locks_of packet.body) ≡ stuck → (among : Bool) → is_among packet.id chosen ≡ among
        → release_chosen at chosen state (before ++ packet ∷ []) packets ≡ release at state (before ++ packet ∷ []) packets
        → release_chosen at (chosen ++ freed_ids (leaving packet.body) before packets) (execute state packet) before packets ≡ release at (execute state packet) before packets
        → (elim (among && not stuck) as (λ b. Stepped) [
          | true ↦ also (done at packet (answer_of packet.body state.values) true)
              (release_chosen at (chosen ++ freed_ids (leaving packet.body) before packets) (execute state packet) before packets)
          | false ↦ release_chosen at chosen state (before ++ packet ∷ []) packets
        ])
        ≡ (elim stuck as (λ b. Stepped) [
          | true ↦ release at state (before ++ packet ∷ []) packets
          | false ↦ also (done at packet (answer_of packet.body state.values) true) (release at (execute state packet) before packets)
        ])
    by_tests true e true a kept gone = kept
    by_tests true e false a kept gone = kept
    by_tests false e true a kept gone = ap (λ (rest : Stepped). also (done at packet (answer_of packet.body state.values) true) rest) gone
    by_tests false e false a kept gone = absurd (both_ways _ e (h.0 a))
