-- WHERE ALL PACKETS ARE OF INDEPENDENT TRANSACTIONS, the shard's store answers each at once: nobody holds locks,
-- so nobody waits for one. An id that comes again gets the answer that was recorded, which has as many items.
-- Used where a learner gets a packet.
use Rattle.std.proofs.Common.{◌≡◌, suc, not, Bool, true, false, cond, ◌==◌, ◌&&◌, Option, Some, None, List, [], ◌∷◌, length, map, refl, ap, sym, ◌∙◌, subst}
use Rattle.std.proofs.lemmas.List.Sums.{length-filter}
use Rattle.eris_txn.specs.declared.key.Key.{Key}
use Rattle.std.specs.List.{filter}
use Rattle.std.specs.Prelude.{find}
use Rattle.std.specs.Option.{option_map}
use Rattle.eris_base.specs.declared.ids.ClientId.{ClientId}
use Rattle.eris_base.specs.declared.ids.Phase.{Phase}
use Rattle.eris_base.specs.declared.ids.Place.{Place}
use Rattle.eris_base.specs.declared.ids.ShardId.{ShardId}
use Rattle.eris_base.specs.declared.ids.TxnId.{TxnId}
use Rattle.eris_base.specs.Each.{Each}
use Rattle.eris_base.specs.TxnIds.{same_id}
use Rattle.eris_base.proofs.TxnIdLaws.{same_id-true}
use Rattle.eris_txn.specs.declared.answer.Answer.{Answer}
use Rattle.eris_txn.specs.declared.body.Body.{Body}
use Rattle.eris_txn.specs.declared.body.Body.TheVariants.{Independent}
use Rattle.eris_txn.specs.declared.op.Op.{Op}
use Rattle.eris_txn.specs.declared.packet.Packet.{Packet}
use Rattle.eris_txn.specs.Operations.{answers, key_of}
use Rattle.eris_txn.proofs.ValueLaws.{length-answers}
use Rattle.eris_locks.specs.LockTable.{Stepped, arrive, arrive_new, done, execute, only, run_state, step}
use Rattle.eris_locks.specs.declared.done.Done.{Done}
use Rattle.eris_locks.specs.declared.shard_packet.ShardPacket.{ShardPacket}
use Rattle.eris_locks.specs.Shards.{cut, cut_body, is_on, names_shard, on_shard, place_on}
use Rattle.eris_locks.specs.States.{StoreState, empty}
use Rattle.eris_law_calm.specs.Packets.{HasItems, IsPacketOf, IsWhole, ops_on}

module _ (shard : ShardId) (Known : TxnId → List Op → Type 0) (one : (id : TxnId) (ops others : List Op) → Known id ops → Known id others → ops ≡ others) where
  -- nobody holds or waits, and what is recorded has as many items as it should
  record IsFree (state : StoreState) : Type 0 where
    holding : state.holding ≡ []
    waiting : state.waiting ≡ []
    recorded : (id : TxnId) (answer : Answer) (ops : List Op) → state.recorded id Phase.Whole ≡ Some answer → Known id ops → HasItems answer (ops_on shard ops)

  same_cut : (ops : List Op) → length (filter (λ op. is_on shard (key_of op)) ops) ≡ length (filter (λ key. key.shard.0 == shard.0) (map key_of ops))
  same_cut [] = refl
  same_cut (op ∷ ops) = by_test (is_on shard (key_of op)) (same_cut ops)
    where
      by_test : (b : Bool) → length (filter (λ op. is_on shard (key_of op)) ops) ≡ length (filter (λ key. key.shard.0 == shard.0) (map key_of ops))
          → length (cond b (op ∷ filter (λ op. is_on shard (key_of op)) ops) (filter (λ op. is_on shard (key_of op)) ops))
          ≡ length (cond b (key_of op ∷ filter (λ key. key.shard.0 == shard.0) (map key_of ops)) (filter (λ key. key.shard.0 == shard.0) (map key_of ops)))
      by_test true h = ap (λ n. suc n) h
      by_test false h = h

  many_cut : (ops : List Op) → length (filter (λ op. is_on shard (key_of op)) ops) ≡ ops_on shard ops
  many_cut ops = same_cut ops ∙ length-filter (λ (key : Key). key.shard.0 == shard.0) (map key_of ops)

  -- what is left of operations on the shard
  abbrev cut_ops : List Op → List Op
  cut_ops ops = filter (λ op. is_on shard (key_of op)) ops

  abbrev come : TxnId → ClientId → Place → List Op → ShardPacket
  come id asker at ops = record { id = id; asker = asker; at = at; body = Independent (cut_ops ops) }

  -- a step that answers at once, and leaves nobody waiting
  record Answers (id : TxnId) (ops : List Op) (stepped : Stepped) : Type 0 where
    free : IsFree stepped.state
    answer : Answer
    prompt : option_map (λ (d : Done). d.answer) (find (λ (d : Done). not d.late) stepped.dones) ≡ Some answer
    has : HasItems answer (ops_on shard ops)

  module _ (state : StoreState) (free : IsFree state) (id : TxnId) (asker : ClientId) (at : Place) (ops : List Op) (known : Known id ops) where
    abbrev packet : ShardPacket
    packet = come id asker at ops

    new_items : HasItems (Answer.Ops (answers (cut_ops ops) state.values)) (ops_on shard ops)
    new_items = record { items = answers (cut_ops ops) state.values; is = refl; many = length-answers (cut_ops ops) state.values ∙ many_cut ops }

    executes : Answers id ops (only (execute state packet) (done at packet (Answer.Ops (answers (cut_ops ops) state.values)) false))
    executes = record {
      free = record {
        holding = free.holding;
        waiting = free.waiting;
        recorded = λ other answer others is k. by_id other answer others (same_id id other) refl is k;
      };
      answer = Answer.Ops (answers (cut_ops ops) state.values);
      prompt = refl;
      has = new_items;
    }
      where
        by_id : (other : TxnId) (answer : Answer) (others : List Op) (b : Bool) → same_id id other ≡ b → cond (b && true) (Some (Answer.Ops (answers (cut_ops ops) state.values))) (state.recorded other Phase.Whole) ≡ Some answer
            → Known other others → HasItems answer (ops_on shard others)
        by_id other answer others true same is k =
            let equal : ops ≡ others = one other ops others (subst (λ (i : TxnId). Known i ops) (same_id-true id other same) known) k in
            let given : Answer.Ops (answers (cut_ops ops) state.values) ≡ answer = cc in
            subst (λ (a : Answer). HasItems a (ops_on shard others)) given (subst (λ (l : List Op). HasItems (Answer.Ops (answers (cut_ops ops) state.values)) (ops_on shard l)) equal new_items)
        by_id other answer others false apart is k = free.recorded other answer others is k

    arrives_new : Answers id ops (arrive_new state packet)
    arrives_new = rw (free.holding, free.waiting, arrive_new) executes

    by_record : (found : Option Answer) → state.recorded id Phase.Whole ≡ found → Answers id ops (arrive state packet)
    by_record (Some answer) is = rw (is, arrive) (record { free = free; answer = answer; prompt = refl; has = free.recorded id answer ops is known })
    by_record None is = rw (is, free.waiting, arrive) arrives_new

    answers_at_once : Answers id ops (step state packet)
    answers_at_once = by_record (state.recorded id Phase.Whole) refl

  -- the store after a log of known packets is free
  free_after : (log : List Packet) (state : StoreState) → Each (IsWhole Known) log → IsFree state → IsFree (run_state state (on_shard shard log))
  free_after [] state each free = free
  free_after (p ∷ log) state each free = by_name (names_shard shard p) refl (λ next. free_after log next each.1)
    where
      stepped : Answers p.id each.0.0 (step state (cut shard p))
      stepped =
          subst (λ (body : Body). Answers p.id each.0.0 (step state (record { id = p.id; asker = p.asker; at = place_on shard p.stamp; body = cut_body shard body }))) (sym each.0.1.body)
          (answers_at_once state free p.id p.asker (place_on shard p.stamp) each.0.0 each.0.1.known)

      by_name : (b : Bool) → names_shard shard p ≡ b → ((next : StoreState) → IsFree next → IsFree (run_state next (on_shard shard log))) → IsFree (run_state state (on_shard shard (p ∷ log)))
      by_name true is rest = rw (is, on_shard) (rest (step state (cut shard p)).state stepped.free)
      by_name false is rest = rw (is, on_shard) (rest state free)

  empty_free : IsFree empty
  empty_free = record { holding = refl; waiting = refl; recorded = λ id answer ops is known. absurd (cc) }

  -- AT ONCE: over a log of known packets, the store answers one more
  pub answered : (log : List Packet) (p : Packet) (ops : List Op) → Each (IsWhole Known) log → IsPacketOf Known p ops
      → (answer : Answer) × (option_map (λ (d : Done). d.answer) (find (λ (d : Done). not d.late) (step (run_state empty (on_shard shard log)) (cut shard p)).dones) ≡ Some answer) × HasItems answer (ops_on shard ops)
  answered log p ops each is =
      let now = run_state empty (on_shard shard log) in
      let stepped =
      subst (λ (body : Body). Answers p.id ops (step now (record { id = p.id; asker = p.asker; at = place_on shard p.stamp; body = cut_body shard body }))) (sym is.body)
      (answers_at_once now (free_after log empty each empty_free) p.id p.asker (place_on shard p.stamp) ops is.known) in
      (stepped.answer, stepped.prompt, stepped.has)
