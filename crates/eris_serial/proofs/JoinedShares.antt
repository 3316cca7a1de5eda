-- An answer made by taking the shards' items in turn has one item for each place, and each shard's share of it is what the
-- shard gave. So an answer over many shards is said by its shares. Used by a protocol whose clients join answers.
use Rattle.std.proofs.Common.{◌≡◌, map, ℕ, Option, length, arith, Bool, true, false, cond, List, [], ◌∷◌, refl, ap, sym, ◌∙◌, subst, ◌⊎◌, inl, inr}
use Rattle.std.proofs.lemmas.Bool.{cases_Bool, cond-true, cond-false, eqb-true, eq-eqb}
use Rattle.std.specs.List.{filter}
use Rattle.std.specs.Prelude.{IsTrue}
use Rattle.eris_base.specs.declared.ids.Phase.{Phase}
use Rattle.eris_base.specs.declared.ids.TxnId.{TxnId}
use Rattle.eris_txn.specs.declared.answer.Answer.{Answer}
use Rattle.eris_txn.specs.declared.op.Op.{Op}
use Rattle.eris_txn.specs.declared.op.OpAnswer.{OpAnswer}
use Rattle.eris_txn.specs.declared.packet.Packet.{Packet}
use Rattle.eris_txn.specs.declared.txn.Txn.{Txn}
use Rattle.eris_txn.specs.declared.txn.Txn.TheVariants.{Whole, General}
use Rattle.eris_txn.specs.Operations.{key_of}
use Rattle.eris_txn.specs.PlanValues.{PlanValue}
use Rattle.eris_serial.specs.Evidence.{ReadEvidence, SaidOn, WholeEvidence}
use Rattle.eris_serial.specs.Transactions.{takes_part}
use Rattle.eris_base.specs.declared.ids.ShardId.{ShardId}
use Rattle.eris_base.proofs.Booleans.{number_turned}
use Rattle.eris_txn.specs.declared.key.Key.{Key}
use Rattle.eris_locks.specs.Shards.{is_on}
use Rattle.eris_serial.specs.Joining.{GaveEach, IsJoined, TakesInTurn, shards_in_order, with_rest}
use Rattle.eris_serial.specs.Shares.{share, OneForEach}

module _ {X : Type 0} (A : Type 0) (key_in : X → Key) where
  abbrev on : ShardId → X → Bool
  on shard place = is_on shard (key_in place)

  nothing_left : (items : List A) → OneForEach {X = X} [] items → [] ≡ items
  nothing_left [] each = refl
  nothing_left (item ∷ items) each = absurd each

  -- the list that is left of a shard, by the test that cuts shares
  left_is : (place : X) (rest : List A) (given : ShardId → List A) (shard : ShardId)
      → with_rest (key_in place).shard rest given shard ≡ cond (on shard place) rest (given shard)
  left_is place rest given shard = ap (λ test. cond test rest (given shard)) (number_turned shard.0 (key_in place).shard.0)

  -- the first place's shard gave an item
  gave_one : (place : X) (places : List X) (given : ShardId → List A) → GaveEach key_in (place ∷ places) given → given (key_in place).shard ≡ [] → ⊥
  gave_one place places given gave is =
      subst (λ (test : Bool). OneForEach {A = A} (cond test (place ∷ filter (on own) places) (filter (on own) places)) []) here
      (subst (λ (l : List A). OneForEach (filter (on own) (place ∷ places)) l) is (gave own))
    where
      own : ShardId
      own = (key_in place).shard

      here : on own place ≡ true
      here = eq-eqb own.0 own.0 refl

  module _ (place : X) (places : List X) (given : ShardId → List A) (item : A) (rest : List A) (is : given (key_in place).shard ≡ item ∷ rest) where
    at_own : (shard : ShardId) → on shard place ≡ true → given shard ≡ item ∷ rest
    at_own shard same = ap given (sym (λ i. record { 0 = eqb-true (key_in place).shard.0 shard.0 same i })) ∙ is

    -- and the rest is one for each of the other places
    gave_rest : GaveEach key_in (place ∷ places) given → GaveEach key_in places (with_rest (key_in place).shard rest given)
    gave_rest gave shard = subst (λ (l : List A). OneForEach (filter (on shard) places) l) (sym (left_is place rest given shard)) (by_test (on shard place) refl (gave shard))
      where
        by_test : (test : Bool) → on shard place ≡ test → OneForEach (cond test (place ∷ filter (on shard) places) (filter (on shard) places)) (given shard)
            → OneForEach (filter (on shard) places) (cond test rest (given shard))
        by_test true same each = subst (λ (l : List A). OneForEach (place ∷ filter (on shard) places) l) (at_own shard same) each
        by_test false apart each = each

    -- an item before what is joined of the rest
    joined_next : (items : List A) → IsJoined key_in places (with_rest (key_in place).shard rest given) items → IsJoined key_in (place ∷ places) given (item ∷ items)
    joined_next items joined = record { each = joined.each; shares = λ shard. share_is shard (cases_Bool (on shard place)) }
      where
        share_is : (shard : ShardId) → ((on shard place ≡ true) ⊎ (on shard place ≡ false)) → share (on shard) (place ∷ places) (item ∷ items) ≡ given shard
        share_is shard (inl same) =
            cond-true _ _ _ same
            ∙ (ap (λ l. item ∷ l) (joined.shares shard ∙ (left_is place rest given shard ∙ cond-true _ _ _ same)) ∙ sym (at_own shard same))
        share_is shard (inr apart) = cond-false _ _ _ apart ∙ (joined.shares shard ∙ (left_is place rest given shard ∙ cond-false _ _ _ apart))

  -- WHAT IS TAKEN IN TURN IS JOINED
  module _ (take : List ShardId → (ShardId → List A) → List A) (turns : TakesInTurn take) where
    pub taken_is_joined : (places : List X) (given : ShardId → List A) → GaveEach key_in places given → IsJoined key_in places given (take (shards_in_order (map key_in places)) given)
    taken_is_joined [] given gave = subst (IsJoined key_in [] given) (sym (turns.none given)) (record { each = tt; shares = λ shard. nothing_left (given shard) (gave shard) })
    taken_is_joined (place ∷ places) given gave = by_list (given (key_in place).shard) refl (λ next gave'. taken_is_joined places next gave')
      where
        by_list : (list : List A) → given (key_in place).shard ≡ list
            → ((next : ShardId → List A) → GaveEach key_in places next → IsJoined key_in places next (take (shards_in_order (map key_in places)) next))
            → IsJoined key_in (place ∷ places) given (take (shards_in_order (map key_in (place ∷ places))) given)
        by_list [] is go = absurd (gave_one place places given gave is)
        by_list (item ∷ rest) is go =
            subst (IsJoined key_in (place ∷ places) given) (sym (turns.next (key_in place).shard (shards_in_order (map key_in places)) given item rest is))
            (joined_next place places given item rest is (take (shards_in_order (map key_in places)) (with_rest (key_in place).shard rest given))
            (go (with_rest (key_in place).shard rest given) (gave_rest place places given item rest is gave)))

-- as many items as places are one for each
one_each_by_length : {X : Type 0} (A : Type 0) (places : List X) (items : List A) → length items ≡ length places → OneForEach places items
one_each_by_length A [] [] same = tt
one_each_by_length A [] (item ∷ items) same = absurd (omega (arith, same))
one_each_by_length A (place ∷ places) [] same = absurd (omega (arith, same))
one_each_by_length A (place ∷ places) (item ∷ items) same = one_each_by_length A places items (omega (arith, same))

pub gave_by_length : {X : Type 0} (A : Type 0) (key_in : X → Key) (places : List X) (given : ShardId → List A)
    → ((shard : ShardId) → length (given shard) ≡ length (filter (λ place. is_on shard (key_in place)) places)) → GaveEach key_in places given
gave_by_length A key_in places given same shard = one_each_by_length A (filter (λ place. is_on shard (key_in place)) places) (given shard) (same shard)

-- A JOINED ANSWER IS EVIDENCE where each shard that takes part said what it gave
pub whole_joined : (txn : TxnId → Txn) (id : TxnId) (operations : List Op) (given : ShardId → List OpAnswer) (answers : List OpAnswer) (packets : List Packet) → txn id ≡ Whole operations → (operations ≡ [] → ⊥)
    → IsJoined key_of operations given answers → ((shard : ShardId) → IsTrue (takes_part shard (txn id)) → SaidOn shard id Phase.Whole (Answer.Ops (given shard)) packets)
    → WholeEvidence txn id (Answer.Ops answers) packets
whole_joined txn id operations given answers packets is some joined said = record {
  operations = operations;
  answers = answers;
  is = is;
  some_operation = some;
  answer_is = refl;
  each = joined.each;
  said = λ shard part. subst (λ (items : List OpAnswer). SaidOn shard id Phase.Whole (Answer.Ops items) packets) (sym (joined.shares shard)) (said shard part);
}

-- and so are joined values
pub read_joined : (txn : TxnId → Txn) (id : TxnId) (plan : PlanValue) (given : ShardId → List (Option ℕ)) (values : List (Option ℕ)) (packets : List Packet) → txn id ≡ General plan
    → IsJoined (λ key. key) plan.keys given values → ((shard : ShardId) → IsTrue (takes_part shard (txn id)) → SaidOn shard id Phase.Prelim (Answer.Values (given shard)) packets)
    → ReadEvidence txn id values packets
read_joined txn id plan given values packets is joined said = record {
  plan = plan;
  is = is;
  each = joined.each;
  said = λ shard part. subst (λ (items : List (Option ℕ)). SaidOn shard id Phase.Prelim (Answer.Values items) packets) (sym (joined.shares shard)) (said shard part);
}

-- such a function there is
abbrev taking : {A : Type 0} → List ShardId → (ShardId → List A) → List A
taking [] given = []
taking (shard ∷ shards) given = elim (given shard) [ [] ↦ taking shards given | item ∷ rest ↦ item ∷ taking shards (with_rest shard rest given) ]

taking_in_turn : (A : Type 0) → TakesInTurn {A = A} taking
taking_in_turn A = record { none = λ given. refl; next = λ shard shards given item rest is. rw (is, taking) refl }
