-- A list with one item for each place is what its shards' shares say: two such lists with the same share on each
-- shard are equal. Used where shards are joined: for a Commit, and for what was read or answered.
use Rattle.std.proofs.Common.{◌≡◌, Bool, true, false, cond, List, [], ◌∷◌, map, refl, sym, ◌∙◌}
use Rattle.std.proofs.lemmas.Bool.{or_left, or_right, cond-true, eq-eqb}
use Rattle.eris_base.specs.declared.ids.ShardId.{ShardId}
use Rattle.eris_txn.specs.declared.key.Key.{Key}
use Rattle.eris_txn.specs.declared.op.Op.{Op}
use Rattle.eris_txn.specs.Bodies.{any_on}
use Rattle.eris_txn.specs.Keys.{Values}
use Rattle.eris_txn.specs.Operations.{after, answers}
use Rattle.eris_locks.specs.Shards.{is_on}
use Rattle.eris_serial.specs.Shares.{share, OneForEach}

pub answers-one_each : (ops : List Op) (values : Values) → OneForEach ops (answers ops values)
answers-one_each [] values = tt
answers-one_each (op ∷ ops) values = answers-one_each ops (after op values)

pub values-one_each : (keys : List Key) (values : Values) → OneForEach keys (map values keys)
values-one_each [] values = tt
values-one_each (key ∷ keys) values = values-one_each keys values

module _ {X : Type 0} (A : Type 0) (key_in : X → Key) where
  abbrev on : ShardId → X → Bool
  on shard place = is_on shard (key_in place)

  heads : (shard : ShardId) (place : X) (some other : A) (items others : List A)
      → cond (on shard place) (some ∷ items) items ≡ cond (on shard place) (other ∷ others) others → on shard place ≡ true → some ≡ other
  heads shard place some other items others same here =
      let both : some ∷ items ≡ other ∷ others = sym (cond-true _ _ _ here) ∙ (same ∙ cond-true _ _ _ here) in
      cc

  tails : (test : Bool) (some other : A) (items others : List A) → cond test (some ∷ items) items ≡ cond test (other ∷ others) others
      → items ≡ others
  tails true some other items others same = cc
  tails false some other items others same = same

  pub shares_decide : (places : List X) (items others : List A) → OneForEach places items → OneForEach places others
      → ((shard : ShardId) → any_on (map key_in places) shard ≡ true → share (on shard) places items ≡ share (on shard) places others)
      → items ≡ others
  shares_decide [] [] [] each each' same = refl
  shares_decide [] [] (other ∷ others) each each' same = absurd each'
  shares_decide [] (item ∷ items) others each each' same = absurd each
  shares_decide (place ∷ places) [] others each each' same = absurd each
  shares_decide (place ∷ places) (item ∷ items) [] each each' same = absurd each'
  shares_decide (place ∷ places) (item ∷ items) (other ∷ others) each each' same =
      let shard = (key_in place).shard in
      let here : on shard place ≡ true = eq-eqb shard.0 shard.0 refl in
      let head = heads shard place item other (share (on shard) places items) (share (on shard) places others) (same shard (or_left _ _ here)) here in
      let tail = shares_decide places items others each each' (λ other_shard part. tails (on other_shard place) item other (share (on other_shard) places items) (share (on other_shard) places others) (same other_shard (or_right _ _ part))) in
      cc
