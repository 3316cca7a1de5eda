-- LISTS OF NODES, of which one changes: how many there are stays, and what holds of each holds on.
use Rattle.std.proofs.Common.{◌≡◌, ◌<◌, ℕ, zero, suc, ◌+◌, length, map, replicate, Option, Some, None, List, [], ◌∷◌, refl, ap, sym, ◌∙◌, subst, arith}
use Rattle.std.specs.Prelude.{slice_get, slice_set}
use Rattle.std.specs.List.{range_with_len}
use Rattle.std.proofs.lemmas.List.{length-set}
use Rattle.eris_base.specs.declared.ids.ReplicaId.{ReplicaId}
use Rattle.eris_base.specs.declared.ids.ShardId.{ShardId}
use Rattle.eris_base.specs.Each.{Each}
use Rattle.eris_rules.specs.Worlds.{in_row, replica_at, with_in_row, with_replica}

module _ {X : Type 0} where
  abbrev pub lengths : List (List X) → List ℕ
  lengths rows = map (λ (row : List X). length row) rows

  lengths_set : (rows : List (List X)) (at : ℕ) (row next : List X) → slice_get rows at ≡ Some row → length next ≡ length row → lengths (slice_set rows at next) ≡ lengths rows
  lengths_set [] at row next is same = refl
  lengths_set (first ∷ rows) zero row next is same = let here : first ≡ row = cc in ap (λ (n : ℕ). n ∷ lengths rows) (same ∙ ap (λ (list : List X). length list) (sym here))
  lengths_set (first ∷ rows) (suc at) row next is same = ap (λ (list : List ℕ). length first ∷ list) (lengths_set rows at row next is same)

  lengths_row : (rows : List (List X)) (at : ℕ) (found : Option (List X)) → slice_get rows at ≡ found → (number : ℕ) (item : X) → lengths (with_in_row rows at found number item) ≡ lengths rows
  lengths_row rows at None is number item = refl
  lengths_row rows at (Some row) is number item = lengths_set rows at row (slice_set row number item) is (length-set row number item)

  pub same_lengths : (rows : List (List X)) (shard : ShardId) (replica : ReplicaId) (item : X) → lengths (with_replica rows shard replica item) ≡ lengths rows
  unfolding with_replica
  same_lengths rows shard replica item = lengths_row rows shard.0 (slice_get rows shard.0) refl replica.0 item

  -- what stands at a replica stands within the rows
  lengths_at : (rows : List (List X)) (count width : ℕ) → lengths rows ≡ replicate count width → (at number : ℕ) (item : X) → in_row (slice_get rows at) number ≡ Some item → (at < count) × (number < width)
  lengths_at [] count width h at number item is = absurd cc
  lengths_at (row ∷ rows) zero width h at number item is = absurd cc
  lengths_at (row ∷ rows) (suc count) width h zero number item is =
      let same : length row ≡ width = cc in let lt = within row number item is in (omega arith, omega (arith, lt, same))
    where
      within : (items : List X) (number : ℕ) (item : X) → slice_get items number ≡ Some item → number < length items
      within [] number item is = absurd cc
      within (first ∷ items) zero item is = omega arith
      within (first ∷ items) (suc number) item is = let rest = within items number item is in omega (arith, rest)
  lengths_at (row ∷ rows) (suc count) width h (suc at) number item is =
      let more : lengths rows ≡ replicate count width = cc in let rest = lengths_at rows count width more at number item is in (omega (arith, rest.0), rest.1)

  pub within_rows : (rows : List (List X)) (count width : ℕ) → lengths rows ≡ replicate count width → (shard : ShardId) (replica : ReplicaId) (item : X) → replica_at rows shard replica ≡ Some item
      → (shard.0 < count) × (replica.0 < width)
  unfolding replica_at
  within_rows rows count width h shard replica item is = lengths_at rows count width h shard.0 replica.0 item is

  pub lengths_new : (make : ℕ → List X) (width : ℕ) → ((n : ℕ) → length (make n) ≡ width) → (from count : ℕ) → lengths (map make (range_with_len from count)) ≡ replicate count width
  lengths_new make width h from zero = refl
  lengths_new make width h from (suc count) = λ i. h from i ∷ lengths_new make width h (from + 1) count i

  -- ---- lists
  pub each_got : (P : X → Type 0) (items : List X) (at : ℕ) (item : X) → Each P items → slice_get items at ≡ Some item → P item
  each_got P [] at item h is = absurd cc
  each_got P (first ∷ items) zero item h is = let same : first ≡ item = cc in subst P same h.0
  each_got P (first ∷ items) (suc at) item h is = each_got P items at item h.1 is

  pub each_set : (P : X → Type 0) (items : List X) (at : ℕ) (item : X) → Each P items → P item → Each P (slice_set items at item)
  each_set P [] at item h k = tt
  each_set P (first ∷ items) zero item h k = (k, h.1)
  each_set P (first ∷ items) (suc at) item h k = (h.0, each_set P items at item h.1 k)

  -- one of as many copies
  pub one_of_copies : (count : ℕ) (item : X) (at : ℕ) (found : X) → slice_get (replicate count item) at ≡ Some found → (at < count) × (found ≡ item)
  one_of_copies zero item at found is = absurd cc
  one_of_copies (suc count) item zero found is = (omega arith, cc)
  one_of_copies (suc count) item (suc at) found is = let rest = one_of_copies count item at found is in (omega (arith, rest.0), rest.1)
