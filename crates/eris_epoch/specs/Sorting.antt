-- Lists sorted by a key, where items whose keys tie stay in the order that they have.
use Rattle.std.specs.Prelude.{◌≡◌, ℕ, false, ⊤, List, [], ◌∷◌, fold}
use Rattle.std.specs.Cmp.Lexicographic.{slice_cmp}
use Rattle.std.specs.Ordering.{nat_cmp, ordering_then, is_lt}
use Rattle.std.specs.declared.cmp.Ordering.{Ordering}
use Rattle.eris_base.specs.declared.ids.Epoch.{Epoch}
use Rattle.eris_base.specs.declared.ids.ShardId.{ShardId}
use Rattle.eris_base.specs.Each.{Each}
use Rattle.eris_log.specs.Sorted.{placed}

module _ {X K : Type 0} (key : X → K) (cmp : K → K → Ordering) where
  -- each item put, one after another, before the first that is above it
  unfoldable pub sorted : List X → List X
  sorted items = fold (λ made item. placed key cmp made item) [] items

  -- no item is above one behind it
  abbrev pub InOrder : List X → Type 0
  InOrder [] = ⊤
  InOrder (item ∷ items) = Each (λ other. is_lt (cmp (key other) (key item)) ≡ false) items × InOrder items

-- the order of lists of places: by the first place that differs, shard before number, and a list before
-- those that go on behind it
abbrev pub places_cmp : List (ShardId × ℕ) → List (ShardId × ℕ) → Ordering
places_cmp some others = slice_cmp (λ one other. ordering_then (nat_cmp one.0.0 other.0.0) (nat_cmp one.1 other.1)) some others

-- the order of pairs of an epoch and a number
abbrev pub turn_cmp : Epoch × ℕ → Epoch × ℕ → Ordering
turn_cmp some other = ordering_then (nat_cmp some.0.0 other.0.0) (nat_cmp some.1 other.1)
