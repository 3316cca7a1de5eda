-- Lists whose items stand in the order of their keys, each key once.
use Rattle.std.specs.Prelude.{◌≡◌, ◌<◌, ◌≤◌, ◌+◌, ℕ, Bool, true, ◌&&◌, Option, Some, None, is_some, List, [], ◌∷◌, length, find, fold, insert, drop, slice_get, if◌then◌else◌}
use Rattle.std.specs.Ordering.{is_lt, is_eq}
use Rattle.std.specs.declared.cmp.Ordering.{Ordering}

-- the key is above the one before it, if there is one
abbrev pub is_above : {K : Type 0} → (K → K → Ordering) → Option K → K → Bool
is_above cmp None k = true
is_above cmp (Some before) k = is_lt (cmp before k)

module _ {X K : Type 0} (key : X → K) (cmp : K → K → Ordering) where
  -- the keys strictly ascend
  abbrev pub ascends_from : Option K → List X → Bool
  ascends_from before [] = true
  ascends_from before (item ∷ items) = is_above cmp before (key item) && ascends_from (Some (key item)) items

  abbrev pub ascends : List X → Bool
  ascends items = ascends_from None items

  -- the item with this key
  unfoldable pub item_at : List X → K → Option X
  item_at items k = find (λ item. is_eq (cmp (key item) k)) items

  -- the list with one more item, before the first that is above it
  unfoldable pub placed : List X → X → List X
  placed [] item = item ∷ []
  placed (other ∷ items) item =
      if is_lt (cmp (key item) (key other)) then item ∷ other ∷ items else other ∷ placed items item

  -- the list with the item, where none with its key is there yet
  unfoldable pub with_item : List X → X → List X
  with_item items item = if is_some (item_at items (key item)) then items else placed items item

  -- the first list with each item of the second whose key isn't there yet
  unfoldable pub union : List X → List X → List X
  union items others = fold (λ made item. with_item made item) items others

  -- the items from the first on whose key isn't below this one
  unfoldable pub items_from : List X → K → List X
  items_from [] k = []
  items_from (item ∷ items) k = if is_lt (cmp (key item) k) then items_from items k else item ∷ items

  -- the first item, where it has this key
  unfoldable pub head_at : List X → K → Option X
  head_at [] k = None
  head_at (item ∷ items) k = if is_eq (cmp (key item) k) then Some item else None

  -- the item with the key stands at this index
  pub record IsFoundAt (items : List X) (k : K) (at : ℕ) : Type 0 where
    pub in_range : at < length items
    pub is : item_at items k ≡ slice_get items at
    pub behind : items_from items k ≡ drop at items

  -- no item has the key, and one that has it goes to this index
  pub record IsFreeAt (items : List X) (k : K) (at : ℕ) : Type 0 where
    pub in_range : at ≤ length items
    pub none : item_at items k ≡ None
    pub goes : (item : X) → key item ≡ k → placed items item ≡ insert items at item
    pub behind : items_from items k ≡ drop at items

  -- the union of two lists starts with this item, which leaves these of the two
  pub record StartsUnion (left right : List X) (item : X) (more rest : List X) : Type 0 where
    pub starts : union left right ≡ item ∷ union more rest
    pub more_ascends : ascends more ≡ true
    pub rest_ascends : ascends rest ≡ true
    pub fewer : length more + length rest < length left + length right
