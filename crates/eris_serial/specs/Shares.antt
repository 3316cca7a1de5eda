-- An answer of many shards, and each shard's share of it.
use Rattle.std.specs.Prelude.{Bool, List, [], ◌∷◌, ⊤, if◌then◌else◌}

-- of the items of the second list those at whose places the first list passes the test
abbrev pub share : {X A : Type 0} → (X → Bool) → List X → List A → List A
share test [] items = []
share test (place ∷ places) [] = []
share test (place ∷ places) (item ∷ items) =
    if test place then item ∷ share test places items else share test places items

-- the second list has one item for each place of the first
abbrev pub OneForEach : {X A : Type 0} → List X → List A → Type 0
OneForEach [] [] = ⊤
OneForEach [] (item ∷ items) = ⊥
OneForEach (place ∷ places) [] = ⊥
OneForEach (place ∷ places) (item ∷ items) = OneForEach places items
