use Rattle.std.specs.Prelude.{List, [], ◌∷◌, ◌++◌, ⊤}

-- each item of a list has a property
abbrev pub Each : {X : Type 0} → (X → Type 0) → List X → Type 0
Each P [] = ⊤
Each P (x ∷ xs) = P x × Each P xs

-- each item of a list has a property that also speaks of the items before it
abbrev pub EachAfter : {X : Type 0} → (List X → X → Type 0) → List X → List X → Type 0
EachAfter P before [] = ⊤
EachAfter P before (x ∷ xs) = P before x × EachAfter P (before ++ x ∷ []) xs
