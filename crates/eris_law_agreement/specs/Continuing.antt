-- A list that goes on from another.
use Rattle.std.specs.Prelude.{◌≡◌, List, ◌++◌}

-- the longer list is the other, with more at its end
pub record Continues {X : Type 0} (some all : List X) : Type 0 where
  pub more : List X
  pub is : all ≡ some ++ more
