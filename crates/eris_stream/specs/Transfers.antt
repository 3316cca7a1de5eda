use Rattle.std.specs.Prelude.{◌≡◌, ℕ, ◌+◌, ◌<◌, ◌≤◌, Option, List, length, take}
use Rattle.std.specs.Io.KnownBytes.{Consumes, IsAtEnd, Appends}

-- all that was left came, within the limit
pub record ReadsToEnd (before after : Option (List ℕ)) (limit : ℕ) (bytes : List ℕ) : Type 0 where
  pub came : Consumes before after bytes
  pub ended : IsAtEnd after
  pub within : length bytes ≤ limit

-- no more bytes came than one past the limit
pub record ReadsSome (before after : Option (List ℕ)) (limit : ℕ) : Type 0 where
  pub bytes : List ℕ
  pub came : Consumes before after bytes
  pub few : length bytes ≤ limit + 1

-- one byte past the limit came, and none after it
pub record ReadsPast (before after : Option (List ℕ)) (limit : ℕ) : Type 0 where
  pub bytes : List ℕ
  pub came : Consumes before after bytes
  pub past : length bytes ≡ limit + 1

-- a prefix of the bytes was taken, which isn't all of them
pub record TakesFront (before after : Option (List ℕ)) (bytes : List ℕ) : Type 0 where
  pub count : ℕ
  pub short : count < length bytes
  pub front : Appends before after (take count bytes)
