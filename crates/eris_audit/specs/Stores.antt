use Rattle.std.specs.Prelude.{ℕ, Bool, List}
use Rattle.eris_txn.specs.declared.key.Key.{Key}

-- a store that runs transactions one after another: the keys that have a value, with it, each key once; and whether memory has run out
pub record StoreValue : Type 0 where
  pub entries : List (Key × ℕ)
  pub spent : Bool
