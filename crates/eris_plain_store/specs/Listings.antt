use Rattle.std.specs.Prelude.{◌≡◌, ℕ, List, map}
use Rattle.std.specs.List.Sorted.{IsStrictlySortedBy}
use Rattle.std.specs.Map.{keys_of}
use Rattle.eris_txn.specs.declared.key.Key.{Key}
use Rattle.eris_txn.specs.declared.plan.Write.{Write}
use Rattle.eris_txn.specs.Keys.{Values, key_cmp}
use Rattle.eris_txn.specs.KeyValues.{values_of}

-- each key with its value
abbrev pub listed : List Write → List (Key × ℕ)
listed writes = map (λ write. (write.key, write.value)) writes

-- writes that list values: their keys ascend strictly, and the values are these, with None at every other key
pub record IsListing (values : Values) (writes : List Write) : Type 0 where
  pub ascending : IsStrictlySortedBy key_cmp (keys_of (listed writes))
  pub exact : values_of (listed writes) ≡ values
