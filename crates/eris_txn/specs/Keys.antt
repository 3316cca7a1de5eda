use Rattle.std.specs.Prelude.{ℕ, Bool, Option, None, if◌then◌else◌}
use Rattle.std.specs.Ordering.{nat_cmp, ordering_then}
use Rattle.std.specs.declared.cmp.Ordering.{Ordering}
use Rattle.std.specs.Cmp.Lexicographic.{slice_cmp}
use Rattle.std.specs.BTreeMap.{is_at}
use Rattle.eris_txn.specs.declared.key.Key.{Key}

-- the order of keys: by shard, then by the bytes of the name
abbrev pub key_cmp : Key → Key → Ordering
key_cmp some other = ordering_then (nat_cmp some.shard.0 other.shard.0) (slice_cmp nat_cmp some.name other.name)

-- two keys that are equal
unfoldable pub same_key : Key → Key → Bool
same_key some other = is_at (key_cmp some) other

-- what each key's value is; None where it has none
abbrev pub Values : Type 0
Values = Key → Option ℕ

abbrev pub no_values : Values
no_values = λ key. None

-- the same, but for one key
abbrev pub with_value : Key → Option ℕ → Values → Values
with_value key value values = λ other. if same_key key other then value else values other
