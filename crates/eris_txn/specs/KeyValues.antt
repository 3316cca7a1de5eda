use Rattle.std.specs.Prelude.{ℕ, List, sum_by, ◌%◌, ◌^◌}
use Rattle.std.specs.Map.{lookup}
use Rattle.std.specs.BTreeMap.{is_at}
use Rattle.eris_txn.specs.declared.key.Key.{Key}
use Rattle.eris_txn.specs.Keys.{Values, key_cmp}

-- what each key's value is, by the keys that have one
abbrev pub values_of : List (Key × ℕ) → Values
values_of entries = λ key. lookup (is_at (key_cmp key)) entries

-- the sum of all values, modulo 2^64
abbrev pub total_of : List (Key × ℕ) → ℕ
total_of entries = sum_by (λ entry. entry.1) entries % 2 ^ 64
