-- The transactions of a history by id, to be looked up.
use Rattle.std.specs.Prelude.{Option, Some, None, List, [], unwrap_or, if◌then◌else◌}
use Rattle.std.specs.BTreeMap.{is_at}
use Rattle.std.specs.Map.{lookup}
use Rattle.std.specs.Option.{option_or}
use Rattle.std.specs.Ordering.{nat_cmp, ordering_then}
use Rattle.std.specs.declared.cmp.Ordering.{Ordering}
use Rattle.eris_base.specs.declared.ids.TxnId.{TxnId}
use Rattle.eris_base.specs.TxnIds.{same_id}
use Rattle.eris_txn.specs.declared.txn.Txn.{Txn}
use Rattle.eris_txn.specs.declared.txn.Txn.TheVariants.{Whole}

-- the order of ids: by client, then by number
abbrev pub id_cmp : TxnId → TxnId → Ordering
id_cmp some other = ordering_then (nat_cmp some.client.0 other.client.0) (nat_cmp some.number other.number)

-- the transaction that is kept of an id
abbrev pub kept_of : List (TxnId × Txn) → TxnId → Option Txn
kept_of entries id = lookup (is_at (id_cmp id)) entries

-- where none is kept, one that does nothing
abbrev pub kept_or_nothing : List (TxnId × Txn) → TxnId → Txn
kept_or_nothing entries id = unwrap_or (kept_of entries id) (Whole [])

-- a transaction is kept of an id, unless one is already
abbrev pub with_first : (TxnId → Option Txn) → TxnId → Txn → TxnId → Option Txn
with_first kept id txn other = option_or (kept other) (if same_id id other then Some txn else None)
