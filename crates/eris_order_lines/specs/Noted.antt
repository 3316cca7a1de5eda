-- What a pass over an order notes of ids, to be looked up.
use Rattle.std.specs.Prelude.{Bool, Option, Some, None, List, if◌then◌else◌}
use Rattle.std.specs.BTreeMap.{is_at}
use Rattle.std.specs.Map.{lookup}
use Rattle.std.specs.Option.{option_or, unwrap_or}
use Rattle.std.specs.Ordering.{nat_cmp, ordering_then}
use Rattle.std.specs.declared.cmp.Ordering.{Ordering}
use Rattle.eris_base.specs.declared.ids.TxnId.{TxnId}
use Rattle.eris_base.specs.TxnIds.{same_id}
use Rattle.eris_txn.specs.declared.body.Body.{Body}
use Rattle.eris_txn.specs.declared.body.Body.TheVariants.{Independent, Prelim}
use Rattle.eris_audit.specs.declared.outcome.Outcome.{Outcome}

-- the order of ids: by client, then by number
abbrev pub id_cmp : TxnId → TxnId → Ordering
id_cmp some other = ordering_then (nat_cmp some.client.0 other.client.0) (nat_cmp some.number other.number)

-- the outcome that is noted of each id
abbrev pub noted_in : List (TxnId × Outcome) → TxnId → Option Outcome
noted_in entries id = lookup (is_at (id_cmp id)) entries

-- that of an id where one is noted, else Pending
abbrev pub noted_or_pending : List (TxnId × Outcome) → TxnId → Outcome
noted_or_pending entries id = unwrap_or (noted_in entries id) Outcome.Pending

-- an outcome is noted of an id, unless one is already
abbrev pub with_first : (TxnId → Option Outcome) → TxnId → Outcome → TxnId → Option Outcome
with_first noted id outcome other = option_or (noted other) (if same_id other id then Some outcome else None)

-- what becomes of the transaction of a first packet: whether a conclusory packet of its id stands before it, and
-- what the first one of all says
abbrev pub outcome_by_first : Body → Bool → Outcome → Outcome
outcome_by_first (Independent operations) decided first = Outcome.Done
outcome_by_first (Prelim locks) decided first = if decided then Outcome.Aborted else first
outcome_by_first body decided first = Outcome.Aborted
