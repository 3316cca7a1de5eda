use Rattle.std.specs.Prelude.{◌≡◌, ℕ, suc, Option, Some, None, List, [], ◌∷◌, map, if◌then◌else◌}
use Rattle.std.specs.Borrow.{Bor}
use Rattle.std.specs.Option.{option_map}
use Rattle.std.specs.Map.{lookup}
use Rattle.eris_base.specs.declared.ids.TxnId.{TxnId}
use Rattle.eris_txn.specs.declared.history.HistoryEvent.{HistoryEvent}
use Rattle.eris_txn.specs.declared.txn.Txn.{Txn}
use Rattle.eris_audit.specs.declared.outcome.Outcome.{Outcome}
use Rattle.eris_audit.specs.Histories.{first_submit}
use Rattle.eris_audit.specs.Lines.{Line}
use Rattle.eris_base.specs.TxnIds.{same_id}

-- ids with their outcomes, as lines
abbrev pub lines_from : List (TxnId × Outcome) → List Line
lines_from entries = map (λ entry. record { id = entry.0; outcome = entry.1 }) entries

-- the place of an id's line, from 0
abbrev pub place_in : List Line → TxnId → Option ℕ
place_in [] id = None
place_in (line ∷ lines) id = if same_id line.id id then Some 0 else option_map (λ place. suc place) (place_in lines id)

-- a table of the transaction of each id that was submitted
abbrev pub AreSubmits : List HistoryEvent → List (TxnId × Bor Txn) → Type 0
AreSubmits history entries =
    (id : TxnId) → option_map (λ txn. txn.now) (lookup (λ other. same_id other id) entries) ≡ first_submit history id
