-- THE SUMMARY of a drill's run: its counts, and the sum of all accounts.
use Rattle.std.specs.Prelude.{◌≡◌, ℕ, Bool, true, false, List, [], ◌∷◌, ◌++◌, count_by, map, codes}
use Rattle.std.specs.List.{flat_map}
use Rattle.std.specs.List.Sorted.{IsStrictlySortedBy}
use Rattle.eris_base.specs.declared.ids.TxnId.{TxnId}
use Rattle.eris_txn.specs.declared.key.Key.{Key}
use Rattle.eris_txn.specs.declared.history.HistoryEvent.{HistoryEvent}
use Rattle.eris_txn.specs.declared.history.HistoryEvent.TheVariants as history
use Rattle.eris_txn.specs.declared.txn.Txn.{Txn}
use Rattle.eris_txn.specs.Keys.{Values, key_cmp, no_values}
use Rattle.eris_txn.specs.KeyValues.{total_of, values_of}
use Rattle.eris_audit.specs.declared.order_line.OrderLine.{OrderLine}
use Rattle.eris_audit.specs.declared.outcome.Outcome.TheVariants.{Done, Committed, Aborted, Pending}
use Rattle.eris_audit.specs.Histories.{txn_of}
use Rattle.eris_audit.specs.SerialRun.{left_by_step}
use Rattle.eris_event.specs.declared.report.Report.{Report}
use Rattle.eris_words.specs.Decimal.{decimal}
use Rattle.eris_words.specs.Words.{line}

-- WHAT IS COUNTED

unfoldable pub is_submit : HistoryEvent → Bool
is_submit (history.Submit id txn) = true
is_submit (history.Read id values) = false
is_submit (history.Answer id answer) = false
is_submit (history.Told asker id answer) = false

unfoldable pub is_answer : HistoryEvent → Bool
is_answer (history.Submit id txn) = false
is_answer (history.Read id values) = false
is_answer (history.Answer id answer) = true
is_answer (history.Told asker id answer) = false

abbrev pub is_committed : OrderLine → Bool
is_committed line = elim line.outcome [ Done ↦ false | Committed ↦ true | Aborted ↦ false | Pending ↦ false ]

abbrev pub is_aborted : OrderLine → Bool
is_aborted line = elim line.outcome [ Done ↦ false | Committed ↦ false | Aborted ↦ true | Pending ↦ false ]

abbrev pub is_open : OrderLine → Bool
is_open line = elim line.outcome [ Done ↦ false | Committed ↦ false | Aborted ↦ false | Pending ↦ true ]

-- THE SUM of all values, modulo 2^64, of a map that gives these values
pub record IsTotal (values : Values) (total : ℕ) : Type 0 where
  pub entries : List (Key × ℕ)
  pub are : values_of entries ≡ values
  pub ordered : IsStrictlySortedBy key_cmp (map (λ entry. entry.0) entries)
  pub sum : total ≡ total_of entries

-- the values after lines, one transaction after another over one map; a commit whose guards don't hold does nothing
unfoldable pub after_steps : (TxnId → Txn) → List OrderLine → Values → Values
after_steps txn [] values = values
after_steps txn (line ∷ lines) values = after_steps txn lines (left_by_step (txn line.id) line.outcome values)

-- the values that a report's order leaves
unfoldable pub values_left : Report → Values
values_left report = after_steps (txn_of report.history) report.order no_values

-- THE TEXT: `drill N`, the number of the script's lines, what is counted in the report, the sum, and `end`
abbrev pub count_line : List ℕ → ℕ → List (List ℕ)
count_line name count = name ∷ decimal count ∷ []

unfoldable pub history_lines : Report → List (List (List ℕ))
history_lines report =
    count_line (codes "submitted") (count_by is_submit report.history)
    ∷ count_line (codes "answered") (count_by is_answer report.history) ∷ []

unfoldable pub order_lines : Report → List (List (List ℕ))
order_lines report =
    count_line (codes "committed") (count_by is_committed report.order)
    ∷ count_line (codes "aborted") (count_by is_aborted report.order)
    ∷ count_line (codes "open") (count_by is_open report.order) ∷ []

unfoldable pub head_lines : ℕ → ℕ → List (List (List ℕ))
head_lines number lines = count_line (codes "drill") number ∷ count_line (codes "lines") lines ∷ []

unfoldable pub foot_lines : Report → ℕ → List (List (List ℕ))
foot_lines report total =
    count_line (codes "sent") report.sent ∷ count_line (codes "total") total ∷ (codes "end" ∷ []) ∷ []

unfoldable pub summary_text : ℕ → ℕ → Report → ℕ → List ℕ
summary_text number lines report total =
    flat_map line (head_lines number lines ++ history_lines report ++ order_lines report ++ foot_lines report total)
