use Rattle.std.specs.Prelude.{Bool, false, IsFalse, Option, Some, None, List, [], ◌∷◌, map, if◌then◌else◌}
use Rattle.std.specs.List.{list_any}
use Rattle.eris_base.specs.declared.ids.TxnId.{TxnId}
use Rattle.eris_audit.specs.declared.order_line.OrderLine.{OrderLine}
use Rattle.eris_audit.specs.declared.outcome.Outcome.{Outcome}
use Rattle.eris_base.specs.TxnIds.{same_id}

-- a transaction of an order, and what became of it
pub record Line : Type 0 where
  pub id : TxnId
  pub outcome : Outcome

-- printed order lines without their stamps
abbrev pub line_of : OrderLine → Line
line_of line = record { id = line.id; outcome = line.outcome }

abbrev pub lines_of : List OrderLine → List Line
lines_of lines = map line_of lines

-- whether an id stands in the list
abbrev pub has_line : List Line → TxnId → Bool
has_line lines id = list_any (λ line. same_id line.id id) lines

-- the outcome of an id that stands in the list
abbrev pub outcome_in : List Line → TxnId → Option Outcome
outcome_in [] id = None
outcome_in (line ∷ lines) id = if same_id line.id id then Some line.outcome else outcome_in lines id

-- whether the first id stands in the list, and the second one after it
abbrev pub stands_before : List Line → TxnId → TxnId → Bool
stands_before [] first second = false
stands_before (line ∷ lines) first second =
    if same_id line.id first then has_line lines second else stands_before lines first second

-- a line whose id doesn't stand before it
abbrev pub StandsOnce : List Line → Line → Type 0
StandsOnce before line = IsFalse (has_line before line.id)
