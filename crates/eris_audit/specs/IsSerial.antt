use Rattle.std.specs.Prelude.{◌≡◌, ◌⊎◌, Bool, true, false, Some, List, [], ⊤, IsTrue, IsFalse}
use Rattle.eris_base.specs.declared.ids.TxnId.{TxnId}
use Rattle.eris_txn.specs.declared.answer.Answer.{Answer}
use Rattle.eris_txn.specs.declared.history.HistoryEvent.{HistoryEvent}
use Rattle.eris_txn.specs.declared.history.HistoryEvent.TheVariants.{Submit, Read, Answer as Answered, Told}
use Rattle.eris_txn.specs.declared.txn.Txn.{Txn}
use Rattle.eris_txn.specs.declared.txn.Txn.TheVariants.{Whole, General}
use Rattle.eris_txn.specs.Keys.{no_values}
use Rattle.eris_txn.specs.Plans.{guards_hold}
use Rattle.eris_audit.specs.declared.outcome.Outcome.{Outcome}
use Rattle.eris_base.specs.Each.{Each, EachAfter}
use Rattle.eris_audit.specs.Histories.{is_submitted, txn_of}
use Rattle.eris_audit.specs.Lines.{Line, has_line, outcome_in, stands_before}
use Rattle.eris_audit.specs.SerialRun.{guards_of, values_after, result_in}

abbrev pub is_done : Outcome → Bool
is_done Outcome.Done = true
is_done outcome = false

abbrev pub is_whole : Txn → Bool
is_whole (Whole operations) = true
is_whole (General plan) = false

-- RULE 1, of a line and those before it: its id isn't among them, it was submitted, and its outcome is
-- Done exactly for a Whole
pub record IsOrderLine (history : List HistoryEvent) (before : List Line) (line : Line) : Type 0 where
  pub once : IsFalse (has_line before line.id)
  pub submitted : IsTrue (is_submitted history line.id)
  pub kind : is_done line.outcome ≡ is_whole (txn_of history line.id)

-- RULE 2, of an event: an id that read or was answered has a line, and so has one of which Committed was told
abbrev pub HasItsLine : List Line → HistoryEvent → Type 0
HasItsLine lines (Submit id txn) = ⊤
HasItsLine lines (Read id values) = IsTrue (has_line lines id)
HasItsLine lines (Answered id answer) = IsTrue (has_line lines id)
HasItsLine lines (Told asker id answer) = answer ≡ Answer.Committed → IsTrue (has_line lines id)

-- RULE 3, of a line and those before it: where it is Committed, its guards hold at its point of the serial
-- run
abbrev pub GuardsHold : List HistoryEvent → List Line → Line → Type 0
GuardsHold history before line =
    line.outcome ≡ Outcome.Committed
    → IsTrue (guards_hold (guards_of (txn_of history line.id)) (values_after (txn_of history) before no_values))

-- an answer is Committed or Aborted, and that is the id's outcome
abbrev pub IsOutcome : List Line → TxnId → Answer → Type 0
IsOutcome lines id Answer.Committed = outcome_in lines id ≡ Some Outcome.Committed
IsOutcome lines id Answer.Aborted = outcome_in lines id ≡ Some Outcome.Aborted
IsOutcome lines id answer = ⊥

-- a Whole is answered its result in the serial run, and a General its outcome
abbrev pub IsAnswer : List HistoryEvent → List Line → TxnId → Answer → Txn → Type 0
IsAnswer history lines id answer (Whole operations) = result_in (txn_of history) lines no_values id ≡ Some answer
IsAnswer history lines id answer (General plan) = IsOutcome lines id answer

-- RULE 3, of an event: what was read or answered is what the serial run has
abbrev pub EqualsRun : List HistoryEvent → List Line → HistoryEvent → Type 0
EqualsRun history lines (Submit id txn) = ⊤
EqualsRun history lines (Read id values) = result_in (txn_of history) lines no_values id ≡ Some (Answer.Values values)
EqualsRun history lines (Answered id answer) = IsAnswer history lines id answer (txn_of history id)
EqualsRun history lines (Told asker id answer) = ⊤

-- where both ids have lines, an answered one's stands before the other's
abbrev pub AnsweredStandsBefore : List Line → TxnId → HistoryEvent → Type 0
AnsweredStandsBefore lines id (Answered answered answer) =
    IsTrue (has_line lines answered) → IsTrue (has_line lines id) → IsTrue (stands_before lines answered id)
AnsweredStandsBefore lines id event = ⊤

-- RULE 4, of an event and those before it: what was answered before a submit stands before it in the order
abbrev pub FollowsAnswered : List Line → List HistoryEvent → HistoryEvent → Type 0
FollowsAnswered lines before (Submit id txn) = Each (AnsweredStandsBefore lines id) before
FollowsAnswered lines before event = ⊤

-- RULE 5, of an event: what was told is the id's outcome, or it is Aborted and the id has no line
abbrev pub IsToldOutcome : List Line → HistoryEvent → Type 0
IsToldOutcome lines (Told asker id answer) =
    IsOutcome lines id answer ⊎ (answer ≡ Answer.Aborted) × IsFalse (has_line lines id)
IsToldOutcome lines event = ⊤

-- THE FIVE RULES: the history is serial, in the order that the lines give
pub record IsSerial (history : List HistoryEvent) (lines : List Line) : Type 0 where
  pub order_lines : EachAfter (IsOrderLine history) [] lines
  pub have_lines : Each (HasItsLine lines) history
  pub guards : EachAfter (GuardsHold history) [] lines
  pub equal : Each (EqualsRun history lines) history
  pub follows : EachAfter (FollowsAnswered lines) [] history
  pub told : Each (IsToldOutcome lines) history
