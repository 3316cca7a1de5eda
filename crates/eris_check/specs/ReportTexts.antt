-- Which bytes are the text of a report, and which line of other bytes is the first that doesn't fit.
use Rattle.std.specs.Prelude.{◌≡◌, ◌↔◌, ℕ, ◌+◌, ◌-◌, ◌≤◌, ⊤, List, ◌++◌, length, take}
use Rattle.eris_event.specs.declared.report.Report.{Report}
use Rattle.eris_report.specs.ReportText.{report_text}
use Rattle.eris_report_range.specs.ReportRanges.{IsRangedReport}
use Rattle.eris_check.specs.declared.fault.ReportFault.{ReportFault}
use Rattle.eris_check.specs.declared.fault.ReportFault.TheVariants.{Bad, NoMemory}
use Rattle.eris_check.specs.FullLines.{full_lines}

-- the bytes are the text of the report, and it is in range
pub record IsTextOf (report : Report) (bytes : List ℕ) : Type 0 where
  pub ranged : IsRangedReport report
  pub text : bytes ≡ report_text report

-- A REPORT TEXT: the text of some report in range
abbrev pub IsReportText : List ℕ → Type 0
IsReportText bytes = (report : Report) × IsTextOf report bytes

-- LINES BEGIN A REPORT TEXT where some report text has them as its first lines
pub record BeginText (lines : List (List ℕ)) : Type 0 where
  pub report : Report
  pub ranged : IsRangedReport report
  pub others : List (List ℕ)
  pub first : full_lines (report_text report) ≡ lines ++ others

-- THE FIRST MISFIT of bytes that are no report text: the first line, counted from 1, with which the lines up to it begin none; where
-- all lines begin one, it is one more than their number
pub record IsFirstMisfit (bytes : List ℕ) (line : ℕ) : Type 0 where
  pub none : IsReportText bytes → ⊥
  pub counted : 1 ≤ line
  pub within : line ≤ length (full_lines bytes) + 1
  pub before : BeginText (take (line - 1) (full_lines bytes))
  pub here : line ≤ length (full_lines bytes) → BeginText (take line (full_lines bytes)) → ⊥

-- what a fault tells of bytes
abbrev pub Tells : List ℕ → ReportFault → Type 0
Tells bytes (Bad line) = IsFirstMisfit bytes line
Tells bytes NoMemory = ⊤

-- what holds of any bytes: they are the text of one report only, and they have a first misfit, and one only, exactly where they are no
-- report text
pub record AreJudged (bytes : List ℕ) : Type 0 where
  pub one_report : (some other : Report) → IsTextOf some bytes → IsTextOf other bytes → some ≡ other
  pub misfit : ((line : ℕ) × IsFirstMisfit bytes line) ↔ (IsReportText bytes → ⊥)
  pub one_misfit : (some other : ℕ) → IsFirstMisfit bytes some → IsFirstMisfit bytes other → some ≡ other
