-- WHAT THE BYTES OF A REPORT ARE DUE, which is judged: a status and a text, and what each status
-- says of these very bytes and this very text.
use Rattle.std.specs.Prelude.{◌≡◌, ◌⊎◌, ℕ, ◌≤◌, ◌<◌, List, length}
use Rattle.eris_audit.specs.declared.verdict.Verdict.{Verdict}
use Rattle.eris_audit.specs.declared.verdict.Verdict.TheVariants.{No}
use Rattle.eris_audit.specs.IsSerial.{IsSerial}
use Rattle.eris_audit.specs.Lines.{lines_of}
use Rattle.eris_audit.specs.Verdicts.{IsVerdict}
use Rattle.eris_check.specs.ReportTexts.{IsFirstMisfit, IsTextOf}
use Rattle.eris_event.specs.declared.report.Report.{Report}
use Rattle.eris_status.specs.declared.due.Due.{Due}
use Rattle.eris_status.specs.declared.status.Status.{Status}
use Rattle.eris_status.specs.declared.status.Status.TheVariants.{BadReport, CheckedNo, Done, NoMemory, TooLarge}
use Rattle.eris_status.specs.Statuses.{HasVerdict, IfBadReport, IfTooLarge}
use Rattle.eris_status.specs.Texts.{too_large_text}
use Rattle.eris_check_run.specs.VerdictTexts.{bad_report_text, broken_text, verdict_status, verdict_text, yes_text}

-- how many bytes a report may have, to be judged
abbrev pub check_limit : ℕ
check_limit = 67108864

-- WHAT EACH STATUS SAYS

-- DONE: the bytes are the text of a report in range, and its history is serial in its order
pub record JudgesSerial (bytes text : List ℕ) : Type 0 where
  pub within : length bytes ≤ check_limit
  pub report : Report
  pub of : IsTextOf report bytes
  pub serial : IsSerial report.history (lines_of report.order)
  pub is : text ≡ yes_text

-- CHECKED NO: they are the text of such a report, whose history isn't serial in its order; this is
-- the least rule that is broken, and its first line
pub record JudgesBroken (bytes text : List ℕ) : Type 0 where
  pub within : length bytes ≤ check_limit
  pub report : Report
  pub of : IsTextOf report bytes
  pub rule : ℕ
  pub number : ℕ
  pub verdict : IsVerdict report.history (lines_of report.order) (No rule number)
  pub broken : IsSerial report.history (lines_of report.order) → ⊥
  pub is : text ≡ broken_text rule number

-- BAD REPORT: they are no report text, and this is the first line that doesn't fit
pub record RefusesReport (bytes text : List ℕ) (line : ℕ) : Type 0 where
  pub within : length bytes ≤ check_limit
  pub misfit : IsFirstMisfit bytes line
  pub is : text ≡ bad_report_text line

-- TOO LARGE: with line 0 alone, and where the bytes are more than a report may have
abbrev pub IsPastReports : List ℕ → List ℕ → ℕ → Type 0
IsPastReports bytes text line = (line ≡ 0) × (check_limit < length bytes) × (text ≡ too_large_text)

-- THE STATUS THAT IS DUE, and the text, told apart by what the bytes are

-- for bytes that are few enough: by their verdict where they are a report text, else by their first
-- misfit
abbrev pub IsJudgedSo : List ℕ → Status → List ℕ → Type 0
IsJudgedSo bytes status text =
    ((report : Report) × IsTextOf report bytes × (verdict : Verdict) × IsVerdict report.history (lines_of report.order) verdict
    × (status ≡ verdict_status verdict) × (text ≡ verdict_text verdict))
    ⊎ ((line : ℕ) × IsFirstMisfit bytes line × (status ≡ BadReport line) × (text ≡ bad_report_text line))

abbrev pub IsChecked : List ℕ → Status → List ℕ → Type 0
IsChecked bytes status text =
    ((check_limit < length bytes) × (status ≡ TooLarge 0) × (text ≡ too_large_text))
    ⊎ ((length bytes ≤ check_limit) × IsJudgedSo bytes status text)

-- the status that the bytes are due, and the text
abbrev pub IsCheckStatus : List ℕ → Status → Type 0
IsCheckStatus bytes status = (text : List ℕ) × IsChecked bytes status text

abbrev pub IsCheckText : List ℕ → List ℕ → Type 0
IsCheckText bytes text = (status : Status) × IsChecked bytes status text

-- ACCEPTED: the text of a serial report, within the limit, is answered Done or by want of memory
abbrev pub IsAcceptedReport : List ℕ → Status → Type 0
IsAcceptedReport bytes status =
    (report : Report) → length bytes ≤ check_limit → IsTextOf report bytes → IsSerial report.history (lines_of report.order)
    → (status ≡ Done) ⊎ (status ≡ NoMemory)

-- ALL OF IT
pub record IsCheckDue (bytes : List ℕ) (due : Due) : Type 0 where
  pub checked : IsChecked bytes due.status due.text
  pub done : due.status ≡ Done → JudgesSerial bytes due.text
  pub no : due.status ≡ CheckedNo → JudgesBroken bytes due.text
  pub bad_report : IfBadReport due.status (RefusesReport bytes due.text)
  pub too_large : IfTooLarge due.status (IsPastReports bytes due.text)
  pub accepted : IsAcceptedReport bytes due.status
  pub has_verdict : HasVerdict due.status

-- what is due for bytes that are few enough
abbrev pub IsJudged : List ℕ → Due → Type 0
IsJudged bytes due = IsJudgedSo bytes due.status due.text

-- what is due for a report, by its verdict
pub record IsVerdictDue (report : Report) (due : Due) : Type 0 where
  pub verdict : Verdict
  pub judged : IsVerdict report.history (lines_of report.order) verdict
  pub status : due.status ≡ verdict_status verdict
  pub text : due.text ≡ verdict_text verdict
