-- ALL THAT A DUE STATUS AND TEXT SAY of the command and of the bytes of its input. No word of it is of streams.
use Rattle.std.specs.Prelude.{◌≡◌, ◌⊎◌, ℕ, List}
use Rattle.eris_check_run.specs.Checks.{IsAcceptedReport, IsChecked, IsPastReports, JudgesBroken, JudgesSerial, RefusesReport}
use Rattle.eris_drill.specs.DrillText.{drill_text}
use Rattle.eris_drill_run.specs.Days.{IsAcceptedDrill, IsTextFor, MeetsLimit, SummarizesDay}
use Rattle.eris_migrate_run.specs.Migrates.{IsMigratable, IsPastScripts, MigratesScript, RefusesScript, migrate_status, migrate_text}
use Rattle.eris_status.specs.declared.due.Due.{Due}
use Rattle.eris_status.specs.declared.status.Status.TheVariants.{Done, CheckedNo}
use Rattle.eris_status.specs.Statuses.{HasText, HasVerdict, IfBadReport, IfBadScript, IfTooLarge}
use Rattle.eris_words.specs.declared.reason.Reason.{Reason}
use Rattle.eris_run.specs.Calls.{IsAccepted, RefusesLarge, RefusesLine, status_due, status_for, text_due}
use Rattle.eris_run.specs.Dues.{IsDue}
use Rattle.eris_run.specs.ScriptRuns.{outcome}
use Rattle.eris_cmd.specs.declared.command.Command.{Command}
use Rattle.eris_cmd.specs.declared.command.Command.TheVariants.{Run, Check, Migrate, Drill}
use Rattle.eris_cmd.specs.Headline.{ReportsGoodRun}

-- what is due for the bytes of a script, and the headline where it was run
pub record IsGoodDue (input : List ℕ) (due : Due) : Type 0 where
  pub is_due : IsDue input due
  pub done : due.status ≡ Done → ReportsGoodRun input due.text

-- BAD SCRIPT comes from two commands, and the line is the first that this very command refuses
abbrev pub RefusesLineOf : Command → List ℕ → List ℕ → ℕ → Reason → Type 0
RefusesLineOf command input text line reason =
    ((command ≡ Run) × RefusesLine input text line reason) ⊎ ((command ≡ Migrate) × RefusesScript input text line reason)

-- the status and the text that the command and its input are due; what is accepted is answered Done or by want of memory
abbrev pub IsDueOf : Command → List ℕ → Due → Type 0
IsDueOf Run input due = (due.status ≡ status_due input) × (due.text ≡ text_due input) × IsAccepted input due.status
IsDueOf Check input due = IsChecked input due.status due.text × IsAcceptedReport input due.status
IsDueOf Migrate input due = (due.status ≡ migrate_status input) × (due.text ≡ migrate_text input) × IsMigratable input due.status
IsDueOf (Drill number) input due = due.status ≡ status_for (outcome (drill_text number))

pub record IsAnswer (command : Command) (input : List ℕ) (due : Due) : Type 0 where
  -- `run`
  pub done : command ≡ Run → due.status ≡ Done → ReportsGoodRun input due.text
  pub too_large : command ≡ Run → IfTooLarge due.status (RefusesLarge input due.text)
  pub complete : command ≡ Run → (due.status ≡ status_due input) × (due.text ≡ text_due input)
  pub accepts : command ≡ Run → IsAccepted input due.status
  -- `run` and `migrate`
  pub bad_script : IfBadScript due.status (RefusesLineOf command input due.text)
  -- `check`
  pub check_done : command ≡ Check → due.status ≡ Done → JudgesSerial input due.text
  pub check_no : due.status ≡ CheckedNo → (command ≡ Check) × JudgesBroken input due.text
  pub bad_report : IfBadReport due.status (λ line. (command ≡ Check) × RefusesReport input due.text line)
  pub check_too_large : command ≡ Check → IfTooLarge due.status (IsPastReports input due.text)
  pub check_complete : command ≡ Check → IsChecked input due.status due.text
  pub check_accepts : command ≡ Check → IsAcceptedReport input due.status
  -- `migrate`
  pub migrate_done : command ≡ Migrate → due.status ≡ Done → MigratesScript input due.text
  pub migrate_too_large : command ≡ Migrate → IfTooLarge due.status (IsPastScripts input due.text)
  pub migrate_complete : command ≡ Migrate → (due.status ≡ migrate_status input) × (due.text ≡ migrate_text input)
  pub migrate_accepts : command ≡ Migrate → IsMigratable input due.status
  -- `drill`
  pub drill_done : (number : ℕ) → command ≡ Drill number → due.status ≡ Done → SummarizesDay number due.text
  pub drill_too_large : (number : ℕ) → command ≡ Drill number → IfTooLarge due.status (MeetsLimit number due.text)
  pub drill_complete : (number : ℕ) → command ≡ Drill number
      → (due.status ≡ status_for (outcome (drill_text number))) × IsTextFor number (outcome (drill_text number)) due.text
  pub drill_accepts : (number : ℕ) → command ≡ Drill number → IsAcceptedDrill number due.status
  -- no other status has a text
  pub never : HasText due.status ⊎ ((command ≡ Check) × HasVerdict due.status)
