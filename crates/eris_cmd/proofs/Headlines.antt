-- The headline of a run that was reported: the laws of every run, and of undisturbed scripts, speak of its world.
use Rattle.std.proofs.Common.{◌≡◌, ℕ, ◌≤◌, ◌<◌, ◌^◌, IfOk, Some, Result, Ok, Err, List, length, subst, sym, refl, arith}
use Rattle.eris_audit.specs.IsSerial.{IsSerial}
use Rattle.eris_audit.specs.Lines.{lines_of}
use Rattle.eris_check.specs.ReportTexts.{IsTextOf}
use Rattle.eris_check_run.specs.Checks.{IsCheckStatus, IsChecked, check_limit}
use Rattle.eris_check_run.specs.VerdictTexts.{yes_text}
use Rattle.eris_event.specs.declared.report.Report.{Report}
use Rattle.eris_grammar.specs.Scripts.{Script, script}
use Rattle.eris_report.specs.ReportText.{report_text}
use Rattle.eris_report_range.specs.ReportRanges.{IsRangedReport}
use Rattle.eris_rules.specs.Reports.{report_of}
use Rattle.eris_rules.specs.Runs.{run}
use Rattle.eris_rules.specs.Worlds.{WorldState}
use Rattle.eris_status.specs.declared.status.Status.TheVariants.{Done}
use Rattle.eris_status.specs.declared.due.Due.{Due}
use Rattle.eris_run.specs.Calls.{ReportsRun}
use Rattle.eris_run.specs.Dues.{IsDue}
use Rattle.eris_cmd.specs.Answers.{IsGoodDue}
use Rattle.eris_cmd.specs.Headline.{ReportsGoodRun}
use Rattle.eris_cmd.specs.Laws.{EveryRunIsGood, FrontsAnswer, ReportsPass, UndisturbedAnswers}

-- the report of a good world after a script's events is in range and serial, so it passes
pub reports_pass : ((bytes : List ℕ) (whole : Script) (world : WorldState) → length bytes < 2 ^ 32 → script bytes ≡ Ok whole → run whole.config whole.events ≡ Some world → IsRangedReport (report_of whole.config world))
    → ((bytes : List ℕ) (report : Report) → length bytes ≤ check_limit → IsTextOf report bytes → IsSerial report.history (lines_of report.order) → IsChecked bytes Done yes_text) → ReportsPass
unfolding report_of
reports_pass ranged passes bytes whole world within is ran good short = (
  yes_text,
  passes (report_text (report_of whole.config world)) (report_of whole.config world) short
      (record { ranged = ranged bytes whole world (omega (arith, within)) is ran; text = refl }) good.serial,
)

headline : (bytes text : List ℕ) → EveryRunIsGood → UndisturbedAnswers → FrontsAnswer → ReportsPass → ReportsRun bytes text → ReportsGoodRun bytes text
headline bytes text good answers fronts passes reports =
    let fine = good bytes reports.whole reports.world reports.is_script reports.ran in
    record {
      within = reports.within;
      whole = reports.whole;
      is_script = reports.is_script;
      world = reports.world;
      ran = reports.ran;
      good = fine;
      answers = λ calm. answers bytes reports.whole reports.world calm reports.is_script reports.ran;
      answers_front = λ front. (let found = fronts bytes reports.whole reports.world front reports.is_script reports.ran in
          record { middle = found.0; ran = found.1; answered = found.2 });
      is = reports.is;
      passes = λ within. (let passed = passes bytes reports.whole reports.world reports.within reports.is_script reports.ran fine in
          subst (λ (some : List ℕ). length some ≤ check_limit → IsCheckStatus some Done) (sym reports.is) passed within);
    }

pub good_dues : {E : Type 0} (bytes : List ℕ) (result : Result Due E) → EveryRunIsGood → UndisturbedAnswers → FrontsAnswer → ReportsPass → IfOk result (IsDue bytes) → IfOk result (IsGoodDue bytes)
good_dues bytes (Ok due) good answers fronts passes is = record { is_due = is; done = λ done. headline bytes due.text good answers fronts passes (is.done done) }
good_dues bytes (Err error) good answers fronts passes is = tt
