-- What each command is due says what the core promises. Used where a command is answered.
use Rattle.std.proofs.Common.{◌≡◌, inl, inr, ℕ, ◌<◌, Some, IfOk, IfSome, Option, None, Result, Ok, Err, List, length, refl, subst, ap, sym, ◌∙◌}
use Rattle.eris_check_run.specs.Checks.{IsCheckDue, check_limit}
use Rattle.eris_check_run.proofs.Judging.{report_past}
use Rattle.eris_drill.specs.DrillText.{drill_text}
use Rattle.eris_drill_run.specs.Days.{IsAcceptedDrill, IsDueDay, IsTextFor, MeetsLimit, SummarizesDay}
use Rattle.eris_migrate_run.specs.Migrates.{IsMigrateDue}
use Rattle.eris_migrate_run.proofs.Migrating.{script_past}
use Rattle.eris_status.specs.declared.due.Due.{Due}
use Rattle.eris_status.specs.declared.status.Status.{Status}
use Rattle.eris_status.specs.declared.status.Status.TheVariants.{Done, TooLarge}
use Rattle.eris_status.specs.Statuses.{HasText, IfTooLarge}
use Rattle.eris_status.specs.Texts.{too_large_text}
use Rattle.eris_run.proofs.Answering.{input_due}
use Rattle.eris_run.specs.Calls.{input_limit, status_for}
use Rattle.eris_run.specs.ScriptRuns.{outcome}
use Rattle.eris_cmd.specs.declared.command.Command.{Command}
use Rattle.eris_cmd.specs.declared.command.Command.TheVariants.{Run, Check, Migrate, Drill}
use Rattle.eris_cmd.specs.Answers.{IsAnswer, IsDueOf, IsGoodDue}
use Rattle.eris_cmd.specs.Named.{input_limit_of}
use Rattle.eris_cmd.proofs.StatusMaps.{never_bad_script, on_bad_report, on_bad_script, text_is_no_report, verdict_is_no_script}

pub run_answer : (input : List ℕ) (due : Due) → IsGoodDue input due → IsAnswer Run input due
run_answer input due good =
    let is = good.is_due in
    let text = is.has_text in
    record {
      done = λ _ done. good.done done;
      too_large = λ _. is.too_large;
      complete = λ _. (is.status, is.text);
      accepts = λ _. is.accepted;
      bad_script = on_bad_script due.status (λ line reason says. inl (refl, says)) is.bad_script;
      check_done = λ other. absurd cc;
      check_no = λ no. absurd (subst HasText no text);
      bad_report = text_is_no_report _ due.status text;
      check_too_large = λ other. absurd cc;
      check_complete = λ other. absurd cc;
      check_accepts = λ other. absurd cc;
      migrate_done = λ other. absurd cc;
      migrate_too_large = λ other. absurd cc;
      migrate_complete = λ other. absurd cc;
      migrate_accepts = λ other. absurd cc;
      drill_done = λ number other. absurd cc;
      drill_too_large = λ number other. absurd cc;
      drill_complete = λ number other. absurd cc;
      drill_accepts = λ number other. absurd cc;
      never = inl text;
    }

check_answer : (input : List ℕ) (due : Due) → IsCheckDue input due → IsAnswer Check input due
check_answer input due is =
    record {
      done = λ other. absurd cc;
      too_large = λ other. absurd cc;
      complete = λ other. absurd cc;
      accepts = λ other. absurd cc;
      bad_script = verdict_is_no_script _ due.status is.has_verdict;
      check_done = λ _ done. is.done done;
      check_no = λ no. (refl, is.no no);
      bad_report = on_bad_report due.status (λ line says. (refl, says)) is.bad_report;
      check_too_large = λ _. is.too_large;
      check_complete = λ _. is.checked;
      check_accepts = λ _. is.accepted;
      migrate_done = λ other. absurd cc;
      migrate_too_large = λ other. absurd cc;
      migrate_complete = λ other. absurd cc;
      migrate_accepts = λ other. absurd cc;
      drill_done = λ number other. absurd cc;
      drill_too_large = λ number other. absurd cc;
      drill_complete = λ number other. absurd cc;
      drill_accepts = λ number other. absurd cc;
      never = inr (refl, is.has_verdict);
    }

migrate_answer : (input : List ℕ) (due : Due) → IsMigrateDue input due → IsAnswer Migrate input due
migrate_answer input due is =
    let text = is.has_text in
    record {
      done = λ other. absurd cc;
      too_large = λ other. absurd cc;
      complete = λ other. absurd cc;
      accepts = λ other. absurd cc;
      bad_script = on_bad_script due.status (λ line reason says. inr (refl, says)) is.bad_script;
      check_done = λ other. absurd cc;
      check_no = λ no. absurd (subst HasText no text);
      bad_report = text_is_no_report _ due.status text;
      check_too_large = λ other. absurd cc;
      check_complete = λ other. absurd cc;
      check_accepts = λ other. absurd cc;
      migrate_done = λ _ done. is.done done;
      migrate_too_large = λ _. is.too_large;
      migrate_complete = λ _. (is.status, is.text);
      migrate_accepts = λ _. is.accepted;
      drill_done = λ number other. absurd cc;
      drill_too_large = λ number other. absurd cc;
      drill_complete = λ number other. absurd cc;
      drill_accepts = λ number other. absurd cc;
      never = inl text;
    }

drill_answer : (number : ℕ) (input : List ℕ) (due : Due) → IsDueDay number due → IsAnswer (Drill number) input due
drill_answer number input due day =
    let text = day.has_text in
    record {
      done = λ other. absurd cc;
      too_large = λ other. absurd cc;
      complete = λ other. absurd cc;
      accepts = λ other. absurd cc;
      bad_script = never_bad_script _ due.status day.no_bad_script;
      check_done = λ other. absurd cc;
      check_no = λ no. absurd (subst HasText no text);
      bad_report = text_is_no_report _ due.status text;
      check_too_large = λ other. absurd cc;
      check_complete = λ other. absurd cc;
      check_accepts = λ other. absurd cc;
      migrate_done = λ other. absurd cc;
      migrate_too_large = λ other. absurd cc;
      migrate_complete = λ other. absurd cc;
      migrate_accepts = λ other. absurd cc;
      drill_done = λ other is done. (let same : number ≡ other = cc in subst (λ (n : ℕ). SummarizesDay n due.text) same (day.done done));
      drill_too_large = λ other is. (let same : number ≡ other = cc in subst (λ (n : ℕ). IfTooLarge due.status (MeetsLimit n due.text)) same day.too_large);
      drill_complete = λ other is. (let same : number ≡ other = cc in
          subst (λ (n : ℕ). (due.status ≡ status_for (outcome (drill_text n))) × IsTextFor n (outcome (drill_text n)) due.text) same (day.status, day.text));
      drill_accepts = λ other is. (let same : number ≡ other = cc in subst (λ (n : ℕ). IsAcceptedDrill n due.status) same day.accepted);
      never = inl text;
    }

-- ---- what a call answered
pub said : {E : Type 0} {P Q : Due → Type 0} (result : Result Due E) → ((due : Due) → P due → Q due) → IfOk result P → IfOk result Q
said (Ok due) which all = which due all
said (Err error) which all = tt

pub runs_answer : {E : Type 0} (input : List ℕ) (result : Result Due E) → IfOk result (IsGoodDue input) → IfOk result (IsAnswer Run input)
runs_answer input result good = said result (run_answer input) good

pub checks_answer : {E : Type 0} (input : List ℕ) (result : Result Due E) → IfOk result (IsCheckDue input) → IfOk result (IsAnswer Check input)
checks_answer input result is = said result (check_answer input) is

pub migrations_answer : {E : Type 0} (input : List ℕ) (result : Result Due E) → IfOk result (IsMigrateDue input) → IfOk result (IsAnswer Migrate input)
migrations_answer input result is = said result (migrate_answer input) is

pub drills_answer : {E : Type 0} (number : ℕ) (input : List ℕ) (result : Result Due E) → IfOk result (IsDueDay number) → IfOk result (IsAnswer (Drill number) input)
drills_answer number input result day = said result (drill_answer number input) day

-- ---- the status and the text are those that the command and its input are due
pub due_of_answer : (command : Command) (input : List ℕ) (due : Due) → IsAnswer command input due → IsDueOf command input due
due_of_answer Run input due all = let both = all.complete refl in (both.0, both.1, all.accepts refl)
due_of_answer Check input due all = (all.check_complete refl, all.check_accepts refl)
due_of_answer Migrate input due all = let both = all.migrate_complete refl in (both.0, both.1, all.migrate_accepts refl)
due_of_answer (Drill number) input due all = (all.drill_complete number refl).0

-- ---- more came than the command reads: the answer is the same for all inputs
pub past_answer : (command : Command) (limit : ℕ) (input : List ℕ) (due : Due) → input_limit_of command ≡ Some limit → limit < length input
    → due.status ≡ TooLarge 0 → due.text ≡ too_large_text → IsAnswer command input due
past_answer Run limit input due is past status text =
    let same : input_limit ≡ limit = cc in
    run_answer input due (record { is_due = input_due input due (subst (λ (n : ℕ). n < length input) (sym same) past) status text; done = λ done. absurd cc })
past_answer Check limit input due is past status text =
    let same : check_limit ≡ limit = cc in
    check_answer input due (report_past input due (subst (λ (n : ℕ). n < length input) (sym same) past) status text)
past_answer Migrate limit input due is past status text =
    let same : input_limit ≡ limit = cc in
    migrate_answer input due (script_past input due (subst (λ (n : ℕ). n < length input) (sym same) past) status text)
past_answer (Drill number) limit input due is past status text = absurd cc
