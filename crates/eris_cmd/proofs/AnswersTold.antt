-- What a written answer says of the bytes read and written. Used where the text that is due was written.
use Rattle.std.proofs.Common.{◌≡◌, ◌⊎◌, inl, inr, ℕ, ◌<◌, ◌≤◌, Some, Option, List, length, ap, ◌∙◌, subst, refl, arith}
use Rattle.std.specs.Io.KnownBytes.{Appends}
use Rattle.eris_check_run.specs.Checks.{JudgesBroken, JudgesSerial, RefusesReport, check_limit}
use Rattle.eris_migrate_run.specs.Migrates.{MigratesScript, RefusesScript}
use Rattle.eris_stream.specs.Transfers.{ReadsToEnd}
use Rattle.eris_drill_run.specs.Days.{MeetsLimit, SummarizesDay}
use Rattle.eris_status.specs.declared.due.Due.{Due}
use Rattle.eris_status.specs.declared.status.Status.{Status}
use Rattle.eris_status.specs.declared.status.Status.TheVariants.{Done, CheckedNo}
use Rattle.eris_status.specs.Texts.{too_large_text}
use Rattle.eris_status.specs.Statuses.{IfBadReport, IfBadScript, IfTooLarge}
use Rattle.eris_words.specs.declared.reason.Reason.{Reason}
use Rattle.eris_run.specs.Calls.{RefusesLarge, RefusesLine, input_limit}
use Rattle.eris_cmd.specs.declared.command.Command.{Command}
use Rattle.eris_cmd.specs.declared.command.Command.TheVariants.{Run, Check, Migrate, Drill}
use Rattle.eris_cmd.specs.Answers.{RefusesLineOf}
use Rattle.eris_cmd.specs.Headline.{ReportsGoodRun}
use Rattle.eris_cmd.specs.Commands.{IsMigrate, IsRun}
use Rattle.eris_cmd.specs.Named.{Names, input_limit_of}
use Rattle.eris_cmd.proofs.CommandNames.{names_migrate, names_run}
use Rattle.eris_cmd.specs.Streams.{Answers, Comes, IsDueFor, PassesLimit, RefusesLargeInput, Tells}
use Rattle.eris_cmd.proofs.StatusMaps.{on_bad_report, on_bad_script, on_too_large}

-- the first line that the command refuses, of all that was read
abbrev pub TellsLineOf : Command → Option (List ℕ) → Option (List ℕ) → Option (List ℕ) → Option (List ℕ) → ℕ → Reason → Type 0
TellsLineOf command left left' taken taken' line reason =
    ((command ≡ Run) × Answers input_limit left left' taken taken' (λ bytes text. RefusesLine bytes text line reason))
    ⊎ ((command ≡ Migrate) × Answers input_limit left left' taken taken' (λ bytes text. RefusesScript bytes text line reason))

-- ---- what the statuses say, whose text was written
pub record Told (command : Command) (left left' taken taken' : Option (List ℕ)) (status : Status) : Type 0 where
  pub done : command ≡ Run → status ≡ Done → Answers input_limit left left' taken taken' ReportsGoodRun
  pub too_large : command ≡ Run → IfTooLarge status (RefusesLargeInput left left' taken taken')
  pub bad_script : IfBadScript status (TellsLineOf command left left' taken taken')
  pub check_done : command ≡ Check → status ≡ Done → Answers check_limit left left' taken taken' JudgesSerial
  pub check_no : status ≡ CheckedNo → (command ≡ Check) × Answers check_limit left left' taken taken' JudgesBroken
  pub bad_report : IfBadReport status (λ line. (command ≡ Check) × Answers check_limit left left' taken taken' (λ bytes text. RefusesReport bytes text line))
  pub check_too_large : command ≡ Check → IfTooLarge status (PassesLimit check_limit left left' taken taken')
  pub migrate_done : command ≡ Migrate → status ≡ Done → Answers input_limit left left' taken taken' MigratesScript
  pub migrate_too_large : command ≡ Migrate → IfTooLarge status (PassesLimit input_limit left left' taken taken')
  pub drill_done : (number : ℕ) → command ≡ Drill number → status ≡ Done → Tells taken taken' (SummarizesDay number)
  pub drill_too_large : (number : ℕ) → command ≡ Drill number → IfTooLarge status (λ line. Tells taken taken' (λ text. MeetsLimit number text line))

module _ (command : Command) (left left' taken taken' : Option (List ℕ)) (due : Due) (is_due : IsDueFor command left left' due) (written : Appends taken taken' due.text) where
  comes : (known : Command) (limit : ℕ) → command ≡ known → input_limit_of known ≡ Some limit → Comes limit left left' is_due.bytes
  comes known limit same is = is_due.came limit (ap input_limit_of same ∙ is)

  -- all of the source was read, where no more came than the command reads
  answers : (known : Command) (limit : ℕ) (Holds : List ℕ → List ℕ → Type 0) → command ≡ known → input_limit_of known ≡ Some limit
      → length is_due.bytes ≤ limit → Holds is_due.bytes due.text → Answers limit left left' taken taken' Holds
  answers known limit Holds same is within holds =
      let all = comes known limit same is in
      record {
        bytes = is_due.bytes;
        read = record { came = all.came; ended = all.ended within; within = within };
        text = due.text;
        written = written;
        holds = holds;
      }

  passes : (known : Command) (limit line : ℕ) → command ≡ known → input_limit_of known ≡ Some limit
      → (line ≡ 0) × (limit < length is_due.bytes) × (due.text ≡ too_large_text)
      → PassesLimit limit left left' taken taken' line
  passes known limit line same is past =
      let all = comes known limit same is in
      let few = all.few in
      let many = past.1 in (
        past.0,
        record { bytes = is_due.bytes; came = all.came; past = omega (arith, few, many) },
        subst (λ (some : List ℕ). Appends taken taken' some) past.2 written,
      )

  large : (line : ℕ) → command ≡ Run → RefusesLarge is_due.bytes due.text line → RefusesLargeInput left left' taken taken' line
  large line run (inl (here, input)) = inl (passes Run input_limit line run refl (here, input.past, input.is))
  large line run (inr sends) = inr (answers Run input_limit _ run refl sends.within sends)

  line_told : (line : ℕ) (reason : Reason) → RefusesLineOf command is_due.bytes due.text line reason → TellsLineOf command left left' taken taken' line reason
  line_told line reason (inl (run, says)) = inl (run, answers Run input_limit _ run refl says.within says)
  line_told line reason (inr (migrate, says)) = inr (migrate, answers Migrate input_limit _ migrate refl says.within says)

  all_told : Told command left left' taken taken' due.status
  all_told =
      let all = is_due.answer in
      record {
        done = λ run done. (let says = all.done run done in answers Run input_limit ReportsGoodRun run refl says.within says);
        too_large = λ run. on_too_large due.status (λ line says. large line run says) (all.too_large run);
        bad_script = on_bad_script due.status line_told all.bad_script;
        check_done = λ check done. (let says = all.check_done check done in answers Check check_limit JudgesSerial check refl says.within says);
        check_no = λ no. (let says = all.check_no no in (says.0, answers Check check_limit JudgesBroken says.0 refl says.1.within says.1));
        bad_report = on_bad_report due.status (λ line says. (says.0, answers Check check_limit _ says.0 refl says.1.within says.1)) all.bad_report;
        check_too_large = λ check. on_too_large due.status (λ line past. passes Check check_limit line check refl past) (all.check_too_large check);
        migrate_done = λ migrate done. (let says = all.migrate_done migrate done in answers Migrate input_limit MigratesScript migrate refl says.within says);
        migrate_too_large = λ migrate. on_too_large due.status (λ line past. passes Migrate input_limit line migrate refl past) (all.migrate_too_large migrate);
        drill_done = λ number drill done. record { text = due.text; written = written; holds = all.drill_done number drill done };
        drill_too_large = λ number drill. on_too_large due.status (λ line says. record { text = due.text; written = written; holds = says }) (all.drill_too_large number drill);
      }

-- WHAT IS DUE, WRITTEN
pub told : {command : Command} {left left' taken taken' : Option (List ℕ)} {due : Due} → IsDueFor command left left' due → Appends taken taken' due.text → Told command left left' taken taken' due.status
told is_due written = all_told _ _ _ _ _ _ is_due written

-- ---- the line that is refused, by the words of the command
pub migration_told : {left left' taken taken' : Option (List ℕ)} (command : Command) → command ≡ Migrate → (line : ℕ) (reason : Reason)
    → TellsLineOf command left left' taken taken' line reason → Answers input_limit left left' taken taken' (λ bytes text. RefusesScript bytes text line reason)
migration_told command migrate line reason (inl (run, says)) = absurd cc
migration_told command migrate line reason (inr (same, says)) = says

pub named_line : {words : List (List ℕ)} {left left' taken taken' : Option (List ℕ)} (command : Command) → Names words command → (line : ℕ) (reason : Reason)
    → TellsLineOf command left left' taken taken' line reason
    → (IsRun words × Answers input_limit left left' taken taken' (λ bytes text. RefusesLine bytes text line reason))
    ⊎ (IsMigrate words × Answers input_limit left left' taken taken' (λ bytes text. RefusesScript bytes text line reason))
named_line command named line reason (inl (run, says)) = inl (names_run command named run, says)
named_line command named line reason (inr (migrate, says)) = inr (names_migrate command named migrate, says)
