-- What is due for bytes that are migrated says what the statuses promise. Used where the bytes of a script are answered.
use Rattle.std.proofs.Common.{◌≡◌, inl, ℕ, ◌≤◌, ◌<◌, Bool, true, false, cond, nat_lt, IfOk, Some, Result, Ok, Err, List, length, ap, sym, ◌∙◌, subst, refl, arith}
use Rattle.std.proofs.lemmas.Bool.Decides.{nat_tests}
use Rattle.eris_law_migrate.specs.Meanings.{MeansTheSame}
use Rattle.eris_migrate.specs.Migrated.{migrated}
use Rattle.eris_migrate.specs.Migrations.{Migrates}
use Rattle.eris_migrate.specs.Unread.{IsVersion1, unread}
use Rattle.eris_run.specs.Calls.{answer_to, input_limit, status_due, status_for, text_due}
use Rattle.eris_run.specs.ScriptRuns.{outcome}
use Rattle.eris_status.specs.declared.due.Due.{Due}
use Rattle.eris_status.specs.declared.refused.Why.TheVariants as why
use Rattle.eris_status.specs.declared.status.Status.{Status}
use Rattle.eris_status.specs.declared.status.Status.TheVariants.{BadScript, Done, TooLarge}
use Rattle.eris_status.specs.Statuses.{HasText, IfBadScript, IfTooLarge, IsRefusal}
use Rattle.eris_status.specs.Texts.{too_large_text}
use Rattle.eris_words.specs.declared.reason.Reason.{Reason}
use Rattle.eris_migrate_run.specs.Migrates.{IsMigrateDue, IsPastScripts, MigratesScript, RefusesScript, migrate_status, migrate_text, status_unless, text_unless}
use Rattle.eris_migrate_run.proofs.ByGrammar.{GrammarRefuses, refused_by_grammar}
use Rattle.eris_migrate_run.proofs.OutcomesAlike.{outcomes_alike}

-- the law of what migrating keeps
abbrev pub ScriptsMeanTheSame : Type 0
ScriptsMeanTheSame = (bytes : List ℕ) → IsVersion1 bytes → MeansTheSame bytes (migrated bytes)

-- all that a status and a text say of the bytes
record Says (bytes text : List ℕ) (status : Status) : Type 0 where
  done : status ≡ Done → MigratesScript bytes text
  bad_script : IfBadScript status (RefusesScript bytes text)
  too_large : IfTooLarge status (IsPastScripts bytes text)

is_small : (bytes : List ℕ) → length bytes ≤ input_limit → nat_lt input_limit (length bytes) ≡ false
is_small bytes within = grind (arith, nat_tests)

-- ---- what runs of a script and of its migrated text come to
small_status : (bytes : List ℕ) → length bytes ≤ input_limit → status_due bytes ≡ status_for (outcome bytes)
small_status bytes within = ap (λ (large : Bool). cond large (TooLarge 0) (status_for (outcome bytes))) (is_small bytes within)

small_text : (bytes : List ℕ) → length bytes ≤ input_limit → text_due bytes ≡ answer_to (outcome bytes)
small_text bytes within = ap (λ (large : Bool). cond large too_large_text (answer_to (outcome bytes))) (is_small bytes within)

module _ (bytes : List ℕ) where
  script_migrates : ScriptsMeanTheSame → (text : List ℕ) → length bytes ≤ input_limit → IsVersion1 bytes → text ≡ migrated bytes → MigratesScript bytes text
  script_migrates law text within old is =
      let means = subst (MeansTheSame bytes) (sym is) (law bytes old) in
      let ends = outcomes_alike bytes text means.lines_alike in
      let no_longer : length text ≤ length bytes = means.no_longer in
      let also_within : length text ≤ input_limit = omega (arith, within, no_longer) in
      record {
        within = within;
        old = old;
        is = is;
        means = means;
        ends = ends;
        status = small_status text also_within ∙ ap status_for ends ∙ sym (small_status bytes within);
        text_of = small_text text also_within ∙ ap answer_to ends ∙ sym (small_text bytes within);
      }

  -- ---- the status and the text that are due, of bytes that are few enough and of others
  status_within : length bytes ≤ input_limit → migrate_status bytes ≡ status_unless (unread bytes)
  status_within within = ap (λ (large : Bool). cond large (TooLarge 0) (status_unless (unread bytes))) (is_small bytes within)

  text_within : length bytes ≤ input_limit → migrate_text bytes ≡ text_unless bytes (unread bytes)
  text_within within = ap (λ (large : Bool). cond large too_large_text (text_unless bytes (unread bytes))) (is_small bytes within)

  is_due : (due : Due) → due.status ≡ migrate_status bytes → due.text ≡ migrate_text bytes → Says bytes due.text due.status → HasText due.status → IsMigrateDue bytes due
  is_due due status text all has_text =
      record {
        status = status;
        text = text;
        done = all.done;
        bad_script = all.bad_script;
        too_large = all.too_large;
        accepted = λ within old. inl (status ∙ status_within within ∙ ap status_unless old);
        has_text = has_text;
      }

  -- ---- DONE
  pub script_migrated : ScriptsMeanTheSame → (due : Due) → length bytes ≤ input_limit → due.status ≡ Done → Migrates bytes due.text → IsMigrateDue bytes due
  script_migrated law due within status migrates =
      let all : Says bytes due.text Done = record { done = λ _. script_migrates law due.text within migrates.old migrates.is; bad_script = tt; too_large = tt } in
      is_due due
      (status ∙ sym (status_within within ∙ ap status_unless migrates.old))
      (migrates.is ∙ sym (text_within within ∙ ap (text_unless bytes) migrates.old))
      (subst (λ (some : Status). Says bytes due.text some) (sym status) all)
      (subst HasText (sym status) tt)

  -- ---- BAD SCRIPT
  pub script_refused : GrammarRefuses → (due : Due) (line : ℕ) (reason : Reason) → length bytes ≤ input_limit → unread bytes ≡ Some (record { line = line; reason = reason })
      → IsRefusal (record { line = line; why = why.Reason reason }) due → IsMigrateDue bytes due
  script_refused law due line reason within found refusal =
      let all : Says bytes due.text (BadScript line reason) =
      record { done = λ same. absurd cc; bad_script = record { within = within; first = found; by_grammar = refused_by_grammar law bytes line reason found; is = refusal.text }; too_large = tt } in
      is_due due
      (refusal.status ∙ sym (status_within within ∙ ap status_unless found))
      (refusal.text ∙ sym (text_within within ∙ ap (text_unless bytes) found))
      (subst (λ (some : Status). Says bytes due.text some) (sym refusal.status) all)
      refusal.has_text

  -- ---- and for what a call answers
  pub scripts_refused : GrammarRefuses → {E : Type 0} (result : Result Due E) (line : ℕ) (reason : Reason) → length bytes ≤ input_limit → unread bytes ≡ Some (record { line = line; reason = reason })
      → IfOk result (IsRefusal (record { line = line; why = why.Reason reason })) → IfOk result (IsMigrateDue bytes)
  scripts_refused law (Ok due) line reason within found refusal = script_refused law due line reason within found refusal
  scripts_refused law (Err error) line reason within found refusal = tt

-- ---- TOO LARGE
pub script_past : (bytes : List ℕ) (due : Due) → input_limit < length bytes → due.status ≡ TooLarge 0 → due.text ≡ too_large_text → IsMigrateDue bytes due
script_past bytes due past status text =
    let large : nat_lt input_limit (length bytes) ≡ true = grind (arith, nat_tests) in
    let all : Says bytes due.text (TooLarge 0) = record { done = λ same. absurd cc; bad_script = tt; too_large = (refl, past, text) } in
    is_due bytes due
    (status ∙ sym (ap (λ (one : Bool). cond one (TooLarge 0) (status_unless (unread bytes))) large))
    (text ∙ sym (ap (λ (one : Bool). cond one too_large_text (text_unless bytes (unread bytes))) large))
    (subst (λ (some : Status). Says bytes due.text some) (sym status) all)
    (subst HasText (sym status) tt)

pub scripts_past : (bytes : List ℕ) {E : Type 0} (result : Result Due E) → input_limit < length bytes
    → IfOk result (λ due. (due.status ≡ TooLarge 0) × (due.text ≡ too_large_text)) → IfOk result (IsMigrateDue bytes)
scripts_past bytes (Ok due) past is = script_past bytes due past is.0 is.1
scripts_past bytes (Err error) past is = tt
