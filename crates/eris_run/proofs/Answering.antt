-- What is due for bytes says what the statuses promise. Used where the bytes of a script are answered.
use Rattle.std.proofs.Common.{◌≡◌, inl, inr, ℕ, ◌≤◌, ◌<◌, Bool, true, false, cond, nat_lt, IfOk, Result, Ok, Err, List, [], length, ap, sym, ◌∙◌, subst, refl, arith}
use Rattle.std.proofs.lemmas.Bool.Decides.{nat_tests}
use Rattle.eris_base.specs.ConfigLimits.{ConfigValue}
use Rattle.eris_report.specs.ReportText.{report_text}
use Rattle.eris_rules.specs.Reports.{report_of}
use Rattle.eris_status.specs.declared.due.Due.{Due}
use Rattle.eris_status.specs.declared.refused.Stop.{Stop}
use Rattle.eris_status.specs.declared.refused.Stop.TheVariants as stops
use Rattle.eris_status.specs.declared.refused.Why.{Why}
use Rattle.eris_status.specs.declared.refused.Why.TheVariants as why
use Rattle.eris_status.specs.declared.status.Status.{Status}
use Rattle.eris_status.specs.declared.status.Status.TheVariants.{Done, NoMemory, TooLarge}
use Rattle.eris_status.specs.Statuses.{HasText, IfBadScript, IfTooLarge, status_of}
use Rattle.eris_run.specs.Calls.{IsAccepted, RefusesLarge, RefusesLine, ReportsRun, answer_to, input_limit, status_due, status_for, text_due}
use Rattle.eris_run.specs.Dues.{IsDue, IsJudged}
use Rattle.eris_run.specs.ScriptRuns.{Ran, outcome}
use Rattle.eris_status.specs.Texts.{refusal_text, too_large_text}
use Rattle.eris_run.proofs.Completeness.{done_due}
use Rattle.eris_run.proofs.FirstRefusals.{first_above, first_refused}
use Rattle.eris_run.proofs.ScriptLaws.{script_taken}

-- all that a status and a text that are due say of the bytes
record Says (bytes text : List ℕ) (status : Status) : Type 0 where
  done : status ≡ Done → ReportsRun bytes text
  bad_script : IfBadScript status (RefusesLine bytes text)
  too_large : IfTooLarge status (RefusesLarge bytes text)

module _ (bytes : List ℕ) where
  input_refused : input_limit < length bytes → Says bytes too_large_text (TooLarge 0)
  input_refused past =
      record {
        done = λ same. absurd cc;
        bad_script = tt;
        too_large = inl (refl, record { past = past; is = refl });
      }

  run_reported : (ran : Ran) → length bytes ≤ input_limit → outcome bytes ≡ Ok ran → Says bytes (report_text (report_of ran.config ran.world)) Done
  run_reported ran within is =
      let script = script_taken bytes ran is in
      record {
        done = λ _. record {
          within = within;
          whole = script.whole;
          is_script = script.is_script;
          world = ran.world;
          ran = script.runs;
          is = ap (λ (config : ConfigValue). report_text (report_of config ran.world)) script.config;
        };
        bad_script = tt;
        too_large = tt;
      }

  line_refused : (line : ℕ) (why : Why) → length bytes ≤ input_limit → outcome bytes ≡ Err (stops.Refused (record { line = line; why = why })) → Says bytes (refusal_text line why) (status_of line why)
  line_refused line (why.Reason reason) within is =
      record {
        done = λ same. absurd cc;
        bad_script = record { within = within; first = first_refused bytes (record { line = line; why = why.Reason reason }) is; refused = is; is = refl };
        too_large = tt;
      }
  line_refused line (why.Limit limit) within is =
      let first = first_refused bytes (record { line = line; why = why.Limit limit }) is in
      record {
        done = λ same. absurd cc;
        bad_script = tt;
        too_large = inr (record { above = first_above bytes line (why.Limit limit) first; within = within; limit = limit; first = first; refused = is; is = refl });
      }

  -- of want of memory the status says nothing
  none_said : Says bytes [] NoMemory
  none_said = record { done = λ same. absurd cc; bad_script = tt; too_large = tt }

  says : (large : Bool) (found : Result Ran Stop) → nat_lt input_limit (length bytes) ≡ large → outcome bytes ≡ found
      → Says bytes (cond large too_large_text (answer_to found)) (cond large (TooLarge 0) (status_for found))
  says true found size is = input_refused (grind (arith, nat_tests))
  says false (Ok ran) size is = run_reported ran (grind (arith, nat_tests)) is
  says false (Err (stops.Refused refused)) size is = line_refused refused.line refused.why (grind (arith, nat_tests)) is
  says false (Err stops.NoMemory) size is = none_said

  accepted : (status : Status) → status ≡ status_due bytes → IsAccepted bytes status
  accepted status due = λ whole world within is ran. inl (due ∙ done_due bytes whole world within is ran)

  -- THE STATUS AND THE TEXT THAT ARE DUE
  is_due : (due : Due) → due.status ≡ status_due bytes → due.text ≡ text_due bytes → HasText due.status → IsDue bytes due
  is_due due status text has_text =
      let all = subst (λ (some : Status). Says bytes due.text some) (sym status)
      (subst (λ (some : List ℕ). Says bytes some (status_due bytes)) (sym text) (says (nat_lt input_limit (length bytes)) (outcome bytes) refl refl)) in
      record {
        status = status;
        text = text;
        done = all.done;
        bad_script = all.bad_script;
        too_large = all.too_large;
        accepted = accepted due.status status;
        has_text = has_text;
      }

  pub input_due : (due : Due) → input_limit < length bytes → due.status ≡ TooLarge 0 → due.text ≡ too_large_text → IsDue bytes due
  input_due due past status text =
      let large : nat_lt input_limit (length bytes) ≡ true = grind (arith, nat_tests) in
      is_due due
      (status ∙ sym (ap (λ (one : Bool). cond one (TooLarge 0) (status_for (outcome bytes))) large))
      (text ∙ sym (ap (λ (one : Bool). cond one too_large_text (answer_to (outcome bytes))) large))
      (subst HasText (sym status) tt)

  pub script_judged : (due : Due) → length bytes ≤ input_limit → IsJudged bytes due → IsDue bytes due
  script_judged due within judged =
      let small : nat_lt input_limit (length bytes) ≡ false = grind (arith, nat_tests) in
      is_due due
      (judged.status ∙ sym (ap (λ (one : Bool). cond one (TooLarge 0) (status_for (outcome bytes))) small))
      (judged.text ∙ sym (ap (λ (one : Bool). cond one too_large_text (answer_to (outcome bytes))) small))
      judged.has_text

  -- ---- and so for what a call answers
  pub inputs_due : {E : Type 0} (result : Result Due E) → input_limit < length bytes → IfOk result (λ due. (due.status ≡ TooLarge 0) × (due.text ≡ too_large_text)) → IfOk result (IsDue bytes)
  inputs_due (Ok due) past is = input_due due past is.0 is.1
  inputs_due (Err error) past is = tt

  pub scripts_judged : {E : Type 0} (result : Result Due E) → length bytes ≤ input_limit → IfOk result (IsJudged bytes) → IfOk result (IsDue bytes)
  scripts_judged (Ok due) within judged = script_judged due within judged
  scripts_judged (Err error) within judged = tt
