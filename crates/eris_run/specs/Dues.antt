-- What is due for bytes, and what that says of them.
use Rattle.std.specs.Prelude.{◌≡◌, ℕ, List}
use Rattle.eris_status.specs.declared.due.Due.{Due}
use Rattle.eris_status.specs.declared.status.Status.TheVariants.{Done}
use Rattle.eris_status.specs.Statuses.{HasText, IfBadScript, IfTooLarge}
use Rattle.eris_run.specs.Calls.{IsAccepted, RefusesLarge, RefusesLine, ReportsRun, answer_to, status_due, status_for, text_due}
use Rattle.eris_run.specs.ScriptRuns.{outcome}

-- the status and the text are those that the bytes are due, and what each status says of them holds
pub record IsDue (bytes : List ℕ) (due : Due) : Type 0 where
  pub status : due.status ≡ status_due bytes
  pub text : due.text ≡ text_due bytes
  pub done : due.status ≡ Done → ReportsRun bytes due.text
  pub bad_script : IfBadScript due.status (RefusesLine bytes due.text)
  pub too_large : IfTooLarge due.status (RefusesLarge bytes due.text)
  pub accepted : IsAccepted bytes due.status
  pub has_text : HasText due.status

-- the status and the text are those for what comes of a script; the status is one with a text
pub record IsJudged (bytes : List ℕ) (due : Due) : Type 0 where
  pub status : due.status ≡ status_for (outcome bytes)
  pub text : due.text ≡ answer_to (outcome bytes)
  pub has_text : HasText due.status
