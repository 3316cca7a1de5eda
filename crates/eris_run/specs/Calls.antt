-- WHAT THE BYTES OF A SCRIPT ARE DUE: a status and a text, and what each status says of these very bytes and this very text.
use Rattle.std.specs.Prelude.{◌≡◌, ◌⊎◌, ℕ, ◌≤◌, ◌<◌, nat_lt, Some, Result, Ok, Err, List, [], length, if◌then◌else◌}
use Rattle.eris_words.specs.declared.reason.Reason.{Reason}
use Rattle.eris_report.specs.ReportText.{report_text}
use Rattle.eris_grammar.specs.Scripts.{Script, script}
use Rattle.eris_rules.specs.Reports.{report_of}
use Rattle.eris_rules.specs.Runs.{run}
use Rattle.eris_rules.specs.Worlds.{WorldState}
use Rattle.eris_event.specs.declared.limit.Limit.{Limit}
use Rattle.eris_status.specs.declared.refused.Stop.{Stop}
use Rattle.eris_status.specs.declared.refused.Stop.TheVariants as stops
use Rattle.eris_status.specs.declared.refused.Why.TheVariants as why
use Rattle.eris_status.specs.declared.status.Status.{Status}
use Rattle.eris_status.specs.declared.status.Status.TheVariants.{Done, NoMemory, TooLarge}
use Rattle.eris_run.specs.FirstRefused.{IsFirstRefused}
use Rattle.eris_run.specs.ScriptRuns.{Ran, outcome}
use Rattle.eris_status.specs.Texts.{bad_script_text, limit_text, refusal_text, too_large_text}
use Rattle.eris_status.specs.Statuses.{status_of}

-- how many bytes a script may have
abbrev pub input_limit : ℕ
input_limit = 4194304

-- DONE: the bytes are a script, this is the world after its events, and the text is the report of that very world
pub record ReportsRun (bytes text : List ℕ) : Type 0 where
  pub within : length bytes ≤ input_limit
  pub whole : Script
  pub is_script : script bytes ≡ Ok whole
  pub world : WorldState
  pub ran : run whole.config whole.events ≡ Some world
  pub is : text ≡ report_text (report_of whole.config world)

-- BAD SCRIPT: this is the first line that is refused, by the grammar or by the world
pub record RefusesLine (bytes text : List ℕ) (line : ℕ) (reason : Reason) : Type 0 where
  pub within : length bytes ≤ input_limit
  pub first : IsFirstRefused bytes line (why.Reason reason)
  pub refused : outcome bytes ≡ Err (stops.Refused (record { line = line; why = why.Reason reason }))
  pub is : text ≡ bad_script_text line reason

-- TOO LARGE, line 0: the bytes are more than a script may have
pub record RefusesInput (bytes text : List ℕ) : Type 0 where
  pub past : input_limit < length bytes
  pub is : text ≡ too_large_text

-- TOO LARGE, another line: this is the first line that is refused, since the world would send more than may be sent
pub record RefusesSends (bytes text : List ℕ) (line : ℕ) : Type 0 where
  pub above : 0 < line
  pub within : length bytes ≤ input_limit
  pub limit : Limit
  pub first : IsFirstRefused bytes line (why.Limit limit)
  pub refused : outcome bytes ≡ Err (stops.Refused (record { line = line; why = why.Limit limit }))
  pub is : text ≡ limit_text line limit

abbrev pub RefusesLarge : List ℕ → List ℕ → ℕ → Type 0
RefusesLarge bytes text line = ((line ≡ 0) × RefusesInput bytes text) ⊎ RefusesSends bytes text line

-- the text that is due for what comes of a script; with want of memory nothing is written
abbrev pub answer_to : Result Ran Stop → List ℕ
answer_to (Ok ran) = report_text (report_of ran.config ran.world)
answer_to (Err (stops.Refused refused)) = refusal_text refused.line refused.why
answer_to (Err stops.NoMemory) = []

-- the text that is due for the bytes
abbrev pub text_due : List ℕ → List ℕ
text_due bytes = if nat_lt input_limit (length bytes) then too_large_text else answer_to (outcome bytes)

-- the status that is due for what comes of a script
abbrev pub status_for : Result Ran Stop → Status
status_for (Ok ran) = Done
status_for (Err (stops.Refused refused)) = status_of refused.line refused.why
status_for (Err stops.NoMemory) = NoMemory

-- the status that is due for the bytes
abbrev pub status_due : List ℕ → Status
status_due bytes = if nat_lt input_limit (length bytes) then TooLarge 0 else status_for (outcome bytes)

-- ACCEPTED: so many bytes, which are a script of which no event is refused, are answered Done or by want of memory
abbrev pub IsAccepted : List ℕ → Status → Type 0
IsAccepted bytes status =
    (whole : Script) (world : WorldState) → length bytes ≤ input_limit → script bytes ≡ Ok whole → run whole.config whole.events ≡ Some world
    → (status ≡ Done) ⊎ (status ≡ NoMemory)
