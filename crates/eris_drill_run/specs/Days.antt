-- What the run of a drill is due: a status and a text, and what each status says of the day and of this very text.
use Rattle.std.specs.Prelude.{◌≡◌, ◌⊎◌, ℕ, ◌+◌, Some, Result, Ok, Err, List, [], count_by, length}
use Rattle.eris_rules.specs.Good.{Good}
use Rattle.eris_rules.specs.Reports.{report_of}
use Rattle.eris_rules.specs.Runs.{run}
use Rattle.eris_rules.specs.Worlds.{WorldState}
use Rattle.eris_drill.specs.DrillLines.{bank, drill_lines}
use Rattle.eris_drill.specs.DrillText.{drill_text}
use Rattle.eris_drill.specs.Summaries.{IsTotal, is_submit, summary_text, values_left}
use Rattle.eris_law_drill.specs.Reading.{drill_events}
use Rattle.eris_status.specs.declared.due.Due.{Due}
use Rattle.eris_event.specs.declared.limit.Limit.{Limit}
use Rattle.eris_status.specs.declared.refused.Stop.{Stop}
use Rattle.eris_status.specs.declared.refused.Stop.TheVariants as stops
use Rattle.eris_status.specs.declared.refused.Why.TheVariants as why
use Rattle.eris_status.specs.declared.status.Status.{Status}
use Rattle.eris_status.specs.declared.status.Status.TheVariants.{Done, NoMemory}
use Rattle.eris_status.specs.Statuses.{HasText, IfBadScript, IfTooLarge}
use Rattle.eris_run.specs.Calls.{status_for}
use Rattle.eris_run.specs.FirstRefused.{IsFirstRefused}
use Rattle.eris_run.specs.ScriptRuns.{Ran, outcome}
use Rattle.eris_status.specs.Texts.{limit_text, refusal_text}

-- the lines of a drill's script, its header among them
abbrev pub line_count : ℕ → ℕ
line_count number = length (drill_lines number) + 1

-- the text is the summary of the day after which the world is this
pub record IsSummaryOf (number : ℕ) (world : WorldState) (text : List ℕ) : Type 0 where
  pub total : ℕ
  pub sum : IsTotal (values_left (report_of bank world)) total
  pub is : text ≡ summary_text number (line_count number) (report_of bank world) total

-- DONE: this is the world after the events of the drill, and it is good. All that was asked was submitted, and the bank has the
-- money that it had in the morning. The text is the summary of that very world.
pub record SummarizesDay (number : ℕ) (text : List ℕ) : Type 0 where
  pub world : WorldState
  pub ran : run bank (drill_events number) ≡ Some world
  pub good : Good world
  pub submitted : count_by is_submit (report_of bank world).history ≡ 16 + number
  pub total : ℕ
  pub sum : IsTotal (values_left (report_of bank world)) total
  pub money : total ≡ 16000
  pub is : text ≡ summary_text number (line_count number) (report_of bank world) total

-- TOO LARGE: this is the first line of the drill's script that is refused, since the world would send more than may be sent
pub record MeetsLimit (number : ℕ) (text : List ℕ) (line : ℕ) : Type 0 where
  pub limit : Limit
  pub first : IsFirstRefused (drill_text number) line (why.Limit limit)
  pub refused : outcome (drill_text number) ≡ Err (stops.Refused (record { line = line; why = why.Limit limit }))
  pub is : text ≡ limit_text line limit

-- the text that is due for what comes of a drill: the summary of its day, or the line that is refused; with want of memory nothing
-- is written
abbrev pub IsTextFor : ℕ → Result Ran Stop → List ℕ → Type 0
IsTextFor number (Ok ran) text = IsSummaryOf number ran.world text
IsTextFor number (Err (stops.Refused refused)) text = text ≡ refusal_text refused.line refused.why
IsTextFor number (Err stops.NoMemory) text = text ≡ []

-- ACCEPTED: a drill of which no event is refused is answered Done or by want of memory
abbrev pub IsAcceptedDrill : ℕ → Status → Type 0
IsAcceptedDrill number status = (world : WorldState) → run bank (drill_events number) ≡ Some world → (status ≡ Done) ⊎ (status ≡ NoMemory)

-- the status and the text are those for what comes of the drill, and what each status says of it holds; no line is refused for
-- another cause than a limit
pub record IsDueDay (number : ℕ) (due : Due) : Type 0 where
  pub status : due.status ≡ status_for (outcome (drill_text number))
  pub text : IsTextFor number (outcome (drill_text number)) due.text
  pub done : due.status ≡ Done → SummarizesDay number due.text
  pub too_large : IfTooLarge due.status (MeetsLimit number due.text)
  pub no_bad_script : IfBadScript due.status (λ line reason. ⊥)
  pub accepted : IsAcceptedDrill number due.status
  pub has_text : HasText due.status
