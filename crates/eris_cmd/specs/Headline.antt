-- THE HEADLINE: what is promised of a script that was run, of its bytes and of the text that is due for them.
use Rattle.std.specs.Prelude.{◌≡◌, ℕ, ◌≤◌, Some, Ok, List, length}
use Rattle.eris_check_run.specs.Checks.{IsCheckStatus, check_limit}
use Rattle.eris_status.specs.declared.status.Status.TheVariants.{Done}
use Rattle.std.specs.List.{flat_map}
use Rattle.eris_report.specs.ReportText.{report_text}
use Rattle.eris_grammar.specs.Scripts.{Script, events_of, script}
use Rattle.eris_rules.specs.Good.{Good}
use Rattle.eris_rules.specs.Reports.{report_of}
use Rattle.eris_rules.specs.Runs.{run}
use Rattle.eris_rules.specs.Worlds.{WorldState}
use Rattle.eris_law_undisturbed.specs.Undisturbed.{AreAnswered}
use Rattle.eris_law_script.specs.UndisturbedScripts.{BeginsUndisturbed, IsUndisturbedScript}
use Rattle.eris_run.specs.Calls.{input_limit}

-- what was submitted in the script's undisturbed first lines is answered in the end
pub record AnswersFront (whole : Script) (world : WorldState) (bytes : List ℕ) (front : BeginsUndisturbed bytes) : Type 0 where
  pub middle : WorldState
  pub ran : run whole.config (flat_map events_of front.said) ≡ Some middle
  pub answered : AreAnswered middle.history world.history

-- The bytes are a script. This is the world after its events, and it is good: what happened at the clients is serial in its order,
-- and what each replica has settled is how that order begins on its shard. An undisturbed script has each of its transactions
-- answered there, and so have the first lines of any script, where they are undisturbed. The text is the report of that very world;
-- and whoever judges that text by `check`, where it isn't longer than what `check` reads, is told that it is serial.
pub record ReportsGoodRun (bytes text : List ℕ) : Type 0 where
  pub within : length bytes ≤ input_limit
  pub whole : Script
  pub is_script : script bytes ≡ Ok whole
  pub world : WorldState
  pub ran : run whole.config whole.events ≡ Some world
  pub good : Good world
  pub answers : IsUndisturbedScript bytes → AreAnswered world.history world.history
  pub answers_front : (front : BeginsUndisturbed bytes) → AnswersFront whole world bytes front
  pub is : text ≡ report_text (report_of whole.config world)
  pub passes : length text ≤ check_limit → IsCheckStatus text Done
