-- THE LAWS that the headline rests on, of the bytes of a script.
use Rattle.std.specs.Prelude.{◌≡◌, ℕ, ◌≤◌, Some, Ok, List, length}
use Rattle.std.specs.List.{flat_map}
use Rattle.eris_check_run.specs.Checks.{IsCheckStatus, check_limit}
use Rattle.eris_grammar.specs.Scripts.{Script, events_of, script}
use Rattle.eris_rules.specs.Good.{Good}
use Rattle.eris_report.specs.ReportText.{report_text}
use Rattle.eris_rules.specs.Reports.{report_of}
use Rattle.eris_rules.specs.Runs.{run}
use Rattle.eris_run.specs.Calls.{input_limit}
use Rattle.eris_status.specs.declared.status.Status.TheVariants.{Done}
use Rattle.eris_rules.specs.Worlds.{WorldState}
use Rattle.eris_law_undisturbed.specs.Undisturbed.{AreAnswered}
use Rattle.eris_law_script.specs.UndisturbedScripts.{BeginsUndisturbed, IsUndisturbedScript}

-- the world after a script's events is good
abbrev pub EveryRunIsGood : Type 0
EveryRunIsGood = (bytes : List ℕ) (whole : Script) (world : WorldState) → script bytes ≡ Ok whole → run whole.config whole.events ≡ Some world → Good world

-- an undisturbed script has all that it submits answered
abbrev pub UndisturbedAnswers : Type 0
UndisturbedAnswers = (bytes : List ℕ) (made : Script) (world : WorldState) → IsUndisturbedScript bytes → script bytes ≡ Ok made → run made.config made.events ≡ Some world → AreAnswered world.history world.history

-- and so have the first lines of any script, where they are undisturbed
abbrev pub FrontsAnswer : Type 0
FrontsAnswer = (bytes : List ℕ) (made : Script) (world : WorldState) → (is : BeginsUndisturbed bytes) → script bytes ≡ Ok made → run made.config made.events ≡ Some world → (middle : WorldState) × (run made.config (flat_map events_of is.said) ≡ Some middle) × AreAnswered middle.history world.history

-- the report of a good world after a script's events passes, where it is judged
abbrev pub ReportsPass : Type 0
ReportsPass = (bytes : List ℕ) (whole : Script) (world : WorldState) → length bytes ≤ input_limit → script bytes ≡ Ok whole → run whole.config whole.events ≡ Some world → Good world → length (report_text (report_of whole.config world)) ≤ check_limit → IsCheckStatus (report_text (report_of whole.config world)) Done
