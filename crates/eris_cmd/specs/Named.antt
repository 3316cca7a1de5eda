-- WHAT THE WORDS ASK FOR, and how much of an input that reads.
use Rattle.std.specs.Prelude.{ℕ, Option, Some, None, List}
use Rattle.eris_check_run.specs.Checks.{check_limit}
use Rattle.eris_run.specs.Calls.{input_limit}
use Rattle.eris_cmd.specs.declared.command.Command.{Command}
use Rattle.eris_cmd.specs.declared.command.Command.TheVariants.{Run, Check, Migrate, Drill}
use Rattle.eris_cmd.specs.Commands.{IsCheck, IsDrill, IsMigrate, IsRun}

abbrev pub Names : List (List ℕ) → Command → Type 0
Names words Run = IsRun words
Names words Check = IsCheck words
Names words Migrate = IsMigrate words
Names words (Drill number) = IsDrill words number

-- None where nothing is read
abbrev pub input_limit_of : Command → Option ℕ
input_limit_of Run = Some input_limit
input_limit_of Check = Some check_limit
input_limit_of Migrate = Some input_limit
input_limit_of (Drill number) = None
