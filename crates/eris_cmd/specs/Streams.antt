-- WHAT A CALL READS AND WRITES. `left` and `left'` are the bytes that the source has still to give, as the call begins and as it
-- returns, and `taken` and `taken'` those that the sink has taken, where they are known. `limit` is how many bytes the command reads.
use Rattle.std.specs.Prelude.{◌≡◌, ◌⊎◌, ℕ, ◌+◌, ◌≤◌, Option, Some, List, length}
use Rattle.std.specs.Io.KnownBytes.{Consumes, IsAtEnd, Appends}
use Rattle.eris_stream.specs.Transfers.{ReadsToEnd, ReadsPast, TakesFront}
use Rattle.eris_drill.specs.DrillText.{drill_text}
use Rattle.eris_drill_run.specs.Days.{IsTextFor}
use Rattle.eris_status.specs.declared.due.Due.{Due}
use Rattle.eris_run.specs.Calls.{RefusesSends, input_limit}
use Rattle.eris_run.specs.ScriptRuns.{outcome}
use Rattle.eris_status.specs.Texts.{too_large_text}
use Rattle.eris_cmd.specs.declared.command.Command.{Command}
use Rattle.eris_cmd.specs.Answers.{IsAnswer}
use Rattle.eris_cmd.specs.Named.{input_limit_of}

-- the source was read to its end, and what was written is a text of which this holds together with the bytes read
pub record Answers (limit : ℕ) (left left' taken taken' : Option (List ℕ)) (Holds : List ℕ → List ℕ → Type 0) : Type 0 where
  pub bytes : List ℕ
  pub read : ReadsToEnd left left' limit bytes
  pub text : List ℕ
  pub written : Appends taken taken' text
  pub holds : Holds bytes text

-- what was written is a text of which this holds
pub record Tells (taken taken' : Option (List ℕ)) (Holds : List ℕ → Type 0) : Type 0 where
  pub text : List ℕ
  pub written : Appends taken taken' text
  pub holds : Holds text

-- TOO LARGE, line 0: more bytes came than the command reads
abbrev pub PassesLimit : ℕ → Option (List ℕ) → Option (List ℕ) → Option (List ℕ) → Option (List ℕ) → ℕ → Type 0
PassesLimit limit left left' taken taken' line = (line ≡ 0) × ReadsPast left left' limit × Appends taken taken' too_large_text

-- TOO LARGE of a script that is run: with line 0 more bytes came than it may have; with another an event of that line would send too
-- much
abbrev pub RefusesLargeInput : Option (List ℕ) → Option (List ℕ) → Option (List ℕ) → Option (List ℕ) → ℕ → Type 0
RefusesLargeInput left left' taken taken' line =
    PassesLimit input_limit left left' taken taken' line
    ⊎ Answers input_limit left left' taken taken' (λ bytes text. RefusesSends bytes text line)

-- what came from the source: all that it had, or one byte more than the command reads
pub record Comes (limit : ℕ) (left left' : Option (List ℕ)) (bytes : List ℕ) : Type 0 where
  pub came : Consumes left left' bytes
  pub few : length bytes ≤ limit + 1
  pub ended : length bytes ≤ limit → IsAtEnd left'

-- WRITE FAULT: of the text that is due for what came only a front was taken
pub record StopsWriting (limit : ℕ) (IsDueText : List ℕ → List ℕ → Type 0) (left left' taken taken' : Option (List ℕ)) : Type 0 where
  pub bytes : List ℕ
  pub came : Comes limit left left' bytes
  pub text : List ℕ
  pub due : IsDueText bytes text
  pub front : TakesFront taken taken' text

-- WRITE FAULT: of the text that is due for a drill only a front was taken
pub record StopsTelling (number : ℕ) (taken taken' : Option (List ℕ)) : Type 0 where
  pub text : List ℕ
  pub due : IsTextFor number (outcome (drill_text number)) text
  pub front : TakesFront taken taken' text

-- what is due for a command and for what came of the source, where the command reads
pub record IsDueFor (command : Command) (left left' : Option (List ℕ)) (due : Due) : Type 0 where
  pub bytes : List ℕ
  pub came : (limit : ℕ) → input_limit_of command ≡ Some limit → Comes limit left left' bytes
  pub answer : IsAnswer command bytes due
