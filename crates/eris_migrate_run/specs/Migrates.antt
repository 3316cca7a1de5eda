-- WHAT THE BYTES OF A SCRIPT ARE DUE THAT IS MIGRATED: a status and a text, and what each status says of these very bytes and this very
-- text.
use Rattle.std.specs.Prelude.{◌≡◌, ◌⊎◌, ℕ, ◌≤◌, ◌<◌, nat_lt, Option, Some, None, List, length, if◌then◌else◌}
use Rattle.eris_grammar.specs.Scripts.{BadLine}
use Rattle.eris_law_migrate.specs.Meanings.{MeansTheSame}
use Rattle.eris_law_reasons.specs.Reasons.{IsOfGrammar}
use Rattle.eris_migrate.specs.Migrated.{migrated}
use Rattle.eris_migrate.specs.Unread.{IsVersion1, unread}
use Rattle.eris_run.specs.Calls.{input_limit, status_due, text_due}
use Rattle.eris_run.specs.ScriptRuns.{outcome}
use Rattle.eris_status.specs.declared.due.Due.{Due}
use Rattle.eris_status.specs.declared.status.Status.{Status}
use Rattle.eris_status.specs.declared.status.Status.TheVariants.{BadScript, Done, NoMemory, TooLarge}
use Rattle.eris_status.specs.Statuses.{HasText, IfBadScript, IfTooLarge}
use Rattle.eris_status.specs.Texts.{bad_script_text, too_large_text}
use Rattle.eris_words.specs.declared.reason.Reason.{Reason}

-- DONE: the bytes are a script of version 1, and the text is their migrated text. It is a script of version 2 that means the same: of
-- the same config and events, and whoever runs the one and the other has the same outcome, the same status and the same report or
-- refused line.
pub record MigratesScript (bytes text : List ℕ) : Type 0 where
  pub within : length bytes ≤ input_limit
  pub old : IsVersion1 bytes
  pub is : text ≡ migrated bytes
  pub means : MeansTheSame bytes text
  pub ends : outcome text ≡ outcome bytes
  pub status : status_due text ≡ status_due bytes
  pub text_of : text_due text ≡ text_due bytes

-- BAD SCRIPT: this is the first line that isn't read as one of a script of version 1, and why: for one of the grammar's own reasons, never
-- for what a system's state says of an event
pub record RefusesScript (bytes text : List ℕ) (line : ℕ) (reason : Reason) : Type 0 where
  pub within : length bytes ≤ input_limit
  pub first : unread bytes ≡ Some (record { line = line; reason = reason })
  pub by_grammar : IsOfGrammar reason
  pub is : text ≡ bad_script_text line reason

-- TOO LARGE: with line 0 alone, and where the bytes are more than a script may have
abbrev pub IsPastScripts : List ℕ → List ℕ → ℕ → Type 0
IsPastScripts bytes text line = (line ≡ 0) × (input_limit < length bytes) × (text ≡ too_large_text)

-- THE STATUS THAT IS DUE, and the text

abbrev pub status_unless : Option BadLine → Status
status_unless None = Done
status_unless (Some bad) = BadScript bad.line bad.reason

abbrev pub text_unless : List ℕ → Option BadLine → List ℕ
text_unless bytes None = migrated bytes
text_unless bytes (Some bad) = bad_script_text bad.line bad.reason

abbrev pub migrate_status : List ℕ → Status
migrate_status bytes = if nat_lt input_limit (length bytes) then TooLarge 0 else status_unless (unread bytes)

abbrev pub migrate_text : List ℕ → List ℕ
migrate_text bytes = if nat_lt input_limit (length bytes) then too_large_text else text_unless bytes (unread bytes)

-- ACCEPTED: a script of version 1 within the limit is answered Done or by want of memory
abbrev pub IsMigratable : List ℕ → Status → Type 0
IsMigratable bytes status = length bytes ≤ input_limit → IsVersion1 bytes → (status ≡ Done) ⊎ (status ≡ NoMemory)

-- ALL OF IT
pub record IsMigrateDue (bytes : List ℕ) (due : Due) : Type 0 where
  pub status : due.status ≡ migrate_status bytes
  pub text : due.text ≡ migrate_text bytes
  pub done : due.status ≡ Done → MigratesScript bytes due.text
  pub bad_script : IfBadScript due.status (RefusesScript bytes due.text)
  pub too_large : IfTooLarge due.status (IsPastScripts bytes due.text)
  pub accepted : IsMigratable bytes due.status
  pub has_text : HasText due.status
