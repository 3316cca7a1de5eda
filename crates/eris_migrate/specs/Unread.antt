-- A SCRIPT OF VERSION 1: its first line is a header of version 1, and the grammar of version 1 reads each line behind it. Other bytes
-- have a first line that isn't so read; a header of version 2 is one. What a system would say of the events doesn't come in.
use Rattle.std.specs.Prelude.{◌≡◌, ℕ, ◌+◌, ◌==◌, Option, Some, None, Result, Ok, Err, List, [], ◌∷◌, if◌then◌else◌}
use Rattle.eris_grammar.specs.declared.header.Header.{Header}
use Rattle.eris_words.specs.declared.reason.Reason.{Reason}
use Rattle.eris_words.specs.declared.reason.Reason.TheVariants as reason
use Rattle.eris_words.specs.Cuts.{lines}
use Rattle.eris_grammar.specs.Headers.{header_of}
use Rattle.eris_grammar.specs.LineForms.{line_of}
use Rattle.eris_grammar.specs.Scripts.{BadLine}

-- the first line that isn't read, of lines behind a header of which the first has this number
unfoldable pub unread_from : ℕ → List (List ℕ) → Option BadLine
unread_from number [] = None
unread_from number (text ∷ texts) = elim (line_of 1 text) [
  | Ok said ↦ unread_from (number + 1) texts
  | Err why ↦ Some (record { line = number; reason = why })
]

-- why a first line is no header of version 1
abbrev pub header_fault : Result Header Reason → Option Reason
header_fault (Ok header) = if header.version == 1 then None else Some reason.Header
header_fault (Err why) = Some why

abbrev pub unless_headless : Option Reason → List (List ℕ) → Option BadLine
unless_headless None texts = unread_from 2 texts
unless_headless (Some why) texts = Some (record { line = 1; reason = why })

abbrev pub unread_in : List (List ℕ) → Option BadLine
unread_in [] = Some (record { line = 1; reason = reason.Header })
unread_in (first ∷ texts) = unless_headless (header_fault (header_of first)) texts

-- the first line that isn't read as one of a script of version 1, and why
unfoldable pub unread : List ℕ → Option BadLine
unread bytes = unread_in (lines bytes)

abbrev pub IsVersion1 : List ℕ → Type 0
IsVersion1 bytes = unread bytes ≡ None
