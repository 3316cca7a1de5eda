-- What the bytes of a script say: a config and events; or the first line that doesn't fit, and why.
use Rattle.std.specs.Prelude.{ℕ, ◌+◌, Result, Ok, Err, List, [], ◌∷◌, ◌++◌, replicate}
use Rattle.eris_base.specs.ConfigLimits.{ConfigValue}
use Rattle.eris_event.specs.declared.event.Event.{Event}
use Rattle.eris_event.specs.declared.event.Event.TheVariants as event
use Rattle.eris_grammar.specs.declared.line.Line.{Line}
use Rattle.eris_grammar.specs.declared.line.Line.TheVariants as line
use Rattle.eris_words.specs.declared.reason.Reason.{Reason}
use Rattle.eris_words.specs.declared.reason.Reason.TheVariants as reason
use Rattle.eris_words.specs.Cuts.{lines}
use Rattle.eris_grammar.specs.Headers.{header_of}
use Rattle.eris_grammar.specs.LineForms.{line_of}

pub record Script : Type 0 where
  pub config : ConfigValue
  pub events : List Event

-- a line that is refused, lines counted from 1, and why
pub record BadLine : Type 0 where
  pub line : ℕ
  pub reason : Reason

-- the events that a line stands for
abbrev pub events_of : Line → List Event
events_of line.Skip = []
events_of (line.One e) = e ∷ []
events_of (line.Flow times) = replicate times event.Flow
events_of (line.Lose times) = replicate times event.Lose

abbrev pub with_events : List Event → Result (List Event) BadLine → Result (List Event) BadLine
with_events events (Ok more) = Ok (events ++ more)
with_events events (Err bad) = Err bad

-- the events of lines, of which the first has this number
unfoldable pub events_from : ℕ → ℕ → List (List ℕ) → Result (List Event) BadLine
events_from version number [] = Ok []
events_from version number (text ∷ texts) = elim (line_of version text) [
  | Ok said ↦ with_events (events_of said) (events_from version (number + 1) texts)
  | Err why ↦ Err (record { line = number; reason = why })
]

abbrev pub with_config : ConfigValue → Result (List Event) BadLine → Result Script BadLine
with_config config (Ok events) = Ok (record { config = config; events = events })
with_config config (Err bad) = Err bad

-- the first line is the header, whatever it is
abbrev pub script_in : List (List ℕ) → Result Script BadLine
script_in [] = Err (record { line = 1; reason = reason.Header })
script_in (first ∷ texts) = elim (header_of first) [
  | Ok header ↦ with_config header.config (events_from header.version 2 texts)
  | Err why ↦ Err (record { line = 1; reason = why })
]

unfoldable pub script : List ℕ → Result Script BadLine
script bytes = script_in (lines bytes)
