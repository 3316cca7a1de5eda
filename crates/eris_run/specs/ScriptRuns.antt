-- WHAT COMES OF THE BYTES OF A SCRIPT: the world after its events, or the first line that the grammar or the world refuses, and
-- why. The events of a line are taken one after another; where one is refused, its line is, and nothing behind it counts. The
-- rules refuse no event for want of memory, so no bytes come to that.
use Rattle.std.specs.Prelude.{ℕ, ◌+◌, Option, Some, None, Result, Ok, Err, List, [], ◌∷◌}
use Rattle.eris_base.specs.ConfigLimits.{ConfigValue}
use Rattle.eris_event.specs.declared.event.Event.{Event}
use Rattle.eris_grammar.specs.declared.header.Header.{Header}
use Rattle.eris_grammar.specs.declared.line.Line.{Line}
use Rattle.eris_words.specs.declared.reason.Reason.{Reason}
use Rattle.eris_words.specs.declared.reason.Reason.TheVariants as reason
use Rattle.eris_words.specs.Cuts.{lines}
use Rattle.eris_grammar.specs.Headers.{header_of}
use Rattle.eris_grammar.specs.LineForms.{line_of}
use Rattle.eris_grammar.specs.Scripts.{events_of}
use Rattle.eris_event.specs.declared.refusal.Refusal.{Refusal}
use Rattle.eris_rules.specs.Happenings.{happens}
use Rattle.eris_rules.specs.Refusals.{refusal}
use Rattle.eris_rules.specs.Worlds.{WorldState, first_world}
use Rattle.eris_status.specs.declared.refused.Stop.{Stop}
use Rattle.eris_status.specs.declared.refused.Stop.TheVariants as stops
use Rattle.eris_status.specs.declared.refused.Why.TheVariants as why
use Rattle.eris_status.specs.Stops.{stop_at}

-- the world after an event, unless it is refused
abbrev pub unless : Option Refusal → WorldState → Result WorldState Refusal
unless None after = Ok after
unless (Some cause) after = Err cause

unfoldable pub after_event : ConfigValue → WorldState → Event → Result WorldState Refusal
after_event config world event = unless (refusal config world event) (happens config world event)

-- the world after events, of which none is refused; or why the first that is refused is
unfoldable pub after_events : ConfigValue → WorldState → List Event → Result WorldState Refusal
after_events config world [] = Ok world
after_events config world (event ∷ events) = elim (after_event config world event) [
  | Ok next ↦ after_events config next events
  | Err cause ↦ Err cause
]

-- the line of this number is refused with its event
abbrev pub told : ℕ → Result WorldState Refusal → Result WorldState Stop
told number (Ok next) = Ok next
told number (Err cause) = Err (stop_at number cause)

-- the world after what the line of this number says
unfoldable pub after_said : ConfigValue → ℕ → WorldState → Line → Result WorldState Stop
after_said config number world said = told number (after_events config world (events_of said))

abbrev pub after_read : ConfigValue → ℕ → WorldState → Result Line Reason → Result WorldState Stop
after_read config number world (Ok said) = after_said config number world said
after_read config number world (Err reason) = Err (stops.Refused (record { line = number; why = why.Reason reason }))

-- the world after the line of this number; or why the grammar, else the world, refuses it
unfoldable pub after_line : ℕ → ConfigValue → ℕ → WorldState → List ℕ → Result WorldState Stop
after_line version config number world text = after_read config number world (line_of version text)

-- the world after lines, of which the first has this number
unfoldable pub after_lines : ℕ → ConfigValue → ℕ → WorldState → List (List ℕ) → Result WorldState Stop
after_lines version config number world [] = Ok world
after_lines version config number world (text ∷ texts) = elim (after_line version config number world text) [
  | Ok next ↦ after_lines version config (number + 1) next texts
  | Err stop ↦ Err stop
]

-- a world of a config
pub record Ran : Type 0 where
  pub config : ConfigValue
  pub world : WorldState

abbrev pub ran_in : ConfigValue → Result WorldState Stop → Result Ran Stop
ran_in config (Ok world) = Ok (record { config = config; world = world })
ran_in config (Err stop) = Err stop

abbrev pub after_header : Result Header Reason → List (List ℕ) → Result Ran Stop
after_header (Ok header) texts = ran_in header.config (after_lines header.version header.config 2 (first_world header.config) texts)
after_header (Err reason) texts = Err (stops.Refused (record { line = 1; why = why.Reason reason }))

-- the first line is the header, whatever it is
abbrev pub after_text : List (List ℕ) → Result Ran Stop
after_text [] = Err (stops.Refused (record { line = 1; why = why.Reason reason.Header }))
after_text (first ∷ texts) = after_header (header_of first) texts

unfoldable pub outcome : List ℕ → Result Ran Stop
outcome bytes = after_text (lines bytes)
