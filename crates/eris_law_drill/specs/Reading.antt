-- WHAT THE LINES OF A DRILL SAY, as a script of version 1 is read.
use Rattle.std.specs.Prelude.{◌≡◌, ℕ, Ok, List}
use Rattle.std.specs.List.{flat_map}
use Rattle.eris_event.specs.declared.event.Event.{Event}
use Rattle.eris_grammar.specs.declared.line.Line.{Line}
use Rattle.eris_grammar.specs.LineForms.{line_of}
use Rattle.eris_grammar.specs.Scripts.{events_of}
use Rattle.eris_drill.specs.DrillLines.{drill_lines}
use Rattle.eris_drill.specs.DrillText.{line_text}

-- the line's text says the line
abbrev pub IsRead : Line → Type 0
IsRead said = line_of 1 (line_text said) ≡ Ok said

-- the events of a drill
unfoldable pub drill_events : ℕ → List Event
drill_events number = flat_map events_of (drill_lines number)
