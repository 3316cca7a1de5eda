-- How a drill is written: as a script of version 1.
use Rattle.std.specs.Prelude.{ℕ, List, [], ◌∷◌, ◌++◌, codes}
use Rattle.std.specs.List.{flat_map}
use Rattle.eris_grammar.specs.declared.line.Line.{Line}
use Rattle.eris_grammar.specs.declared.line.Line.TheVariants.{Skip, One, Flow, Lose}
use Rattle.eris_words.specs.Decimal.{decimal}
use Rattle.eris_grammar.specs.EventText.{event_text}
use Rattle.eris_drill.specs.DrillLines.{drill_lines}

-- a line without the LF that ends it
abbrev pub line_text : Line → List ℕ
line_text Skip = []
line_text (One event) = event_text 1 event
line_text (Flow times) = codes "flow " ++ decimal times
line_text (Lose times) = codes "lose " ++ decimal times

abbrev pub ended : List ℕ → List ℕ
ended text = text ++ 10 ∷ []

abbrev pub lines_text : List Line → List ℕ
lines_text lines = flat_map (λ line. ended (line_text line)) lines

-- the header, and the lines
unfoldable pub drill_text : ℕ → List ℕ
drill_text number = ended (codes "eris 1 4 1 8") ++ lines_text (drill_lines number)
