-- THE TRACE OF A SCRIPT: its head; each line that says something, and under it the steps that it says; the packets that wait in
-- the end, and those that were lost.
use Rattle.std.specs.Prelude.{ℕ, ◌+◌, Bool, Option, Some, None, Ok, Err, List, [], ◌∷◌, ◌++◌, slice_get}
use Rattle.std.specs.List.{flat_map}
use Rattle.eris_base.specs.declared.ids.Node.{Node}
use Rattle.eris_base.specs.ConfigLimits.{ConfigValue}
use Rattle.eris_msg.specs.declared.outgoing.Outgoing.{Outgoing}
use Rattle.eris_grammar.specs.declared.line.Line.{Line}
use Rattle.eris_grammar.specs.declared.line.Line.TheVariants as line
use Rattle.eris_grammar.specs.Headers.{header_of}
use Rattle.eris_grammar.specs.LineForms.{line_of}
use Rattle.eris_grammar.specs.Scripts.{events_of}
use Rattle.eris_words.specs.Cuts.{lines}
use Rattle.eris_trace.specs.ItemText.{end_text, head_text, item_text}
use Rattle.eris_trace.specs.Items.{Item, Moment, Said, Waiting, Lost, first_moment, items_of, moment_after_all}

-- a line that says nothing isn't told
abbrev pub line_items : ℕ → List ℕ → Line → List Item
line_items number text line.Skip = []
line_items number text (line.One event) = Said number text ∷ []
line_items number text (line.Flow times) = Said number text ∷ []
line_items number text (line.Lose times) = Said number text ∷ []

-- a packet by its number, if it was sent
abbrev pub packet_item : (ℕ → Node → Item) → ℕ → Option Outgoing → List Item
packet_item made number None = []
packet_item made number (Some one) = made number one.to ∷ []

-- the packets that wait, and those that were lost
unfoldable pub end_items : Moment → List Item
end_items moment =
    flat_map (λ number. packet_item Waiting number (slice_get moment.world.sent number)) moment.world.waiting
    ++ flat_map (λ number. packet_item Lost number (slice_get moment.world.sent number)) moment.lost

-- what a line says and does
unfoldable pub said_items : ConfigValue → ℕ → List ℕ → Moment → Line → List Item
said_items config number text moment said = line_items number text said ++ items_of config moment (events_of said)

-- lines, of which the first has this number, and what is left at their end
unfoldable pub lines_items : ℕ → ConfigValue → ℕ → Moment → List (List ℕ) → List Item
lines_items version config number moment [] = end_items moment
lines_items version config number moment (text ∷ texts) = elim (line_of version text) [
  | Ok said ↦ said_items config number text moment said ++ lines_items version config (number + 1) (moment_after_all config moment (events_of said)) texts
  | Err reason ↦ []
]

abbrev pub trace_in : List (List ℕ) → List Item
trace_in [] = []
trace_in (first ∷ texts) = elim (header_of first) [
  | Ok header ↦ lines_items header.version header.config 2 (first_moment header.config) texts
  | Err reason ↦ []
]

-- THE ITEMS OF A SCRIPT'S TRACE, from its bytes
unfoldable pub trace_items : List ℕ → List Item
trace_items bytes = trace_in (lines bytes)

abbrev pub text_in : Bool → List (List ℕ) → List ℕ
text_in frames [] = []
text_in frames (first ∷ texts) = elim (header_of first) [
  | Ok header ↦ head_text header.config
      ++ flat_map (item_text frames) (lines_items header.version header.config 2 (first_moment header.config) texts) ++ end_text
  | Err reason ↦ []
]

-- THE TEXT OF A SCRIPT'S TRACE, with the packets' frames or without
unfoldable pub trace_text : Bool → List ℕ → List ℕ
trace_text frames bytes = text_in frames (lines bytes)
