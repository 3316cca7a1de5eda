-- Scripts that are written line by line: the header, and a line of each event.
use Rattle.std.specs.Prelude.{◌≡◌, ◌⊎◌, ℕ, true, List, [], ◌∷◌, ◌++◌, map}
use Rattle.std.specs.List.{flat_map, join_with_byte}
use Rattle.eris_event.specs.declared.event.Event.{Event}
use Rattle.eris_grammar.specs.declared.header.Header.{Header}
use Rattle.eris_grammar.specs.EventText.{event_text}
use Rattle.eris_grammar.specs.Headers.{header_words, in_limits}

-- lines, each with the LF that ends it
abbrev pub text_of : List (List ℕ) → List ℕ
text_of texts = flat_map (λ text. text ++ 10 ∷ []) texts

-- the header's line, without its LF
abbrev pub header_text : Header → List ℕ
header_text header = join_with_byte 32 (header_words header)

-- a header that a script may have
pub record IsHeader (header : Header) : Type 0 where
  pub known : (header.version ≡ 1) ⊎ (header.version ≡ 2)
  pub fits : in_limits header.version header.config ≡ true

-- THE HEADER AND A LINE OF EACH EVENT
unfoldable pub event_script : Header → List Event → List ℕ
event_script header events = text_of (header_text header ∷ map (event_text header.version) events)
