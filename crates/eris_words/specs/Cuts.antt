-- How a script's bytes are cut into lines, and a line into words.
use Rattle.std.specs.Prelude.{ℕ, Bool, true, List, [], ◌∷◌, map, ◌==◌, if◌then◌else◌}
use Rattle.std.specs.List.{before_first, onto_first, slice_split}
use Rattle.std.specs.Str.Lines.{strip_carriage_return}

-- a byte before lines: LF ends a line of its own, any other byte begins the first line
abbrev pub with_byte : ℕ → List (List ℕ) → List (List ℕ)
with_byte byte lines = if byte == 10 then [] ∷ lines else onto_first byte lines

-- each LF ends a line; what stands behind the last LF is a line too, unless it is empty
unfoldable pub cut_lines : List ℕ → List (List ℕ)
cut_lines [] = []
cut_lines (byte ∷ bytes) = with_byte byte (cut_lines bytes)

-- one CR at a line's end is taken off
abbrev pub lines : List ℕ → List (List ℕ)
lines bytes = map strip_carriage_return (cut_lines bytes)

-- an empty line and a comment say nothing
abbrev pub is_skipped : List ℕ → Bool
is_skipped [] = true
is_skipped (first ∷ more) = first == 35

abbrev pub is_space : ℕ → Bool
is_space byte = byte == 32

-- a line is cut at each space; two spaces in a row have an empty word between them
unfoldable pub words : List ℕ → List (List ℕ)
words line = slice_split is_space line

abbrev pub first_word : List ℕ → List ℕ
first_word line = before_first is_space line
