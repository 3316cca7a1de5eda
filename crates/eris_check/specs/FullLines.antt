-- How the bytes of a report are cut into lines.
use Rattle.std.specs.Prelude.{ℕ, ◌-◌, ◌==◌, Option, Some, None, List, [], ◌∷◌, length, take, if◌then◌else◌}
use Rattle.std.specs.List.{onto_first, slice_index}

-- bytes are cut behind each LF, so a line has the LF that ends it; what stands behind the last LF is a line too, unless it is empty
unfoldable pub full_lines : List ℕ → List (List ℕ)
full_lines [] = []
full_lines (byte ∷ bytes) = if byte == 10 then (byte ∷ []) ∷ full_lines bytes else onto_first byte (full_lines bytes)

-- a line without the LF that ends it; None where no LF does
abbrev pub text_of : List ℕ → Option (List ℕ)
text_of line = if slice_index line (length line - 1) == 10 then Some (take (length line - 1) line) else None
