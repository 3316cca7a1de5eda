use Rattle.std.proofs.Common.{ap, ◌∙◌, ℕ, List, arith}
use Rattle.std.proofs.lemmas.List.{nil_from_length}
use Rattle.eris_check.specs.FullLines.{full_lines}
use Rattle.eris_check.specs.TextReading.{behind_title}
use Rattle.eris_check.proofs.FullLineLaws.{no_lines}
use Rattle.eris_check.proofs.parse.read_behind_title.Goals as goal

pub returns-then-is_empty : goal.returns-then-is_empty
returns-then-is_empty c = ap (λ (z : List ℕ). behind_title (full_lines z)) (nil_from_length _ (grind arith)) ∙ ap behind_title no_lines
