use Rattle.std.proofs.Common.{◌≡◌, ◌++◌, length}
use Rattle.std.specs.Prelude.{option_map}
use Rattle.eris_grammar.specs.Fields.{read_pairs}
use Rattle.eris_grammar.proofs.hex.read_pairs.Given as goal

abbrev pub invariant-loop-high : goal.invariant-loop-high
invariant-loop-high l = option_map (λ more. l.bytes ++ more) (read_pairs l.rest) ≡ read_pairs l.fn.digits

abbrev pub decreases-loop-high : goal.decreases-loop-high
decreases-loop-high l = length l.rest
