use Rattle.std.proofs.Common.{◌≡◌, ◌++◌, ◌≤◌, drop, length}
use Rattle.std.specs.Fmt.{decimal}
use Rattle.eris_words.proofs.number.fill_digits.Given as goal

abbrev pub invariant-loop-rest : goal.invariant-loop-rest
invariant-loop-rest l = record {
  written : decimal l.rest ++ drop l.start l.cells ≡ decimal l.fn.number;
  room : length (decimal l.rest) ≤ l.start;
  within : l.start ≤ 20;
  whole : length l.cells ≡ 20;
}

abbrev pub decreases-loop-rest : goal.decreases-loop-rest
decreases-loop-rest l = l.rest
