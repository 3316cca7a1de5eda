use Rattle.std.proofs.Common.{◌≡◌, ◌++◌}
use Rattle.eris_store.proofs.maps.copied.Given as goal

abbrev pub invariant-loop-key : goal.invariant-loop-key
invariant-loop-key g l = l.made.entries ++ l.key-iterator ≡ l.from.entries
