use Rattle.std.proofs.Common.{◌≡◌, ◌++◌}
use Rattle.eris_plain_store.specs.Listings.{listed}
use Rattle.eris_plain_store.proofs.cells.Cells.entries.Given as goal

abbrev pub invariant-loop-key : goal.invariant-loop-key
invariant-loop-key l = listed l.writes ++ l.key-iterator ≡ l.self
