use Rattle.std.proofs.Common.{◌≡◌, take}
use Rattle.eris_base.proofs.copying.RowDup.copy.Given as goal

abbrev pub invariant-loop-item : goal.invariant-loop-item
invariant-loop-item g l = (l.made ≡ take l.item-index l.items) × (l.items ≡ l.fn.self)
