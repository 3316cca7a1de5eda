use Rattle.std.proofs.Common.{◌≡◌, length}
use Rattle.eris_base.proofs.copying.same_items.Given as goal

abbrev pub invariant-loop-left : goal.invariant-loop-left
invariant-loop-left g l = (l.left ≡ l.right → l.fn.some ≡ l.fn.others) × (l.fn.some ≡ l.fn.others → l.left ≡ l.right)

abbrev pub decreases-loop-left : goal.decreases-loop-left
decreases-loop-left g l = length l.left
