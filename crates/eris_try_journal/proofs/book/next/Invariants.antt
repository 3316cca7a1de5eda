use Rattle.std.proofs.Common.{◌≡◌, ◌≢◌, ◌≤◌, ◌<◌, ◌-◌, ℕ, Some, slice_get, length}
use Rattle.eris_try_journal.proofs.book.next.Given as goal

abbrev pub invariant-loop-place : goal.invariant-loop-place
invariant-loop-place l = (l.fn.from ≤ l.place) × ((place : ℕ) (pair : ℕ × ℕ) → l.fn.from ≤ place → place < l.place → slice_get l.pairs place ≡ Some pair → pair.0 ≢ l.fn.node)

abbrev pub decreases-loop-place : goal.decreases-loop-place
decreases-loop-place l = length l.pairs - l.place
