use Rattle.std.proofs.Common.{◌≡◌, ◌+◌, true, ◌++◌, length}
use Rattle.eris_log.specs.Sorted.{ascends, union}
use Rattle.eris_log.proofs.sorted.merged.Given as goal

abbrev pub invariant-loop-item : goal.invariant-loop-item
invariant-loop-item g l =
    (l.made ++ union g.T.Keyed.key_of g.T.Key.Ord.cmp l.left l.right ≡ union g.T.Keyed.key_of g.T.Key.Ord.cmp l.fn.some l.fn.others)
    × (ascends g.T.Keyed.key_of g.T.Key.Ord.cmp l.left ≡ true)
    × (ascends g.T.Keyed.key_of g.T.Key.Ord.cmp l.right ≡ true)

abbrev pub decreases-loop-item : goal.decreases-loop-item
decreases-loop-item g l = length l.left + length l.right
