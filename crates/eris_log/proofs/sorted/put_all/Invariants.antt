use Rattle.std.proofs.Common.{◌≡◌, ◌≤◌, ◌+◌, true, take, length, vec_len}
use Rattle.std.specs.Prelude.{vec_capacity}
use Rattle.eris_log.specs.Sorted.{ascends, union}
use Rattle.eris_log.proofs.sorted.put_all.Given as goal

abbrev pub invariant-loop-item : goal.invariant-loop-item
invariant-loop-item g l =
    (l.all.items ≡ union g.T.Keyed.key_of g.T.Key.Ord.cmp l.fn.all.items (take l.item-index l.items))
    × (ascends g.T.Keyed.key_of g.T.Key.Ord.cmp l.all.items ≡ true)
    × (vec_len l.all + length l.items ≤ vec_capacity l.all + l.item-index)
