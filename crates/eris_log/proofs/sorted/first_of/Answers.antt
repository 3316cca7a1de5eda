use Rattle.std.proofs.Common.{arith, sym}
use Rattle.eris_log.specs.Laws.Sorted.{front, no_items, starts_left, starts_right, starts_less, starts_equal, starts_greater}
use Rattle.eris_log.proofs.sorted.first_of.Goals as goal

pub returns-in-empty-clause-next : goal.returns-in-empty-clause-next
returns-in-empty-clause-next g c =
    starts_right g.T.Keyed.key_of g.met.T.Key.Ord.total _ _ _ _
    (no_items _ (omega (arith, c.in-empty.len_below)))
    (front _ _ (omega (arith, c.in-len1-up-right.len_at_least)) c.other-item.is)
    c.requires.second

pub returns-in-empty-right-2-clause-next : goal.returns-in-empty-right-2-clause-next
returns-in-empty-right-2-clause-next g c =
    starts_left g.T.Keyed.key_of g.met.T.Key.Ord.total _ _ _ _
    (front _ _ (omega (arith, c.in-len1-up.len_at_least)) c.one-item.is)
    (no_items _ (omega (arith, c.in-empty-right-2.len_below)))
    c.requires.first

pub returns-in-Less-clause-next : goal.returns-in-Less-clause-next
returns-in-Less-clause-next g c =
    starts_less g.T.Keyed.key_of g.met.T.Key.Ord.total _ _ _ _ _ _
    (front _ _ (omega (arith, c.in-len1-up.len_at_least)) c.one-item.is)
    (front _ _ (omega (arith, c.in-len1-up-right-2.len_at_least)) c.other-item-in-len1-up.is)
    c.requires.first c.requires.second
    (rw (← c.key.ensures, ← c.key-in-len1-up-right-2.ensures) (sym c.in-Less.ensures))

pub returns-in-Equal-clause-next : goal.returns-in-Equal-clause-next
returns-in-Equal-clause-next g c =
    starts_equal g.T.Keyed.key_of g.met.T.Key.Ord.total _ _ _ _ _ _
    (front _ _ (omega (arith, c.in-len1-up.len_at_least)) c.one-item.is)
    (front _ _ (omega (arith, c.in-len1-up-right-2.len_at_least)) c.other-item-in-len1-up.is)
    c.requires.first c.requires.second
    (rw (← c.key.ensures, ← c.key-in-len1-up-right-2.ensures) (sym c.in-Equal.ensures))

pub returns-clause-next : goal.returns-clause-next
returns-clause-next g c =
    starts_greater g.T.Keyed.key_of g.met.T.Key.Ord.total _ _ _ _ _ _
    (front _ _ (omega (arith, c.in-len1-up.len_at_least)) c.one-item.is)
    (front _ _ (omega (arith, c.in-len1-up-right-2.len_at_least)) c.other-item-in-len1-up.is)
    c.requires.first c.requires.second
    (rw (← c.key.ensures, ← c.key-in-len1-up-right-2.ensures) (sym c.in-Greater.ensures))
