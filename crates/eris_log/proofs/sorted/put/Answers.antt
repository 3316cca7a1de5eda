use Rattle.std.proofs.Common.{sym, ap, ◌∙◌}
use Rattle.std.proofs.lemmas.Bool.{cond-true}
use Rattle.eris_log.specs.Sorted.{ascends}
use Rattle.eris_log.specs.Laws.Sorted.{with_item-found, with_item-free, ascends-with_item}
use Rattle.eris_log.proofs.sorted.put.Goals as goal

pub returns-in-Ok-clause-item : goal.returns-in-Ok-clause-item
returns-in-Ok-clause-item g c =
    let found = rw (c.as_slice.ensures.value, c.key.ensures) at c.in-Ok.ensures.found in
    sym (with_item-found g.T.Keyed.key_of g.met.T.Key.Ord.total _ c.args.item _ found)

pub returns-in-Err-clause-item : goal.returns-in-Err-clause-item
returns-in-Err-clause-item g c =
    let free = rw (c.as_slice.ensures.value, c.key.ensures) at c.in-Err.ensures.free in
    c.insert.ensures.items
    ∙ cond-true _ _ _ (c.insert.ensures.succeeds c.requires.room)
    ∙ sym (with_item-free g.T.Keyed.key_of g.met.T.Key.Ord.total _ c.args.item _ free)

pub returns-in-Err-clause-ascends : goal.returns-in-Err-clause-ascends
returns-in-Err-clause-ascends g c =
    ap (ascends g.T.Keyed.key_of g.T.Key.Ord.cmp) (returns-in-Err-clause-item g c)
    ∙ ascends-with_item g.T.Keyed.key_of g.met.T.Key.Ord.total _ c.args.item c.requires.ascends
