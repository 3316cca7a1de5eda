use Rattle.std.proofs.Common.{◌≡◌, true, List, ◌++◌, ap, sym, ◌∙◌, subst}
use Rattle.std.proofs.lemmas.List.{append-nil}
use Rattle.eris_log.specs.Sorted.{ascends, union}
use Rattle.eris_log.specs.Laws.Sorted.{union-no_items, ascends-union}
use Rattle.eris_log.proofs.sorted.merged.Goals as goal

pub returns-clause-items : goal.returns-clause-items
returns-clause-items g c =
    sym (append-nil c.loop-item.made)
    ∙ ap (λ (left : List g.row.T.Denot). c.loop-item.made ++ left) (sym (union-no_items g.T.Keyed.key_of g.T.Key.Ord.cmp _ _ c.in_default.ensures.none.0 c.in_default.ensures.none.1))
    ∙ c.loop-item.invariant.0

pub returns-clause-ascends : goal.returns-clause-ascends
returns-clause-ascends g c =
    subst (λ (made : List g.row.T.Denot). ascends g.T.Keyed.key_of g.T.Key.Ord.cmp made ≡ true) (sym (returns-clause-items g c))
    (ascends-union g.T.Keyed.key_of g.met.T.Key.Ord.total _ _ c.requires.first)
