use Rattle.std.proofs.Common.{rules}
use Rattle.std.proofs.lemmas.List.Sorted.{answers_always}
use Rattle.eris_log.specs.Laws.Sorted.{searched}
use Rattle.eris_log.proofs.sorted.place_of.Goals as goal

pub returns-clause-found : goal.returns-clause-found
returns-clause-found g c =
    let facts = c.binary_search_by_key.ensures in
    let by_key = facts.position g.T.Keyed.key_of (answers_always _ _ _ (λ f a r k called. search rules)) in
    (searched g.T.Keyed.key_of g.met.T.Key.Ord.total c.args.items.now c.args.key.now _ c.requires facts.bound by_key).0

pub returns-clause-free : goal.returns-clause-free
returns-clause-free g c =
    let facts = c.binary_search_by_key.ensures in
    let by_key = facts.position g.T.Keyed.key_of (answers_always _ _ _ (λ f a r k called. search rules)) in
    (searched g.T.Keyed.key_of g.met.T.Key.Ord.total c.args.items.now c.args.key.now _ c.requires facts.bound by_key).1
