use Rattle.std.proofs.Common.{◌≡◌, true, Result, Ok, Err, OnOk, OnErr, List, sym, ap, ◌∙◌}
use Rattle.std.specs.Cmp.{IsTotalOrder}
use Rattle.std.specs.declared.cmp.Ordering.{Ordering}
use Rattle.eris_log.specs.Sorted.{ascends, with_item}
use Rattle.eris_log.specs.Laws.Sorted.{with_item-found, with_item-free, ascends-with_item}
use Rattle.eris_log.proofs.sorted.include.Goals as goal

pub returns-in-Ok-clause-ok : goal.returns-in-Ok-clause-ok
returns-in-Ok-clause-ok g c =
    let found = rw (c.as_slice.ensures, c.key.ensures) at c.in-Ok.ensures.found in
    sym (with_item-found g.T.Keyed.key_of g.met.T.Key.Ord.total _ c.args.item _ found)

pub returns-in-Err-clause-ok : goal.returns-in-Err-clause-ok
returns-in-Err-clause-ok g c =
    let free = rw (c.as_slice.ensures, c.key.ensures) at c.in-Err.ensures.free in
    rw (with_item-free g.T.Keyed.key_of g.met.T.Key.Ord.total _ c.args.item _ free) c.insert.ensures.ok

either : {A E X K : Type 0} (key : X → K) {cmp : K → K → Ordering} → IsTotalOrder cmp → (r : Result A E) (old new : List X) (item : X)
    → OnOk r (new ≡ with_item key cmp old item) → OnErr r (new ≡ old) → ascends key cmp old ≡ true → ascends key cmp new ≡ true
either key {cmp} o (Ok a) old new item made same h = ap (ascends key cmp) made ∙ ascends-with_item key o old item h
either key {cmp} o (Err e) old new item made same h = ap (ascends key cmp) same ∙ h

pub returns-in-Err-clause-ascends : goal.returns-in-Err-clause-ascends
returns-in-Err-clause-ascends g c =
    either g.T.Keyed.key_of g.met.T.Key.Ord.total c.insert.result _ _ c.args.item (returns-in-Err-clause-ok g c) c.insert.ensures.err c.requires
