use Rattle.eris_store.proofs.Entries.{copied_on}
use Rattle.eris_store.proofs.maps.copied.Goals as goal

pub loop-key-preserved-in_ok-insert : goal.loop-key-preserved-in_ok-insert
loop-key-preserved-in_ok-insert g c =
    copied_on g.K.Ord.cmp g.met.K.Ord.total c.args.from.now.entries c.loop-key.made.entries c.insert.new.self.entries c.loop-key.key-iterator c.next.new.self
    c.in-Some.key.now c.in-Some.value.now c.in_ok-copy.field-0 c.into_iter-key-iterator.ensures.into_iter_gives.5 c.loop-key.invariant c.in-Some.ensures.steps c.in_ok-copy.ensures c.in_ok-insert.ensures.entries

pub loop-key-preserved : goal.loop-key-preserved
loop-key-preserved g c =
    copied_on g.K.Ord.cmp g.met.K.Ord.total c.args.from.now.entries c.loop-key.made.entries c.insert.new.self.entries c.loop-key.key-iterator c.next.new.self
    c.in-Some.key.now c.in-Some.value.now c.in_ok-copy.field-0 c.into_iter-key-iterator.ensures.into_iter_gives.5 c.loop-key.invariant c.in-Some.ensures.steps c.in_ok-copy.ensures c.in_ok-insert.ensures.entries
