use Rattle.std.proofs.Common.{rules, arith, ◌≤◌, ◌<◌, ◌+◌, length}
use Rattle.eris_try_journal.proofs.Places.{at_node, one_more, none_there}
use Rattle.eris_try_journal.proofs.book.next.Goals as goal

pub returns-then-pairs-place : goal.returns-then-pairs-place
returns-then-pairs-place c = let i = c.loop-place.invariant in let low : c.loop-place.place < length c.args.pairs.now = search rules in
    (i.0, at_node c.args.pairs.now c.loop-place.place c.args.node _ low c.if-pairs-place.true, i.1)

pub loop-place-preserved : goal.loop-place-preserved
loop-place-preserved c = let i = c.loop-place.invariant in let more : c.args.from ≤ c.loop-place.place + 1 = omega (arith, i.0) in
    (more, one_more c.args.pairs.now c.args.from c.loop-place.place c.args.node _ c.if-pairs-place.false i.1)

pub returns : goal.returns
returns c = let end : length c.args.pairs.now ≤ c.loop-place.place = search rules in none_there c.args.pairs.now c.args.from c.loop-place.place c.args.node end c.loop-place.invariant.1
