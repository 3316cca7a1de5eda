use Rattle.eris_codec.proofs.Chain.{goes_on_given}
use Rattle.eris_codec.proofs.read_lists.read_row.Goals as goal

pub loop-preserved : goal.loop-preserved
loop-preserved g c = rw c.in_ok-push.ensures.ok (goes_on_given g.T.Item.codec c.loop.items _ c.args.count c.loop.counter _ c.in_ok-item.item _ _ c.as_slice.ensures c.loop-test.true c.in_ok-item.ensures c.loop.invariant)
