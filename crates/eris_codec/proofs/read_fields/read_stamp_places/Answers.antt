use Rattle.eris_codec.specs.Fields as f
use Rattle.eris_codec.proofs.Chain.{goes_on_given}
use Rattle.eris_codec.proofs.read_fields.read_stamp_places.Goals as goal

pub loop-preserved : goal.loop-preserved
loop-preserved c = rw c.in_ok-push.ensures.ok (goes_on_given f.stamp_place c.loop.places _ c.args.count c.loop.counter _ c.in_ok-place.place _ _ c.as_slice.ensures c.loop-test.true c.in_ok-place.ensures c.loop.invariant)
