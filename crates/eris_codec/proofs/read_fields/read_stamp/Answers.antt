use Rattle.eris_codec.proofs.StampOrder.{stamp_places_read}
use Rattle.eris_codec.proofs.read_fields.read_stamp.Goals as goal

pub invariant_of-result : goal.invariant_of-result
invariant_of-result c = stamp_places_read c.in_ok-count.count _ _ _ c.in_ok-count.ensures.least c.in_ok-places.ensures
