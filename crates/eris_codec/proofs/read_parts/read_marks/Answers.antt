use Rattle.eris_codec.specs.Parts as p
use Rattle.eris_codec.proofs.PartOrder.{marks_read}
use Rattle.eris_codec.proofs.read_parts.read_marks.Goals as goal

pub returns-clause-fits : goal.returns-clause-fits
unfolding p.places_at
returns-clause-fits c = rw (c.in_ok-places.ensures, c.as_slice.ensures) (marks_read _ _ _ c.in_ok-pairs.ensures c.args.epoch)
