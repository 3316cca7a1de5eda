use Rattle.eris_codec.proofs.PartOrder.{held_read}
use Rattle.eris_codec.proofs.read_parts.read_held.Goals as goal

pub returns-clause-fits : goal.returns-clause-fits
returns-clause-fits c = held_read _ _ _ c.in_ok-held.ensures
