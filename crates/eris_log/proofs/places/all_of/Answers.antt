use Rattle.eris_log.specs.Places.{with_places}
use Rattle.eris_log.specs.Laws.Places.{marks_joined}
use Rattle.eris_log.proofs.places.all_of.Goals as goal

pub returns-clause-marks : goal.returns-clause-marks
unfolding with_places
returns-clause-marks c = marks_joined c.merged.result _ _ c.merged.ensures.items
