use Rattle.eris_log.specs.Places.{with_places}
use Rattle.eris_log.specs.Laws.Places.{marks_added}
use Rattle.eris_log.proofs.places.add_all.Goals as goal

pub returns-clause-marks : goal.returns-clause-marks
unfolding with_places
returns-clause-marks c = marks_added c.include_all.result _ _ _ c.include_all.ensures.ok c.include_all.ensures.err
