use Rattle.eris_log.specs.Places.{with_place}
use Rattle.eris_log.specs.Laws.Places.{marks_kept}
use Rattle.eris_log.proofs.places.add.Goals as goal

pub returns-clause-marks : goal.returns-clause-marks
unfolding with_place
returns-clause-marks c = marks_kept c.include.result _ _ c.args.place c.include.ensures.ok c.include.ensures.err
