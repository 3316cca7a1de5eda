use Rattle.std.proofs.Common.{◌≡◌, List, sym, subst, rules}
use Rattle.eris_base.specs.declared.ids.Place.{Place}
use Rattle.eris_log.specs.PartFacts.{AreMarks}
use Rattle.eris_log.specs.Places.{places_of}
use Rattle.eris_log.specs.Laws.Places.{AreMarks-places_of}
use Rattle.eris_log.proofs.places.places_of.Goals as goal

pub returns-clause-marks : goal.returns-clause-marks
unfolding places_of
returns-clause-marks c =
    let e : c.in_ok-places.places ≡ places_of c.args.stamp.now = search rules in
    subst (λ (places : List Place). AreMarks c.args.stamp.now.epoch places) (sym e) (AreMarks-places_of c.args.stamp.now c.places.ensures.fits)
