use Rattle.eris_image.proofs.Records.{no_image, one_place}
use Rattle.eris_image.proofs.law.damage_has_one_place.Goals as goal

pub returns-clause-no_image : goal.returns-clause-no_image
returns-clause-no_image c = no_image

pub returns-clause-one : goal.returns-clause-one
returns-clause-one c = one_place
