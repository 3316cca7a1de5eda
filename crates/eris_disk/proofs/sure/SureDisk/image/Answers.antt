use Rattle.eris_disk.proofs.Acts.{image_may_be_left}
use Rattle.eris_disk.proofs.sure.SureDisk.image.Goals as goal

pub returns-clause-left : goal.returns-clause-left
returns-clause-left c = image_may_be_left c.image.result c.args.fill c.self.inside.book c.args.self.now c.self.view_is c.image.ensures
