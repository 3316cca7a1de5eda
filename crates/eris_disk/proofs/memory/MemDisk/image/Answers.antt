use Rattle.std.proofs.Common.{ap}
use Rattle.eris_disk.specs.DiskValues.{MemDiskValue}
use Rattle.eris_disk.proofs.Acts.{image_may_be_left}
use Rattle.eris_disk.proofs.memory.MemDisk.image.Goals as goal

pub returns-clause-left : goal.returns-clause-left
returns-clause-left c =
    image_may_be_left c.image.result c.args.fill c.self.inside.book c.args.self.now.disk (ap (λ (v : MemDiskValue). v.disk) c.self.view_is) c.image.ensures
