use Rattle.eris_serial.proofs.StampedLater.{behind_below, behind_old, later_from}
use Rattle.eris_serial.proofs.bridges.stamped_later.Goals as goal

pub returns-clause-beginning : goal.returns-clause-beginning
returns-clause-beginning c = behind_old

pub returns-clause-sorted : goal.returns-clause-sorted
returns-clause-sorted c = behind_below

pub returns-clause-pairs : goal.returns-clause-pairs
returns-clause-pairs c = later_from
