use Rattle.eris_serial.proofs.CountedStands.{read_has_own, refusal_has_own, whole_has_own}
use Rattle.eris_serial.proofs.StampedLater.{own_packet, own_there}
use Rattle.eris_serial.proofs.bridges.counted_stands.Goals as goal

pub returns-clause-read : goal.returns-clause-read
returns-clause-read c = read_has_own

pub returns-clause-whole : goal.returns-clause-whole
returns-clause-whole c = whole_has_own

pub returns-clause-refused : goal.returns-clause-refused
returns-clause-refused c = refusal_has_own

pub returns-clause-is_there : goal.returns-clause-is_there
returns-clause-is_there c = own_there

pub returns-clause-found : goal.returns-clause-found
returns-clause-found c = own_packet
