use Rattle.eris_serial.proofs.JoinedShares.{read_joined, whole_joined}
use Rattle.eris_serial.proofs.bridges.joined_is_evidence.Goals as goal

pub returns-clause-whole : goal.returns-clause-whole
returns-clause-whole c = whole_joined

pub returns-clause-read : goal.returns-clause-read
returns-clause-read c = read_joined
