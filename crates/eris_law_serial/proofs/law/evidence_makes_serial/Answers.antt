use Rattle.eris_law_serial.proofs.OrderOrigins.{origins_of}
use Rattle.eris_law_serial.proofs.Rules.{serial_order}
use Rattle.eris_law_serial.proofs.law.evidence_makes_serial.Goals as goal

pub returns-clause-serial : goal.returns-clause-serial
returns-clause-serial c = serial_order

pub returns-clause-origins : goal.returns-clause-origins
returns-clause-origins c = origins_of
