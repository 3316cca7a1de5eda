use Rattle.eris_law_worker.proofs.Delivering.{event_delivers, one_undelivered}
use Rattle.eris_law_worker.proofs.law.undelivered_packets_are_kept.Goals as goal

pub returns-clause-packet : goal.returns-clause-packet
returns-clause-packet c = one_undelivered

pub returns-clause-event : goal.returns-clause-event
returns-clause-event c = event_delivers
