use Rattle.eris_law_agreement.proofs.Locality.{local, one_event}
use Rattle.eris_law_agreement.proofs.law.replicas_are_local.Goals as goal

pub returns-clause-one_event : goal.returns-clause-one_event
returns-clause-one_event c = one_event

pub returns-clause-run : goal.returns-clause-run
returns-clause-run c = local
