use Rattle.eris_law_client.proofs.Events.{event_there, txn_by_events}
use Rattle.eris_law_client.proofs.Growing.{event_stays, submit_stays}
use Rattle.eris_law_client.proofs.Numbering.{numbered_at}
use Rattle.eris_law_client.proofs.Standing.{stands_at}
use Rattle.eris_law_client.specs.ClientRuns.{history_to}
use Rattle.eris_law_client.proofs.law.courses_stand.Goals as goal

pub returns-clause-stands : goal.returns-clause-stands
returns-clause-stands c = stands_at

pub returns-clause-numbered : goal.returns-clause-numbered
returns-clause-numbered c = numbered_at

pub returns-clause-submitted : goal.returns-clause-submitted
returns-clause-submitted c = λ me inputs number id txn rest are. txn_by_events id (history_to me inputs number) rest txn are

pub returns-clause-there : goal.returns-clause-there
returns-clause-there c = event_there

pub returns-clause-event_stays : goal.returns-clause-event_stays
returns-clause-event_stays c = event_stays

pub returns-clause-submit_stays : goal.returns-clause-submit_stays
returns-clause-submit_stays c = submit_stays
