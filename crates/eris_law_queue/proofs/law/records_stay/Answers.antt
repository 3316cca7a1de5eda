use Rattle.eris_law_queue.proofs.Staying.{recorded_stays, decided_stays}
use Rattle.eris_law_queue.proofs.law.records_stay.Goals as goal

pub returns-clause-recorded : goal.returns-clause-recorded
returns-clause-recorded c = recorded_stays

pub returns-clause-decided : goal.returns-clause-decided
returns-clause-decided c = decided_stays
