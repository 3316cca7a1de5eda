use Rattle.eris_run.proofs.EventRuns.{can_go_on, takes_event}
use Rattle.eris_run.proofs.line_run.take_event.Goals as goal

pub apply-requires-clause-room : goal.apply-requires-clause-room
apply-requires-clause-room c = can_go_on _ c.requires.room

pub returns-in-Ok-clause-ok : goal.returns-in-Ok-clause-ok
returns-in-Ok-clause-ok c = takes_event _ _ _ c.requires.fine c.in-Ok.ensures.ok c.in-Ok.ensures.stays
