use Rattle.eris_law_live.proofs.Replays.{replay-more}
use Rattle.eris_law_worker.proofs.Hearing.{replay_stays}
use Rattle.eris_law_worker.proofs.law.fetches_change_no_replay.Goals as goal

pub returns-clause-entry : goal.returns-clause-entry
returns-clause-entry c = replay-more

pub returns-clause-packet : goal.returns-clause-packet
returns-clause-packet c = replay_stays
