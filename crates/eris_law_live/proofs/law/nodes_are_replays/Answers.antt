use Rattle.eris_law_live.proofs.Growing.{step_is}
use Rattle.eris_law_live.proofs.Replays.{book_replays}
use Rattle.eris_law_live.proofs.law.nodes_are_replays.Goals as goal

pub returns-clause-replayed : goal.returns-clause-replayed
returns-clause-replayed c = book_replays

pub returns-clause-told : goal.returns-clause-told
returns-clause-told c = step_is
