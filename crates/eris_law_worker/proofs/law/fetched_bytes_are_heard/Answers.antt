use Rattle.eris_law_worker.proofs.Hearing.{heard}
use Rattle.eris_law_worker.proofs.law.fetched_bytes_are_heard.Goals as goal

pub returns : goal.returns
returns c = heard
