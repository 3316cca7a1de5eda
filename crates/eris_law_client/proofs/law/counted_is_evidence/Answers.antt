use Rattle.eris_law_client.proofs.Evident.{event_counted, history_counted}
use Rattle.eris_law_client.proofs.law.counted_is_evidence.Goals as goal

pub returns-clause-counted : goal.returns-clause-counted
returns-clause-counted c = event_counted

pub returns-clause-all : goal.returns-clause-all
returns-clause-all c = history_counted
