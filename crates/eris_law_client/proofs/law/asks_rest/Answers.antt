use Rattle.eris_law_client.proofs.Asking.{ask_rests, named_shards, sent_so}
use Rattle.eris_law_client.proofs.Origins.{ask_submitted, body_origin, commit_origin}
use Rattle.eris_law_client.proofs.law.asks_rest.Goals as goal

pub returns-clause-sent : goal.returns-clause-sent
returns-clause-sent c = sent_so

pub returns-clause-asks : goal.returns-clause-asks
returns-clause-asks c = ask_rests

pub returns-clause-shards : goal.returns-clause-shards
returns-clause-shards c = named_shards

pub returns-clause-submitted : goal.returns-clause-submitted
returns-clause-submitted c = ask_submitted

pub returns-clause-bodies : goal.returns-clause-bodies
returns-clause-bodies c = body_origin

pub returns-clause-commits : goal.returns-clause-commits
returns-clause-commits c = commit_origin
