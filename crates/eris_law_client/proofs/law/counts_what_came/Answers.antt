use Rattle.eris_law_client.proofs.Counting.{fitting_test}
use Rattle.eris_law_client.proofs.Origins.{reply_came, voter_known}
use Rattle.eris_law_client.proofs.Standing.{known_counted, known_votes, known_whole}
use Rattle.eris_law_client.proofs.law.counts_what_came.Goals as goal

pub returns-clause-votes : goal.returns-clause-votes
returns-clause-votes c = known_votes

pub returns-clause-counted : goal.returns-clause-counted
returns-clause-counted c = known_counted

pub returns-clause-whole : goal.returns-clause-whole
returns-clause-whole c = known_whole

pub returns-clause-fitting : goal.returns-clause-fitting
returns-clause-fitting c = λ me inputs number id body vote is. fitting_test me body vote is.fits

pub returns-clause-voter : goal.returns-clause-voter
returns-clause-voter c = voter_known

pub returns-clause-reply : goal.returns-clause-reply
returns-clause-reply c = reply_came
