use Rattle.eris_law_live.proofs.Growing.{packets_sent, sent_to}
use Rattle.eris_law_live.proofs.Replays.{book_sent}
use Rattle.eris_law_live.proofs.law.books_have_what_was_sent.Goals as goal

pub returns-clause-world : goal.returns-clause-world
returns-clause-world c = book_sent

pub returns-clause-packets : goal.returns-clause-packets
returns-clause-packets c = packets_sent

pub returns-clause-one : goal.returns-clause-one
returns-clause-one c = sent_to
