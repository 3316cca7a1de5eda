use Rattle.eris_law_live.proofs.Owners.{book_live, book_ranged}
use Rattle.eris_law_live.proofs.law.books_have_live_events.Goals as goal

pub returns-clause-kinds : goal.returns-clause-kinds
returns-clause-kinds c = book_live

pub returns-clause-ranges : goal.returns-clause-ranges
returns-clause-ranges c = book_ranged
