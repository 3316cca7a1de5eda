use Rattle.eris_law_live.proofs.Growing.{book_adds, book_begins, book_fetches, book_refuses}
use Rattle.eris_law_live.proofs.law.books_grow.Goals as goal

pub returns-clause-empty : goal.returns-clause-empty
returns-clause-empty c = book_begins

pub returns-clause-added : goal.returns-clause-added
returns-clause-added c = book_adds

pub returns-clause-refused : goal.returns-clause-refused
returns-clause-refused c = book_refuses

pub returns-clause-fetched : goal.returns-clause-fetched
returns-clause-fetched c = λ entries fetches refused x book was. book_fetches entries fetches refused x book was
