use Rattle.eris_live_book.proofs.KeptLaws.{new_kept}
use Rattle.eris_live_book.proofs.LegalLaws.{new_is_legal}
use Rattle.eris_live_book.proofs.book.LiveBook.new.Goals as goal

pub invariant_of-result : goal.invariant_of-result
invariant_of-result c = new_kept c.new.result c.new-2.result c.new.ensures c.new-2.ensures

pub returns-clause-legal : goal.returns-clause-legal
returns-clause-legal c = new_is_legal c.new.result c.new-2.result c.new.ensures c.new-2.ensures
