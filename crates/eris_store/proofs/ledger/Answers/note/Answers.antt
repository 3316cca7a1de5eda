use Rattle.std.proofs.Common.{refl}
use Rattle.std.proofs.lemmas.Result.{on_ok_weaker}
use Rattle.eris_store.specs.Ledgers.{AnswersValue}
use Rattle.eris_store.proofs.Noted.{noted_conclude, noted_prelim, noted_whole}
use Rattle.eris_store.proofs.ledger.Answers.note.Goals as goal

pub returns-in-Whole : goal.returns-in-Whole
returns-in-Whole c =
    let old : AnswersValue = record { whole = c.self.inside.whole; prelim = c.self.inside.prelim; conclude = c.self.inside.conclude } in
    let new : AnswersValue = record { whole = c.put.new.self; prelim = c.self.inside.prelim; conclude = c.self.inside.conclude } in
    rw (← c.self.view_is, c.in-Whole.is)
    (on_ok_weaker c.put.result (λ put. noted_whole old new c.args.id c.args.answer put refl refl) c.put.ensures)

pub returns-in-Prelim : goal.returns-in-Prelim
returns-in-Prelim c =
    let old : AnswersValue = record { whole = c.self.inside.whole; prelim = c.self.inside.prelim; conclude = c.self.inside.conclude } in
    let new : AnswersValue = record { whole = c.self.inside.whole; prelim = c.put-in-Prelim.new.self; conclude = c.self.inside.conclude } in
    rw (← c.self.view_is, c.in-Prelim.is)
    (on_ok_weaker c.put-in-Prelim.result (λ put. noted_prelim old new c.args.id c.args.answer refl put refl) c.put-in-Prelim.ensures)

pub returns-in-Conclude : goal.returns-in-Conclude
returns-in-Conclude c =
    let old : AnswersValue = record { whole = c.self.inside.whole; prelim = c.self.inside.prelim; conclude = c.self.inside.conclude } in
    let new : AnswersValue = record { whole = c.self.inside.whole; prelim = c.self.inside.prelim; conclude = c.put-in-Conclude.new.self } in
    rw (← c.self.view_is, c.in-Conclude.is)
    (on_ok_weaker c.put-in-Conclude.result (λ put. noted_conclude old new c.args.id c.args.answer refl refl put) c.put-in-Conclude.ensures)
