use Rattle.std.proofs.Common.{Some, sym, subst}
use Rattle.eris_law_live.specs.LiveBooks.{IsLiveBook}
use Rattle.eris_live_book.proofs.LegalLaws.{refused_is_legal}
use Rattle.eris_live_book.proofs.book.LiveBook.refuse.Goals as goal

pub returns-clause-legal : goal.returns-clause-legal
returns-clause-legal c =
    subst (λ v. IsLiveBook v.entries v.fetches (Some (c.args.node, (c.args.entry, c.args.fault)))) (sym c.self.view_is)
    (refused_is_legal c.args.self.now c.args.node c.args.entry c.requires.legal c.requires.free c.requires.step c.args.fault c.requires.met)
