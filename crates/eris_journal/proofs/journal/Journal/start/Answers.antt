use Rattle.std.proofs.Common.{rules, refl, sym}
use Rattle.eris_journal.proofs.Steps.{opens}
use Rattle.eris_journal.proofs.Books.{grows_same}
use Rattle.eris_journal.proofs.journal.Journal.start.Goals as goal

pub new-requires : goal.new-requires
new-requires g c = let l = g.L.Legal in opens _ _ _ _ _ _ _ c.args.book refl (search rules) (sym c.of-about.ensures) c.requires.legal (grows_same l.legal l.entries l.fetches l.refused _ _ (sym c.of-about.ensures))
