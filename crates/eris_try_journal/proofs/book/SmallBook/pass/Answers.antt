use Rattle.std.proofs.Common.{rules, ◌≡◌, None, sym, subst}
use Rattle.eris_journal.specs.Packets.{pending}
use Rattle.eris_try_journal.specs.Bytes.{sends}
use Rattle.eris_try_journal.proofs.Index.{index_passed}
use Rattle.eris_try_journal.proofs.book.SmallBook.pass.Goals as goal

pub invariant_of-self : goal.invariant_of-self
invariant_of-self c = let i = c.self.inside in
    index_passed i.entries.items i.fetches.items i.pairs.items i.cursors c.self.invariant c.args.node c.len.result (search rules) (subst (λ v. pending sends v.entries v.fetches c.args.node ≡ None) (sym c.self.view_is) c.requires) (search rules)
