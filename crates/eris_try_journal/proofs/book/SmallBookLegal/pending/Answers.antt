use Rattle.std.proofs.Common.{rules, ◌≡◌, ◌≤◌, ◌<◌, None, Option, ℕ, sym, subst, slice_index}
use Rattle.eris_journal.specs.Packets.{pending}
use Rattle.eris_try_journal.specs.Bytes.{sends, IsNext}
use Rattle.eris_try_journal.proofs.Index.{outside, next_is_pending}
use Rattle.eris_try_journal.proofs.book.SmallBookLegal.pending.Goals as goal

pub returns-then-node-ge-NODES : goal.returns-then-node-ge-NODES
returns-then-node-ge-NODES c = let i = c.self.inside in let above : 16 ≤ c.args.node = search rules in
    subst (λ v. ◌≡◌ {A = Option ℕ} None (pending sends v.entries v.fetches c.args.node)) c.self.view_is (sym (outside i.entries.items i.fetches.items i.pairs.items i.cursors c.self.invariant c.args.node above))

pub returns : goal.returns
returns c = let i = c.self.inside in let low : c.args.node < 16 = search rules in
    subst (λ v. c.next.result ≡ pending sends v.entries v.fetches c.args.node) c.self.view_is
    (next_is_pending i.entries.items i.fetches.items i.pairs.items i.cursors c.self.invariant c.args.node low c.next.result
    (subst (λ pairs. IsNext pairs c.args.node (slice_index i.cursors c.args.node) c.next.result) c.as_slice-pairs.ensures.value c.next.ensures))
