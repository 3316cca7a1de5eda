use Rattle.std.proofs.Common.{rules, arith, ◌≡◌, ◌+◌, ◌++◌, ◌∷◌, [], Some, sym, ap, ◌∙◌, refl, subst, set, slice_get, vec_len, length}
use Rattle.eris_journal.specs.Packets.{sent, pending}
use Rattle.eris_journal.specs.declared.fetched.Fetched.{Fetched}
use Rattle.eris_try_journal.specs.Bytes.{sends}
use Rattle.eris_try_journal.specs.SmallBooks.{IsIndex}
use Rattle.eris_try_journal.proofs.Index.{pending_at, bytes_at, index_fetched}
use Rattle.eris_try_journal.proofs.book.SmallBookLegal.fetch.Goals as goal

pub index-requires : goal.index-requires
index-requires c =
    let i = c.self.inside in
    let is = subst (λ v. pending sends v.entries v.fetches c.args.node ≡ Some c.in-Some.number) (sym c.self.view_is) (sym c.pending.ensures ∙ c.in-Some.is) in
    let at = pending_at i.entries.items i.fetches.items i.pairs.items i.cursors c.self.invariant c.args.node c.in-Some.number is in
    let same : vec_len i.pairs ≡ length i.pairs.items = search rules in
    omega (arith, same, at.1)

pub overflow_add-self : goal.overflow_add-self
overflow_add-self c =
    let i = c.self.inside in
    let is = subst (λ v. pending sends v.entries v.fetches c.args.node ≡ Some c.in-Some.number) (sym c.self.view_is) (sym c.pending.ensures ∙ c.in-Some.is) in
    let at = pending_at i.entries.items i.fetches.items i.pairs.items i.cursors c.self.invariant c.args.node c.in-Some.number is in
    omega (arith, at.1, at.2)

pub bounds-self-inside-node : goal.bounds-self-inside-node
bounds-self-inside-node c =
    let i = c.self.inside in
    let is = subst (λ v. pending sends v.entries v.fetches c.args.node ≡ Some c.in-Some.number) (sym c.self.view_is) (sym c.pending.ensures ∙ c.in-Some.is) in
    let at = pending_at i.entries.items i.fetches.items i.pairs.items i.cursors c.self.invariant c.args.node c.in-Some.number is in
    at.0

pub invariant_of-self-2 : goal.invariant_of-self-2
invariant_of-self-2 c =
    let i = c.self.inside in
    let is = subst (λ v. pending sends v.entries v.fetches c.args.node ≡ Some c.in-Some.number) (sym c.self.view_is) (sym c.pending.ensures ∙ c.in-Some.is) in
    let packet : Fetched = record { number = c.in-Some.number; message = c.in_ok-kept.kept } in
    let items : c.push.new.self.items ≡ i.fetches.items ++ (c.args.node, packet) ∷ [] = search rules in
    subst (λ l. IsIndex i.entries.items l i.pairs.items (set i.cursors c.args.node (c.in-Some.number + 1))) (sym items)
    (index_fetched i.entries.items i.fetches.items i.pairs.items i.cursors c.self.invariant c.args.node c.in-Some.number packet is refl)

pub returns-clause-bytes : goal.returns-clause-bytes
returns-clause-bytes c =
    let i = c.self.inside in
    let is = subst (λ v. pending sends v.entries v.fetches c.args.node ≡ Some c.in-Some.number) (sym c.self.view_is) (sym c.pending.ensures ∙ c.in-Some.is) in
    let said : c.in_ok-message.message ≡ c.index.result.now.1 ∷ [] = search rules in
    subst (λ v. slice_get (sent sends v.entries) c.in-Some.number ≡ Some (c.args.node, c.in_ok-message.message)) c.self.view_is
    (bytes_at i.entries.items i.fetches.items i.pairs.items i.cursors c.self.invariant c.args.node c.in-Some.number c.index.result.now.1 c.index.result.now is c.index.ensures refl
    ∙ ap (λ m. Some (c.args.node, m)) (sym said))
