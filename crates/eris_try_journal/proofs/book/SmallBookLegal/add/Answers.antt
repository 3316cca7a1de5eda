use Rattle.std.proofs.Common.{rules, arith, ◌≡◌, ◌≤◌, ◌<◌, ◌-◌, ◌++◌, ◌∷◌, [], sym, ap, ◌∙◌, subst, length, length-append}
use Rattle.eris_journal.specs.Packets.{sent}
use Rattle.eris_try_journal.specs.Bytes.{sends}
use Rattle.eris_try_journal.specs.SmallBooks.{IsIndex}
use Rattle.eris_try_journal.proofs.Index.{index_added, sent_length, sent_after}
use Rattle.eris_try_journal.proofs.book.SmallBookLegal.add.Goals as goal

pub invariant_of-self-2 : goal.invariant_of-self-2
invariant_of-self-2 c =
    let i = c.self.inside in
    let entries : c.push_reserved.new.self.items ≡ i.entries.items ++ (c.args.node, c.args.entry) ∷ [] = c.push_reserved.ensures.items ∙ ap (λ l. l ++ (c.args.node, c.args.entry) ∷ []) c.reserve.ensures.items in
    let pairs : c.extend_from_slice.new.self.items ≡ i.pairs.items ++ c.args.entry = search rules in
    let legal : length (sent sends i.entries.items) ≤ i.most = subst (λ v. length (sent sends v.entries) ≤ v.most) (sym c.self.view_is) c.requires.legal in
    let same = sent_length i.entries.items i.fetches.items i.pairs.items i.cursors c.self.invariant in
    let room : length c.args.entry ≤ i.most - length i.pairs.items = search rules in
    let wide : i.most < 4294967296 = search rules in
    let many = length-append i.pairs.items c.args.entry in
    subst (λ es. IsIndex es i.fetches.items c.extend_from_slice.new.self.items i.cursors) (sym entries)
    (subst (λ ps. IsIndex (i.entries.items ++ (c.args.node, c.args.entry) ∷ []) i.fetches.items ps i.cursors) (sym pairs)
    (index_added i.entries.items i.fetches.items i.pairs.items i.cursors c.self.invariant c.args.node c.args.entry c.requires.step (omega (arith, legal, same, room, wide, many))))

pub returns-clause-legal : goal.returns-clause-legal
returns-clause-legal c =
    let i = c.self.inside in
    let entries : c.push_reserved.new.self.items ≡ i.entries.items ++ (c.args.node, c.args.entry) ∷ [] = c.push_reserved.ensures.items ∙ ap (λ l. l ++ (c.args.node, c.args.entry) ∷ []) c.reserve.ensures.items in
    let legal : length (sent sends i.entries.items) ≤ i.most = subst (λ v. length (sent sends v.entries) ≤ v.most) (sym c.self.view_is) c.requires.legal in
    let same = sent_length i.entries.items i.fetches.items i.pairs.items i.cursors c.self.invariant in
    let room : length c.args.entry ≤ i.most - length i.pairs.items = search rules in
    let after = sent_after i.entries.items i.fetches.items i.pairs.items i.cursors c.self.invariant c.args.node c.args.entry in
    let all : length (sent sends (i.entries.items ++ (c.args.node, c.args.entry) ∷ [])) ≤ i.most = omega (arith, legal, same, room, after) in
    subst (λ es. length (sent sends es) ≤ i.most) (sym entries) all
