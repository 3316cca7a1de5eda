use Rattle.std.proofs.Common.{◌+◌, ℕ, Some, None, is_some, cond, arith, sym, ap, ◌∙◌}
use Rattle.std.proofs.lemmas.Bool.{cond-true, cond-false}
use Rattle.std.specs.Option.{option_map}
use Rattle.std.specs.Ordering.{nat_cmp}
use Rattle.eris_base.proofs.Orders.{nat_tie}
use Rattle.eris_txn.specs.declared.packet.Packet.{Packet}
use Rattle.eris_log.proofs.Walks.{head_at-empty, head_at-first}
use Rattle.eris_log.proofs.walk.first_packet.Goals as goal

pub returns-in_default-clause-packet : goal.returns-in_default-clause-packet
returns-in_default-clause-packet c =
    ap (option_map (λ (pair : ℕ × Packet). pair.1)) (sym (head_at-empty (λ (pair : ℕ × Packet). pair.0) nat_cmp c.args.held.now (c.args.number + 1) (omega (arith, c.in_default.len_below))))

pub returns-then-is_next-clause-packet : goal.returns-then-is_next-clause-packet
returns-then-is_next-clause-packet c =
    let first = c.first-item.result in
    let tie = sym (nat_tie first.0 (c.args.number + 1)) ∙ sym c.is_next.ensures.exact ∙ c.if-is_next.true in
    ap (option_map (λ (pair : ℕ × Packet). pair.1))
    (sym (head_at-first (λ (pair : ℕ × Packet). pair.0) nat_cmp c.args.held.now first (c.args.number + 1) (omega (arith, c.in-len1-up.len_at_least)) c.first-item.is ∙ cond-true _ (Some first) None tie))

pub returns-else-is_next-clause-packet : goal.returns-else-is_next-clause-packet
returns-else-is_next-clause-packet c =
    let first = c.first-item.result in
    let apart = sym (nat_tie first.0 (c.args.number + 1)) ∙ sym c.is_next.ensures.exact ∙ c.if-is_next.false in
    ap (option_map (λ (pair : ℕ × Packet). pair.1))
    (sym (head_at-first (λ (pair : ℕ × Packet). pair.0) nat_cmp c.args.held.now first (c.args.number + 1) (omega (arith, c.in-len1-up.len_at_least)) c.first-item.is ∙ cond-false _ (Some first) None apart))

pub returns-in_default-clause-taken : goal.returns-in_default-clause-taken
returns-in_default-clause-taken c =
    ap is_some (sym (head_at-empty (λ (pair : ℕ × Packet). pair.0) nat_cmp c.args.held.now (c.args.number + 1) (omega (arith, c.in_default.len_below))))

pub returns-then-is_next-clause-taken : goal.returns-then-is_next-clause-taken
returns-then-is_next-clause-taken c =
    let first = c.first-item.result in
    let tie = sym (nat_tie first.0 (c.args.number + 1)) ∙ sym c.is_next.ensures.exact ∙ c.if-is_next.true in
    ap is_some
    (sym (head_at-first (λ (pair : ℕ × Packet). pair.0) nat_cmp c.args.held.now first (c.args.number + 1) (omega (arith, c.in-len1-up.len_at_least)) c.first-item.is ∙ cond-true _ (Some first) None tie))

pub returns-else-is_next-clause-taken : goal.returns-else-is_next-clause-taken
returns-else-is_next-clause-taken c =
    let first = c.first-item.result in
    let apart = sym (nat_tie first.0 (c.args.number + 1)) ∙ sym c.is_next.ensures.exact ∙ c.if-is_next.false in
    ap is_some
    (sym (head_at-first (λ (pair : ℕ × Packet). pair.0) nat_cmp c.args.held.now first (c.args.number + 1) (omega (arith, c.in-len1-up.len_at_least)) c.first-item.is ∙ cond-false _ (Some first) None apart))
