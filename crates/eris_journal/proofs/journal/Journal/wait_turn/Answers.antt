use Rattle.std.proofs.Common.{rules, ap, sym, ◌∙◌}
use Rattle.eris_journal.specs.Parts.{part_of, Grows, IsStuck}
use Rattle.eris_journal.proofs.Steps.{takes_turn, taken}
use Rattle.eris_journal.proofs.journal.Journal.wait_turn.Goals as goal

pub compare_exchange-requires : goal.compare_exchange-requires
compare_exchange-requires g c = let i = c.loop.invariant in let f = c.requires.free in (
  i.0 ∙ c.requires.own ∙ sym (ap (λ j. j.table) c.self.view_is),
  search rules,
  takes_turn _ _ _ _ _ _ _ f.0 _ (i.2 ∙ f.1),
)

pub returns-then-compare_exchange-eq0-clause-view : goal.returns-then-compare_exchange-eq0-clause-view
returns-then-compare_exchange-eq0-clause-view g c =
    let f = c.requires.free in
    let l = g.L.Legal in
    let t = taken l.legal (Grows l.entries l.fetches l.refused) (part_of l.entries l.fetches l.refused) (IsStuck l.refused) f.0 _ _ _ (c.loop.invariant.2 ∙ f.1) c.compare_exchange.ensures.2 c.if-compare_exchange-eq0.true in
    (f.0, t.0, f.1, t.1, t.2)
