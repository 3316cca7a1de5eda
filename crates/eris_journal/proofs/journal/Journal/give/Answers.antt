use Rattle.std.proofs.Common.{rules, ap, sym, ◌∙◌, ◌∷◌, Some, subst, true, false}
use Rattle.atomic_table.specs.Table.{rest}
use Rattle.eris_journal.specs.Parts.{part_of, Grows, IsStuck}
use Rattle.eris_journal.specs.Turns.{MayGive}
use Rattle.eris_journal.proofs.Steps.{gives_turn, released}
use Rattle.eris_journal.proofs.Books.{grows_on, stays_stuck}
use Rattle.eris_journal.proofs.journal.Journal.give.Goals as goal

pub store-requires : goal.store-requires
store-requires g c = let l = g.L.Legal in let h = c.requires.held in let x = c.exchange-was.ensures in (
  x.0 ∙ c.requires.own ∙ sym (ap (λ j. j.table) c.self.view_is),
  search rules,
  gives_turn _ _ _ _ _ (grows_on l.legal l.entries l.fetches l.refused) (stays_stuck l.legal l.entries l.fetches l.refused) _ _ true h.0 h.1 c.args.book _
      (x.3 ∙ ap (λ m. (m.0, (0, Some c.args.book) ∷ rest m.1)) h.2)
      (subst (λ f. MayGive l.legal (Grows l.entries l.fetches l.refused) (part_of l.entries l.fetches l.refused) (IsStuck l.refused) f h.0 h.1 c.args.book) c.if-full.true h.3),
)

pub store-requires-else-full : goal.store-requires-else-full
store-requires-else-full g c = let l = g.L.Legal in let h = c.requires.held in let x = c.exchange-was.ensures in (
  x.0 ∙ c.requires.own ∙ sym (ap (λ j. j.table) c.self.view_is),
  search rules,
  gives_turn _ _ _ _ _ (grows_on l.legal l.entries l.fetches l.refused) (stays_stuck l.legal l.entries l.fetches l.refused) _ _ false h.0 h.1 c.args.book _
      (x.3 ∙ ap (λ m. (m.0, (0, Some c.args.book) ∷ rest m.1)) h.2)
      (subst (λ f. MayGive l.legal (Grows l.entries l.fetches l.refused) (part_of l.entries l.fetches l.refused) (IsStuck l.refused) f h.0 h.1 c.args.book) c.if-full.false h.3),
)

pub returns-then-full-clause-view : goal.returns-then-full-clause-view
returns-then-full-clause-view g c = let l = g.L.Legal in let x = c.exchange-was.ensures in
    λ known found is. released (part_of l.entries l.fetches l.refused) c.args.full true known found c.args.book _ _ (x.3 ∙ ap (λ m. (m.0, (0, Some c.args.book) ∷ rest m.1)) is) c.if-full.true c.store.ensures.2

pub returns-else-full-clause-view : goal.returns-else-full-clause-view
returns-else-full-clause-view g c = let l = g.L.Legal in let x = c.exchange-was.ensures in
    λ known found is. released (part_of l.entries l.fetches l.refused) c.args.full false known found c.args.book _ _ (x.3 ∙ ap (λ m. (m.0, (0, Some c.args.book) ∷ rest m.1)) is) c.if-full.false c.store-else-full.ensures.2
