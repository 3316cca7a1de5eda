use Rattle.std.proofs.Common.{ap, sym, ◌∙◌, ◌∷◌, [], Some, None, subst}
use Rattle.atomic_table.specs.Table.{rest}
use Rattle.eris_journal.specs.Parts.{part_of, Grows, IsStuck}
use Rattle.eris_journal.specs.Turns.{holding_view, noting, Tells}
use Rattle.eris_journal.proofs.Steps.{one_out, same_out}
use Rattle.eris_journal.proofs.journal.Journal.take.Goals as goal

pub exchange-requires : goal.exchange-requires
exchange-requires g c = let w = c.wait_turn.ensures in (
  w.seat.0 ∙ c.requires.own ∙ sym (ap (λ j. j.table) c.self.view_is),
  (Some w.view.1, one_out 0 (Some w.view.1) _ (ap (λ m. m.1) w.view.3)),
)

pub returns-clause-view : goal.returns-clause-view
returns-clause-view g c =
    let w = c.wait_turn.ensures.view in
    let x = c.exchange.ensures in
    let l = g.L.Legal in
    let same = same_out w.1 c.in-Some.book _ _ (ap (λ m. m.1) w.3) x.2 c.in-Some.is in (
      w.0,
      w.2,
      x.3 ∙ ap (λ m. (m.0, (0, None) ∷ rest m.1)) w.3 ∙ ap (λ b. (holding_view (noting w.0 b) b, (0, None) ∷ [])) same,
      subst (λ b. Tells l.legal (Grows l.entries l.fetches l.refused) (part_of l.entries l.fetches l.refused) (IsStuck l.refused) w.0 b) same w.4,
    )
