use Rattle.std.proofs.Common.{rules, ap, sym, ◌∙◌}
use Rattle.eris_journal.proofs.Steps.{joins_seat}
use Rattle.eris_journal.proofs.journal.Journal.join.Goals as goal

pub join_seat-requires : goal.join_seat-requires
join_seat-requires g c = let h = c.hand.invariant in let s = c.seat.invariant in (
  ap (λ v. v.table) c.hand.view_is ∙ c.requires.hand.0 ∙ sym (ap (λ j. j.table) c.self.view_is),
  ap (λ v. v.table) c.seat.view_is ∙ c.requires.seat.0 ∙ sym (ap (λ j. j.table) c.self.view_is),
  ap (λ m. m.1) s.1,
  search rules,
  joins_seat _ _ _ _ _ _ _ _ _ _ _ _ _ (ap (λ m. m.0) h.1) (ap (λ m. m.0) s.1),
)
