use Rattle.std.proofs.Common.{rules, refl, ap, sym, ◌∙◌, []}
use Rattle.eris_journal.specs.Parts.{part_of}
use Rattle.eris_journal.specs.Turns.{newcomer, seat_after}
use Rattle.eris_journal.proofs.Steps.{splits_seat}
use Rattle.eris_journal.proofs.journal.Journal.split.Goals as goal

pub split_seat-new-requires : goal.split_seat-new-requires
split_seat-new-requires g c = let h = c.hand.invariant in (
  ap (λ v. v.table) c.hand.view_is ∙ c.requires.own.0 ∙ sym (ap (λ j. j.table) c.self.view_is),
  search rules,
  splits_seat _ _ _ _ _ _ _ _ _ _ (ap (λ m. m.0) h.1),
)

pub invariant_of-result : goal.invariant_of-result
invariant_of-result g c = let h = c.hand.invariant in let l = g.L.Legal in
    (newcomer (part_of l.entries l.fetches l.refused) c.hand.inside.count c.hand.inside.start.value, c.split_seat-new.ensures.4 ∙ ap (λ m. (seat_after (part_of l.entries l.fetches l.refused) m.0, [])) h.1, refl)
