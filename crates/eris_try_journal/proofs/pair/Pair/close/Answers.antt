use Rattle.std.proofs.Common.{ap, ◌∙◌, ◌∷◌, subst}
use Rattle.eris_journal.specs.Parts.{NamesNodes}
use Rattle.eris_journal.specs.Seats.{left_by_seat}
use Rattle.eris_try_journal.specs.SmallBooks.{SmallBookValue}
use Rattle.eris_try_journal.proofs.Seats.{two_joined}
use Rattle.eris_try_journal.proofs.pair.Pair.close.Goals as goal

pub close-requires-clause-joined : goal.close-requires-clause-joined
close-requires-clause-joined c = let s = c.args.self in
    two_joined c.join-2.new.hand c.join.new.hand.kept s.first s.second (c.join-2.ensures.hand.2 ∙ c.join.ensures.hand.2 ∙ s.hand_of.1)
    (c.join.ensures.kept ∙ ap (λ l. left_by_seat s.first ∷ l) s.hand_of.3) c.join-2.ensures.kept s.first_of.1 s.second_of.1

pub returns-clause-names : goal.returns-clause-names
returns-clause-names c = let s = c.args.self in
    subst (λ n. NamesNodes (λ (b : SmallBookValue). b.entries) (λ (b : SmallBookValue). b.fetches) (λ (b : SmallBookValue). b.refused) n c.close.result)
    (c.join-2.ensures.hand.1 ∙ c.join.ensures.hand.1 ∙ s.hand_of.2) c.close.ensures.names
