use Rattle.std.proofs.Common.{rules, ◌≡◌, ◌<◌, drop, length, vec_len, slice_index_or, ap, sym, ◌∙◌, subst}
use Rattle.eris_try_journal.specs.SeatLists.{IsSeatAt}
use Rattle.eris_try_journal.proofs.Seats.{all_back}
use Rattle.eris_try_journal.proofs.ring.ring.Goals as goal

pub join_all-requires-clause-seats : goal.join_all-requires-clause-seats
join_all-requires-clause-seats g c =
    let seats = c.in_ok-seats.seats in
    let now = c.run_all.new.seats in
    let e = c.in_ok-seats.ensures.seats in
    let long : length now ≡ vec_len seats = search rules in
    let back = all_back now (drop (length now) seats.items) (vec_len seats) long in
    λ i d lt.
    let low : i < length c.as_mut_slice.result.now = search rules in
    let under : i < c.args.work.nodes = search rules in
    subst (λ l. IsSeatAt c.in_ok-journal.journal i (slice_index_or l i d)) (sym back)
    (c.run_all.ensures.journal i d low, c.run_all.ensures.nodes i d low ∙ ap (λ l. (slice_index_or l i d).node) c.as_mut_slice.ensures.value ∙ (e.2 i d under).1)
