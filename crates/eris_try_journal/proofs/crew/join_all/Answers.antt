use Rattle.std.proofs.Common.{rules, arith, ◌≡◌, ◌+◌, vec_len, subst}
use Rattle.eris_try_journal.specs.SeatLists.{IsSeatAt}
use Rattle.eris_try_journal.proofs.Seats.{FromOn, one_more, one_off}
use Rattle.eris_try_journal.proofs.crew.join_all.Goals as goal

pub loop-seat-preserved : goal.loop-seat-preserved
loop-seat-preserved g c =
    let i = c.loop-seat.invariant in
    let next : vec_len c.loop-seat.seats ≡ vec_len c.pop.new.self + 1 = search rules in (
      search rules,
      search rules,
      one_off (IsSeatAt c.args.journal.now) c.loop-seat.seats.items c.pop.new.self.items (vec_len c.loop-seat.seats) (vec_len c.pop.new.self) next c.pop.ensures.rest i.2,
      one_more (vec_len c.pop.new.self) c.args.hand.now.count _ _ c.in-Some.seat c.join.ensures.kept (search rules) (subst (λ n. FromOn n c.args.hand.now.count c.loop-seat.hand.kept) next i.3),
    )

pub returns-clause-joined : goal.returns-clause-joined
returns-clause-joined g c =
    let i = c.loop-seat.invariant in
    let none : vec_len c.loop-seat.seats ≡ 0 = search rules in
    λ node below. i.3 node (omega (arith, none)) (omega (arith, below, i.1))
