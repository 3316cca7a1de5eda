use Rattle.std.proofs.Common.{◌≡◌, vec_len}
use Rattle.eris_journal.specs.Seats.{IsHandOf}
use Rattle.eris_try_journal.specs.SeatLists.{AreSeats}
use Rattle.eris_try_journal.proofs.Seats.{FromOn}
use Rattle.eris_try_journal.proofs.crew.join_all.Given as goal

abbrev pub invariant-loop-seat : goal.invariant-loop-seat
invariant-loop-seat g l =
    IsHandOf l.journal l.hand × (l.hand.count ≡ l.initial.hand.count)
    × AreSeats l.journal (vec_len l.seats) l.seats.items
    × FromOn (vec_len l.seats) l.initial.hand.count l.hand.kept

abbrev pub decreases-loop-seat : goal.decreases-loop-seat
decreases-loop-seat g l = vec_len l.seats
