use Rattle.std.proofs.Common.{◌≡◌, vec_len}
use Rattle.eris_journal.specs.Seats.{IsHandOf}
use Rattle.eris_try_journal.specs.SeatLists.{AreSeats}
use Rattle.eris_try_journal.proofs.crew.split_all.Given as goal

abbrev pub invariant-loop : goal.invariant-loop
invariant-loop g l = IsHandOf l.journal l.hand × (l.hand.nodes ≡ l.fn.nodes) × (l.hand.count ≡ l.counter) × (vec_len l.seats ≡ l.counter) × AreSeats l.journal l.counter l.seats.items
