use Rattle.std.proofs.Common.{◌≡◌}
use Rattle.eris_journal.specs.Seats.{IsSeatOf}
use Rattle.eris_try_journal.proofs.workers.wait_for.Given as goal

abbrev pub invariant-loop : goal.invariant-loop
invariant-loop g l = IsSeatOf l.journal l.seat × (l.seat.node ≡ l.initial.seat.node)
