use Rattle.std.proofs.Common.{◌≡◌}
use Rattle.eris_journal.specs.Seats.{IsSeatOf}
use Rattle.eris_try_journal.proofs.workers.turns.Given as goal

abbrev pub invariant-loop-number : goal.invariant-loop-number
invariant-loop-number g l = IsSeatOf l.journal l.seat × (l.seat.node ≡ l.initial.seat.node)
