use Rattle.std.proofs.Common.{◌≡◌}
use Rattle.eris_network.specs.WaitingNumbers.{with_more}
use Rattle.eris_network.proofs.waiting.Waiting.add_all.Given as goal

abbrev pub invariant-loop : goal.invariant-loop
invariant-loop l = l.self ≡ with_more l.initial.self l.counter
