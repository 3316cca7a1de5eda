use Rattle.std.proofs.Common.{◌≡◌, ◌++◌}
use Rattle.eris_coord.proofs.packets.add_all.Given as goal

abbrev pub invariant-loop-packet : goal.invariant-loop-packet
invariant-loop-packet l = l.packets ++ l.packet-iterator.rest.items ≡ l.fn.packets ++ l.fn.more
