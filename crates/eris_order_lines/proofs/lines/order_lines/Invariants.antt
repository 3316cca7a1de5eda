use Rattle.std.proofs.Common.{drop}
use Rattle.eris_order_lines.specs.LinesSoFar.{LinesSoFar}
use Rattle.eris_order_lines.proofs.lines.order_lines.Given as goal

abbrev pub invariant-loop-packet : goal.invariant-loop-packet
invariant-loop-packet l = LinesSoFar l.packets (drop l.packet-index l.packets) l.seen l.decided l.lines
