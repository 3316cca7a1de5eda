use Rattle.std.proofs.Common.{◌≡◌, ◌++◌, take}
use Rattle.std.specs.List.{filter}
use Rattle.eris_rules.specs.WorldOrders.{survives}
use Rattle.eris_world.proofs.ordering.add_survivors.Given as goal

abbrev pub invariant-loop-packet : goal.invariant-loop-packet
invariant-loop-packet l = l.packets ≡ l.fn.packets ++ filter (survives l.world.state) (take l.packet-index l.stamped)
