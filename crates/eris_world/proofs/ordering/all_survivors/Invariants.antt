use Rattle.std.proofs.Common.{◌≡◌, take}
use Rattle.std.specs.List.{filter}
use Rattle.eris_rules.specs.WorldOrders.{stamping_list, survives}
use Rattle.eris_world.proofs.ordering.all_survivors.Given as goal

abbrev pub invariant-loop-number : goal.invariant-loop-number
invariant-loop-number l = l.packets ≡ filter (survives l.world.state) (stamping_list (take l.number l.sequencers.stampings))
