use Rattle.std.proofs.Common.{◌≡◌, ◌++◌, take}
use Rattle.eris_rules.specs.Outer.{tell_each}
use Rattle.eris_rules.proofs.telling.tell_each.Given as goal

abbrev pub invariant-loop-node : goal.invariant-loop-node
invariant-loop-node l = l.sends ≡ l.fn.sends ++ tell_each (take l.node-index l.nodes) l.message
