use Rattle.std.proofs.Common.{◌≡◌, ◌++◌, map}
use Rattle.eris_member.specs.LateSends.{late_out}
use Rattle.eris_member.proofs.late.late_sends.Given as goal

abbrev pub invariant-loop-done : goal.invariant-loop-done
invariant-loop-done l = l.sends ++ map (late_out l.shard l.replica) l.done-iterator.rest.items ≡ map (late_out l.shard l.replica) l.fn.dones
