use Rattle.std.proofs.Common.{◌≡◌, ◌++◌}
use Rattle.eris_member.proofs.settling.add_all.Given as goal

abbrev pub invariant-loop-send : goal.invariant-loop-send
invariant-loop-send l = l.sends ++ l.send-iterator.rest.items ≡ l.fn.sends ++ l.fn.more
