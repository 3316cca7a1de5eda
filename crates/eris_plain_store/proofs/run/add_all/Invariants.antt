use Rattle.std.proofs.Common.{◌≡◌, ◌++◌}
use Rattle.eris_plain_store.proofs.run.add_all.Given as goal

abbrev pub invariant-loop-given : goal.invariant-loop-given
invariant-loop-given l = l.dones ++ l.given-iterator.rest.items ≡ l.fn.dones ++ l.fn.more
