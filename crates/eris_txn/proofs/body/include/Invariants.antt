use Rattle.std.proofs.Common.{◌≡◌, ◌++◌, take, drop}
use Rattle.eris_txn.specs.Bodies.{with_shard}
use Rattle.eris_txn.proofs.body.include.Given as goal

abbrev pub invariant-loop-at : goal.invariant-loop-at
invariant-loop-at l = take l.at l.other-items ++ with_shard (drop l.at l.other-items) l.shard ≡ with_shard l.other-items l.shard
