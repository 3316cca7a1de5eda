use Rattle.std.proofs.Common.{◌≡◌, true}
use Rattle.eris_epoch.specs.EpochTallies.{are_heard}
use Rattle.eris_epoch.proofs.epoch_tally.all_are_heard.Given as goal

abbrev pub invariant-loop-shard : goal.invariant-loop-shard
invariant-loop-shard l = are_heard l.noted l.f l.shard ≡ true
