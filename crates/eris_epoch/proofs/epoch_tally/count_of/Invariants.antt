use Rattle.std.proofs.Common.{◌≡◌, ◌≤◌, ◌==◌, take}
use Rattle.std.specs.Prelude.{count_by}
use Rattle.eris_epoch.proofs.epoch_tally.count_of.Given as goal

abbrev pub invariant-loop-one : goal.invariant-loop-one
invariant-loop-one l = (l.count ≡ count_by (λ one. one.part.shard.0 == l.shard.0) (take l.one-index l.noted)) × (l.count ≤ l.one-index)
