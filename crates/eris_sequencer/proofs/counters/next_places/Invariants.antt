use Rattle.std.proofs.Common.{◌≡◌, IsFalse, take}
use Rattle.eris_sequencer.specs.Stamps.{next_places, is_full}
use Rattle.eris_sequencer.proofs.counters.next_places.Given as goal

abbrev pub invariant-loop-shard : goal.invariant-loop-shard
invariant-loop-shard l =
    (l.places ≡ next_places l.fn.counters (take l.shard-index l.fn.shards)) × IsFalse (is_full l.fn.counters (take l.shard-index l.fn.shards))
