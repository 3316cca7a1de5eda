use Rattle.std.proofs.Common.{◌≡◌, take}
use Rattle.std.specs.List.{flat_map}
use Rattle.eris_sequencer.specs.Asks.{sends_to}
use Rattle.eris_sequencer.proofs.sends.sends_to_all.Given as goal

abbrev pub invariant-loop-shard : goal.invariant-loop-shard
invariant-loop-shard l = l.sends ≡ flat_map (sends_to l.f l.packet) (take l.shard-index l.shards)
