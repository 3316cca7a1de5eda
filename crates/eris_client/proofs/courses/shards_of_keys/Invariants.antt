use Rattle.std.proofs.Common.{◌≡◌, map, take}
use Rattle.eris_client.proofs.courses.shards_of_keys.Given as goal

abbrev pub invariant-loop-key : goal.invariant-loop-key
invariant-loop-key l = l.shards ≡ map (λ key. key.shard) (take l.key-index l.keys)
