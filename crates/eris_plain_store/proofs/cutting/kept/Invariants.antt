use Rattle.std.proofs.Common.{◌≡◌, ◌++◌, drop}
use Rattle.std.specs.List.{filter}
use Rattle.eris_locks.specs.Shards.{is_on}
use Rattle.eris_plain_store.proofs.cutting.kept.Given as goal

abbrev pub invariant-loop-item : goal.invariant-loop-item
invariant-loop-item g l =
    l.made ++ filter (λ item. is_on l.shard (g.T.OnKey.key_in item)) (drop l.item-index l.items)
    ≡ filter (λ item. is_on l.shard (g.T.OnKey.key_in item)) l.items
