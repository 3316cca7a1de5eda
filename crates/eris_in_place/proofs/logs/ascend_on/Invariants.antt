use Rattle.std.proofs.Common.{◌≡◌, length, map}
use Rattle.eris_locks.specs.Shards.{place_on}
use Rattle.eris_log.specs.Places.{place_cmp, places_ascend}
use Rattle.eris_log.specs.Sorted.{ascends_from}
use Rattle.eris_in_place.proofs.logs.ascend_on.Given as goal

abbrev pub invariant-loop-rest : goal.invariant-loop-rest
invariant-loop-rest l =
    ascends_from (λ place. place) place_cmp l.before (map (λ packet. place_on l.shard packet.stamp) l.rest)
    ≡ places_ascend (map (λ packet. place_on l.shard packet.stamp) l.fn.packets)

abbrev pub decreases-loop-rest : goal.decreases-loop-rest
decreases-loop-rest l = length l.rest
