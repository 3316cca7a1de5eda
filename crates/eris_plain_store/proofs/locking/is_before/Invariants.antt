use Rattle.std.proofs.Common.{◌≡◌, drop}
use Rattle.std.specs.List.{list_any}
use Rattle.eris_locks.specs.Locks.{conflict, locks_of}
use Rattle.eris_locks.specs.declared.shard_packet.ShardPacket.{ShardPacket}
use Rattle.eris_plain_store.proofs.locking.is_before.Given as goal

abbrev pub invariant-loop-packet : goal.invariant-loop-packet
invariant-loop-packet l =
    list_any (λ (packet : ShardPacket). conflict (locks_of packet.body) l.locks) (drop l.packet-index l.before)
    ≡ list_any (λ (packet : ShardPacket). conflict (locks_of packet.body) l.locks) l.before
