use Rattle.std.proofs.Common.{◌≡◌, take}
use Rattle.eris_epoch.specs.Closing.{shard_log}
use Rattle.eris_epoch.proofs.closing.add_turns.Given as goal

abbrev pub invariant-loop-packet : goal.invariant-loop-packet
invariant-loop-packet l = l.log ≡ shard_log (take l.packet-index l.closed) l.shard
