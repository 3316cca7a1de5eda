use Rattle.std.proofs.Common.{◌≡◌, ℕ}
use Rattle.std.specs.List.{flat_map, range_with_len}
use Rattle.eris_epoch.specs.Closing.{shard_log}
use Rattle.eris_msg.specs.declared.message.Message.{Message}
use Rattle.eris_rules.specs.Addressees.{shard_replicas}
use Rattle.eris_rules.specs.Outer.{tell_each}
use Rattle.eris_coord.proofs.sends.start_all.Given as goal

abbrev pub invariant-loop-shard : goal.invariant-loop-shard
invariant-loop-shard l =
    l.sends ≡ flat_map (λ (number : ℕ). tell_each (shard_replicas l.config (record { 0 = number }))
    (Message.StartEpoch l.epoch (record { 0 = number }) (shard_log l.closed (record { 0 = number })))) (range_with_len 0 l.shard)
