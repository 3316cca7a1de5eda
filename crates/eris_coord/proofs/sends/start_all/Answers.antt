use Rattle.std.proofs.Common.{◌++◌, ℕ, List, ap, sym, ◌∙◌}
use Rattle.eris_epoch.specs.Closing.{shard_log}
use Rattle.eris_msg.specs.declared.message.Message.{Message}
use Rattle.eris_msg.specs.declared.outgoing.Outgoing.{Outgoing}
use Rattle.eris_rules.specs.Addressees.{shard_replicas}
use Rattle.eris_rules.specs.Outer.{tell_each}
use Rattle.eris_coord.proofs.CountedRanges.{flat_map-range_more}
use Rattle.eris_coord.proofs.sends.start_all.Goals as goal

pub loop-shard-preserved : goal.loop-shard-preserved
loop-shard-preserved c =
    let of : ℕ → List Outgoing = λ number.
    tell_each (shard_replicas c.args.config.now (record { 0 = number }))
    (Message.StartEpoch c.args.epoch (record { 0 = number }) (shard_log c.args.closed.now (record { 0 = number }))) in
    c.in_ok-start_shard.ensures
    ∙ ap (λ sends. sends ++ of c.loop-shard.shard) c.loop-shard.invariant
    ∙ sym (flat_map-range_more of c.loop-shard.shard)
