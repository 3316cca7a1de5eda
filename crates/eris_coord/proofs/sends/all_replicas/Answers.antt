use Rattle.std.proofs.Common.{◌++◌, ℕ, List, ap, sym, ◌∙◌}
use Rattle.eris_base.specs.declared.ids.Node.{Node}
use Rattle.eris_rules.specs.Addressees.{shard_replicas}
use Rattle.eris_coord.proofs.CountedRanges.{flat_map-range_more}
use Rattle.eris_coord.proofs.sends.all_replicas.Goals as goal

pub loop-shard-preserved : goal.loop-shard-preserved
loop-shard-preserved c =
    let of : ℕ → List Node = λ number. shard_replicas c.args.config.now (record { 0 = number }) in
    c.in_ok-add_shard.ensures
    ∙ ap (λ nodes. nodes ++ of c.loop-shard.shard) c.loop-shard.invariant
    ∙ sym (flat_map-range_more of c.loop-shard.shard)
