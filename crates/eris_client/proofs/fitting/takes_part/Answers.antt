use Rattle.std.proofs.Common.{List, ap, sym, ◌∙◌}
use Rattle.eris_base.specs.declared.ids.ShardId.{ShardId}
use Rattle.eris_txn.specs.Bodies.{has_shard}
use Rattle.eris_rules.specs.ClientStates.{body_of}
use Rattle.eris_client.proofs.ItemShards.{takes_part}
use Rattle.eris_client.proofs.fitting.takes_part.Goals as goal

pub returns : goal.returns
returns c =
    c.has_shard.ensures
    ∙ ap (λ (shards : List ShardId). has_shard shards c.args.shard) c.requires
    ∙ sym (takes_part (body_of c.args.course.now) c.args.shard)
