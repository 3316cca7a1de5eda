use Rattle.std.proofs.Common.{List, ap, sym, ◌∙◌}
use Rattle.std.specs.List.{list_all}
use Rattle.eris_base.specs.declared.ids.ShardId.{ShardId}
use Rattle.eris_rules.specs.ClientStates.{body_of}
use Rattle.eris_rules.specs.Votes.{is_complete, is_counted}
use Rattle.eris_client.proofs.ItemShards.{all_items}
use Rattle.eris_client.proofs.counting.is_complete.Goals as goal

pub returns : goal.returns
unfolding is_complete
returns c =
    c.are_counted.ensures
    ∙ ap (λ counted. list_all (λ shard. is_counted counted shard) c.args.shards.now) c.as_slice.ensures
    ∙ ap (λ (shards : List ShardId). list_all (λ shard. is_counted c.args.transaction.now.counted shard) shards) c.requires
    ∙ sym (all_items (body_of c.args.transaction.now.course) (λ shard. is_counted c.args.transaction.now.counted shard))
