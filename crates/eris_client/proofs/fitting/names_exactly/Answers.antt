use Rattle.std.proofs.Common.{List, ◌&&◌, is_some, ap, sym, ◌∙◌}
use Rattle.std.specs.List.{list_all}
use Rattle.eris_base.specs.declared.ids.ShardId.{ShardId}
use Rattle.eris_base.specs.Places.{number_in}
use Rattle.eris_txn.specs.Bodies.{has_shard}
use Rattle.eris_rules.specs.ClientStates.{body_of}
use Rattle.eris_client.proofs.ItemShards.{names_items}
use Rattle.eris_client.proofs.fitting.names_exactly.Goals as goal

pub returns : goal.returns
returns c =
    c.names_shards.ensures
    ∙ ap (λ (shards : List ShardId). list_all (λ place. has_shard shards place.0) c.args.stamp.now.places && list_all (λ shard. is_some (number_in c.args.stamp.now.places shard)) shards) c.requires
    ∙ sym (names_items (body_of c.args.course.now) c.args.stamp.now c.places-places.ensures.fits)
