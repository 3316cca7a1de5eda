use Rattle.std.proofs.Common.{map, nat_lt, ap, ◌∙◌}
use Rattle.std.specs.List.{list_all}
use Rattle.eris_txn.specs.Operations.{key_of}
use Rattle.eris_rules.specs.Known.{knows_keys}
use Rattle.eris_world.specs.WorldValues.{WorldValue}
use Rattle.eris_world.proofs.Events.{ops_known}
use Rattle.eris_world.proofs.world.World.knows_ops.Goals as goal

pub returns : goal.returns
returns c =
    c.knows_ops.ensures ∙ ap (λ shards. list_all (λ op. nat_lt (key_of op).shard.0 shards) c.args.ops.now) c.shards.ensures.exact
    ∙ ops_known c.self.inside.config c.args.ops.now ∙ ap (λ (v : WorldValue). knows_keys v.config (map key_of c.args.ops.now)) c.self.view_is
