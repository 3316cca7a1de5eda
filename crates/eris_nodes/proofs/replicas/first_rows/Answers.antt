use Rattle.std.proofs.Common.{◌∷◌, [], length, ap, ◌∙◌, arith}
use Rattle.std.proofs.lemmas.List.{length-append}
use Rattle.eris_nodes.proofs.ReplicaLaws.{first_rows-more, are_rows-more}
use Rattle.eris_nodes.proofs.replicas.first_rows.Goals as goal

pub loop-shard-preserved : goal.loop-shard-preserved
loop-shard-preserved c =
    let items = c.in_ok-push.ensures.items in
    record {
      count = ap length items ∙ length-append c.loop-shard.rows.items (c.in_ok-row.row ∷ []) ∙ omega (arith, c.loop-shard.invariant.count);
      states = first_rows-more c.args.config c.loop-shard.rows.items c.push.new.self.items c.in_ok-row.row c.loop-shard.shard items c.loop-shard.invariant.states c.in_ok-row.ensures;
      rows = are_rows-more c.args.config c.loop-shard.rows.items c.push.new.self.items c.in_ok-row.row c.loop-shard.shard items c.loop-shard.invariant.count c.loop-shard.invariant.rows c.in_ok-row.ensures;
    }
