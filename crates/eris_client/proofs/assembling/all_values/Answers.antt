use Rattle.eris_rules.specs.Clients.{answer_of_shard, values_in}
use Rattle.eris_client.proofs.ItemByItem.{at_end}
use Rattle.eris_client.proofs.assembling.all_values.Goals as goal

pub returns : goal.returns
returns c =
    at_end (λ shard. values_in (answer_of_shard c.args.counted.now shard)) c.args.shards.now c.loop-at.at c.loop-at.made c.loop-at-test.false c.loop-at.invariant
