use Rattle.std.proofs.Common.{◌≡◌, ◌++◌, [], drop, take}
use Rattle.eris_rules.specs.Clients.{answer_of_shard, op_answers_in}
use Rattle.eris_client.specs.Assembled.{assembled}
use Rattle.eris_client.proofs.assembling.all_op_answers.Given as goal

abbrev pub invariant-loop-at : goal.invariant-loop-at
invariant-loop-at l =
    l.made ++ assembled (take l.at l.shards) (drop l.at l.shards) (λ shard. op_answers_in (answer_of_shard l.counted shard))
    ≡ assembled [] l.shards (λ shard. op_answers_in (answer_of_shard l.counted shard))
