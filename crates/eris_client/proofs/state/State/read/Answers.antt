use Rattle.std.proofs.Common.{◌≡◌, List, false, map, ap, sym, ◌∙◌}
use Rattle.std.specs.List.{list_any}
use Rattle.eris_base.specs.declared.ids.ShardId.{ShardId}
use Rattle.eris_txn.specs.declared.answer.Answer.{Answer}
use Rattle.eris_general.specs.Outcomes.{is_aborted}
use Rattle.eris_rules.specs.Assembling.{assemble}
use Rattle.eris_rules.specs.ClientStates.{body_of}
use Rattle.eris_rules.specs.Clients.{answer_of_shard, answers_counted, item_shards, values_in}
use Rattle.eris_client.proofs.AnsweredLaws.{as_many_values}
use Rattle.eris_client.proofs.state.State.read.Goals as goal

pub decide-requires : goal.decide-requires
decide-requires c =
    let kept : list_any is_aborted (answers_counted c.args.transaction) ≡ false =
    ap (λ (counted : List (ShardId × Answer)). list_any is_aborted (map (λ pair. pair.1) counted)) (sym c.as_slice-counted.ensures) ∙ sym c.if-some_aborted.ensures in
    as_many_values c.args.transaction c.args.plan c.in_ok-values.values c.requires.reading c.requires.complete c.requires.answered kept
    (c.in_ok-values.ensures
    ∙ ap (λ (shards : List ShardId). assemble shards (λ shard. values_in (answer_of_shard c.as_slice-counted.result.now shard))) c.requires.shards
    ∙ ap (λ (counted : List (ShardId × Answer)). assemble (item_shards (body_of c.args.transaction.course)) (λ shard. values_in (answer_of_shard counted shard))) c.as_slice-counted.ensures)
