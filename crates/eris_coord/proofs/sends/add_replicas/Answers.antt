use Rattle.std.proofs.Common.{◌++◌, ◌∷◌, [], ℕ, ap, sym, ◌∙◌, arith}
use Rattle.std.proofs.lemmas.List.{append_assoc}
use Rattle.std.proofs.lemmas.List.FromFn.{map-range_with_len_more}
use Rattle.eris_base.specs.declared.ids.Node.{Node}
use Rattle.eris_rules.specs.Addressees.{replica_node}
use Rattle.eris_coord.proofs.sends.add_replicas.Goals as goal

pub loop-replica-preserved : goal.loop-replica-preserved
loop-replica-preserved c =
    let of : ℕ → Node = λ number. replica_node c.args.shard number in
    c.in_ok-push.ensures.ok
    ∙ ap (λ nodes. nodes ++ of c.loop-replica.replica ∷ []) c.loop-replica.invariant
    ∙ append_assoc c.args.nodes.now _ _
    ∙ ap (λ nodes. c.args.nodes.now ++ nodes) (sym (map-range_with_len_more of 0 c.loop-replica.replica c.loop-replica.replica (omega arith)))
