use Rattle.std.proofs.Common.{◌<◌, ◌≤◌, length, ap, ◌∙◌, arith}
use Rattle.std.proofs.lemmas.List.{length-map}
use Rattle.std.proofs.lemmas.Result.{IfOk-weaker}
use Rattle.eris_rules.specs.Worlds.{replica_at}
use Rattle.eris_nodes.specs.MemberRows.{MembersValue}
use Rattle.eris_nodes.specs.ReplicaRows.{ReplicasValue, log_of}
use Rattle.eris_nodes.proofs.ObserverLaws.{no_row_log, row_states_at}
use Rattle.eris_nodes.proofs.replicas.Replicas.settled_log.Goals as goal

pub returns-then-at-len : goal.returns-then-at-len
returns-then-at-len c =
    let past : length c.args.self.now.rows ≤ c.args.shard.0 =
    omega (arith, c.if-at-len.true, c.len.ensures, ap (λ (v : ReplicasValue). length v.rows) c.self.view_is, length-map c.self.inside.rows.items (λ (row : MembersValue). row.states)) in
    c.new.ensures ∙ no_row_log c.args.self.now.rows c.args.shard c.args.replica past

pub returns : goal.returns
returns c =
    let within : c.args.shard.0 < length c.self.inside.rows.items = omega (arith, c.if-at-len.false, c.len.ensures) in
    let found = row_states_at c.self.inside.rows.items c.args.shard c.args.replica c.index-row.result.now within c.index-row.ensures in
    IfOk-weaker c.settled_log.result _ _ (λ log e. e ∙ ap log_of found ∙ ap (λ (v : ReplicasValue). log_of (replica_at v.rows c.args.shard c.args.replica)) c.self.view_is) c.settled_log.ensures
