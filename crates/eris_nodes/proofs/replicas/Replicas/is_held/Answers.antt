use Rattle.std.proofs.Common.{List, ap, ◌∙◌}
use Rattle.eris_rules.specs.WorldOrders.{is_held_in}
use Rattle.eris_nodes.specs.MemberRows.{MembersValue}
use Rattle.eris_nodes.specs.ReplicaRows.{ReplicasValue, rows_of}
use Rattle.eris_nodes.proofs.ObserverLaws.{held_in}
use Rattle.eris_nodes.proofs.replicas.Replicas.is_held.Goals as goal

pub returns : goal.returns
returns c =
    c.any_row_holds.ensures ∙ held_in c.args.epoch c.args.packet.now c.as_slice.result.now
    ∙ ap (λ (l : List MembersValue). is_held_in c.args.epoch (rows_of l) c.args.packet.now) c.as_slice.ensures.value
    ∙ ap (λ (v : ReplicasValue). is_held_in c.args.epoch v.rows c.args.packet.now) c.self.view_is
