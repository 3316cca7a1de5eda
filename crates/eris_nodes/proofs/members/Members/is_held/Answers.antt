use Rattle.std.proofs.Common.{List, ap, ◌∙◌}
use Rattle.std.specs.List.{list_any}
use Rattle.eris_replica.specs.ReplicaValues.{ReplicaValue}
use Rattle.eris_rules.specs.WorldOrders.{is_held_by}
use Rattle.eris_nodes.specs.MemberRows.{MembersValue, states_of}
use Rattle.eris_nodes.proofs.ObserverLaws.{any_state}
use Rattle.eris_nodes.proofs.members.Members.is_held.Goals as goal

pub returns : goal.returns
returns c =
    c.any_holds.ensures ∙ any_state (is_held_by c.args.epoch c.args.packet.now) c.as_slice.result.now
    ∙ ap (λ (l : List ReplicaValue). list_any (is_held_by c.args.epoch c.args.packet.now) (states_of l)) c.as_slice.ensures.value
    ∙ ap (λ (v : MembersValue). list_any (is_held_by c.args.epoch c.args.packet.now) v.states) c.self.view_is
