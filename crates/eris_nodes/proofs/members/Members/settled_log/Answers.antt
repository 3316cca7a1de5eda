use Rattle.std.proofs.Common.{◌<◌, ◌≤◌, length, ap, ◌∙◌, arith}
use Rattle.std.specs.Prelude.{slice_get}
use Rattle.std.proofs.lemmas.List.{length-map}
use Rattle.std.proofs.lemmas.Result.{IfOk-weaker}
use Rattle.eris_replica.specs.ReplicaValues.{ReplicaValue}
use Rattle.eris_nodes.specs.MemberRows.{MembersValue}
use Rattle.eris_nodes.specs.ReplicaRows.{log_of}
use Rattle.eris_nodes.proofs.ObserverLaws.{no_log, state_at}
use Rattle.eris_nodes.proofs.members.Members.settled_log.Goals as goal

pub returns-then-at-len : goal.returns-then-at-len
returns-then-at-len c =
    let past : length c.args.self.now.states ≤ c.args.replica.0 =
    omega (arith, c.if-at-len.true, c.len.ensures, ap (λ (v : MembersValue). length v.states) c.self.view_is, length-map c.self.inside.members.items (λ (one : ReplicaValue). one.state)) in
    c.new.ensures ∙ no_log c.args.self.now.states c.args.replica.0 past

pub returns : goal.returns
returns c =
    let within : c.args.replica.0 < length c.self.inside.members.items = omega (arith, c.if-at-len.false, c.len.ensures) in
    let found = state_at c.self.inside.members.items c.args.replica.0 c.index-member.result.now within c.index-member.ensures in
    IfOk-weaker c.settled_log.result _ _ (λ log e. e ∙ ap log_of found ∙ ap (λ (v : MembersValue). log_of (slice_get v.states c.args.replica.0)) c.self.view_is) c.settled_log.ensures
