use Rattle.std.proofs.Common.{◌∷◌, [], length, ap, ◌∙◌, arith}
use Rattle.std.proofs.lemmas.List.{length-append}
use Rattle.eris_replica.specs.ReplicaValues.{ReplicaValue}
use Rattle.eris_nodes.proofs.MemberLaws.{first_states-more, first_members-more}
use Rattle.eris_nodes.proofs.members.first_members.Goals as goal

pub loop-number-preserved : goal.loop-number-preserved
loop-number-preserved c =
    let items = c.in_ok-push.ensures.items in
    record {
      count = ap length items ∙ length-append c.loop-number.members.items (c.new-member.result ∷ []) ∙ omega (arith, c.loop-number.invariant.count);
      states = first_states-more c.args.shard c.loop-number.members.items c.push.new.self.items c.new-member.result c.loop-number.number items c.loop-number.invariant.states (ap (λ (one : ReplicaValue). one.state) c.new-member.ensures);
      members = first_members-more c.args.config c.args.shard c.loop-number.members.items c.push.new.self.items c.new-member.result c.loop-number.number items c.loop-number.invariant.count c.loop-number.invariant.members c.new-member.ensures;
    }
