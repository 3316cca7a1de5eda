use Rattle.eris_nodes.proofs.MemberLaws.{none_spent}
use Rattle.eris_nodes.proofs.members.Members.new.Goals as goal

pub returns : goal.returns
returns c =
    let none = none_spent c.args.config c.args.shard 0 c.in_ok-members.members.items c.in_ok-members.ensures.members in
    λ i. record { config = c.args.config; shard = c.args.shard; states = c.in_ok-members.ensures.states i; spent = none i }
