use Rattle.eris_nodes.proofs.ReplicaLaws.{none_spent}
use Rattle.eris_nodes.proofs.replicas.Replicas.new.Goals as goal

pub returns : goal.returns
returns c =
    let none = none_spent c.args.config 0 c.in_ok-rows.rows.items c.in_ok-rows.ensures.rows in
    λ i. record { config = c.args.config; rows = c.in_ok-rows.ensures.states i; spent = none i }
