use Rattle.eris_nodes.proofs.ClientLaws.{none_spent}
use Rattle.eris_nodes.proofs.clients.Clients.new.Goals as goal

pub returns : goal.returns
returns c =
    let none = none_spent c.args.config 0 c.in_ok-clients.clients.items c.in_ok-clients.ensures.clients in
    λ i. record { config = c.args.config; states = c.in_ok-clients.ensures.states i; spent = none i }
