use Rattle.std.proofs.Common.{◌∷◌, [], length, ap, ◌∙◌, arith}
use Rattle.std.proofs.lemmas.List.{length-append}
use Rattle.eris_client.specs.ClientValues.{ClientValue}
use Rattle.eris_nodes.proofs.ClientLaws.{first_states-more, first_clients-more}
use Rattle.eris_nodes.proofs.clients.first_clients.Goals as goal

pub loop-client-preserved : goal.loop-client-preserved
loop-client-preserved c =
    let items = c.in_ok-push.ensures.items in
    record {
      count = ap length items ∙ length-append c.loop-client.clients.items (c.new-one.result ∷ []) ∙ omega (arith, c.loop-client.invariant.count);
      states = first_states-more c.loop-client.clients.items c.push.new.self.items c.new-one.result c.loop-client.client items c.loop-client.invariant.states (ap (λ (one : ClientValue). one.state) c.new-one.ensures);
      clients = first_clients-more c.args.config c.loop-client.clients.items c.push.new.self.items c.new-one.result c.loop-client.client items c.loop-client.invariant.count c.loop-client.invariant.clients c.new-one.ensures;
    }
