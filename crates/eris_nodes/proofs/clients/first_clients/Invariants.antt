use Rattle.std.proofs.Common.{◌≡◌, length, replicate}
use Rattle.eris_rules.specs.ClientStates.{first_client}
use Rattle.eris_nodes.specs.ClientRows.{AreClients, states_of}
use Rattle.eris_nodes.proofs.clients.first_clients.Given as goal

abbrev pub invariant-loop-client : goal.invariant-loop-client
invariant-loop-client l = record {
  count : length l.clients.items ≡ l.client;
  states : states_of l.clients.items ≡ replicate l.client first_client;
  clients : AreClients l.config 0 l.clients.items;
}
