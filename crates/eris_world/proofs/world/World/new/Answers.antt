use Rattle.std.proofs.Common.{ap, ◌∙◌}
use Rattle.eris_coord.specs.CoordinatorValues.{CoordinatorValue}
use Rattle.eris_network.specs.Networks.{NetworkValue}
use Rattle.eris_nodes.specs.ClientRows.{ClientsValue}
use Rattle.eris_nodes.specs.ReplicaRows.{ReplicasValue}
use Rattle.eris_rules.specs.Refusals.{limit_met}
use Rattle.eris_sequencer.specs.SequencersValues.{SequencersValue}
use Rattle.eris_world.proofs.Steps.{empty_room}
use Rattle.eris_world.proofs.world.World.new.Goals as goal

pub invariant_of-result : goal.invariant_of-result
invariant_of-result c =
    λ _. record {
      of_sequencers = record { of_config = ap (λ (v : SequencersValue). v.config) c.in_ok-sequencers.ensures; unspent = ap (λ (v : SequencersValue). v.spent) c.in_ok-sequencers.ensures };
      of_coordinator = record { of_config = ap (λ (v : CoordinatorValue). v.config) c.new-coordinator.ensures; unspent = ap (λ (v : CoordinatorValue). v.spent) c.new-coordinator.ensures };
      of_replicas = record { of_config = ap (λ (v : ReplicasValue). v.config) c.in_ok-replicas.ensures; unspent = ap (λ (v : ReplicasValue). v.spent) c.in_ok-replicas.ensures };
      of_clients = record { of_config = ap (λ (v : ClientsValue). v.config) c.in_ok-clients.ensures; unspent = ap (λ (v : ClientsValue). v.spent) c.in_ok-clients.ensures };
      of_network = record { room = ap (λ (v : NetworkValue). limit_met v.sent) c.new-network.ensures ∙ empty_room; unspent = ap (λ (v : NetworkValue). v.spent) c.new-network.ensures };
    }
