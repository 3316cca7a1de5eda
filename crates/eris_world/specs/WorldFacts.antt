-- What the parts of a world that isn't spent keep: each is of the world's config and isn't spent either.
use Rattle.std.specs.Prelude.{◌≡◌, false, None}
use Rattle.eris_base.specs.ConfigLimits.{ConfigValue}
use Rattle.eris_coord.specs.CoordinatorValues.{CoordinatorValue}
use Rattle.eris_network.specs.Networks.{NetworkValue}
use Rattle.eris_nodes.specs.ClientRows.{ClientsValue}
use Rattle.eris_nodes.specs.ReplicaRows.{ReplicasValue}
use Rattle.eris_rules.specs.Refusals.{limit_met}
use Rattle.eris_sequencer.specs.SequencersValues.{SequencersValue}

pub record AreSequencers (system : ConfigValue) (value : SequencersValue) : Type 0 where
  pub of_config : value.config ≡ system
  pub unspent : value.spent ≡ false

pub record IsCoordinator (system : ConfigValue) (value : CoordinatorValue) : Type 0 where
  pub of_config : value.config ≡ system
  pub unspent : value.spent ≡ false

pub record AreReplicas (system : ConfigValue) (value : ReplicasValue) : Type 0 where
  pub of_config : value.config ≡ system
  pub unspent : value.spent ≡ false

pub record AreClients (system : ConfigValue) (value : ClientsValue) : Type 0 where
  pub of_config : value.config ≡ system
  pub unspent : value.spent ≡ false

-- what was sent meets no limit
pub record IsNetwork (value : NetworkValue) : Type 0 where
  pub room : limit_met value.sent ≡ None
  pub unspent : value.spent ≡ false

pub record IsWhole (system : ConfigValue) (sequencers : SequencersValue) (coordinator : CoordinatorValue) (replicas : ReplicasValue) (clients : ClientsValue) (network : NetworkValue) : Type 0 where
  pub of_sequencers : AreSequencers system sequencers
  pub of_coordinator : IsCoordinator system coordinator
  pub of_replicas : AreReplicas system replicas
  pub of_clients : AreClients system clients
  pub of_network : IsNetwork network
