-- What one of all clients may do.
use Rattle.std.specs.Prelude.{◌≡◌, Some, List}
use Rattle.eris_base.specs.declared.ids.ClientId.{ClientId}
use Rattle.eris_base.specs.ConfigLimits.{ConfigValue}
use Rattle.eris_rules.specs.ClientStates.{ClientState}
use Rattle.eris_rules.specs.Worlds.{client_at}
use Rattle.eris_nodes.specs.declared.act.Act.{Act}
use Rattle.eris_nodes.specs.Acts.{CanAct}
use Rattle.eris_nodes.specs.ClientRows.{client_of}

abbrev pub CanActAt : ConfigValue → List ClientState → ClientId → Act → Type 0
CanActAt config states client act = (state : ClientState) → client_at states client ≡ Some state → CanAct (client_of config client.0) state act
