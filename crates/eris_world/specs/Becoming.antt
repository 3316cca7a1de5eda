-- How a world becomes another.
use Rattle.std.specs.Prelude.{◌≡◌, None}
use Rattle.eris_rules.specs.Refusals.{limit_met}
use Rattle.eris_rules.specs.Worlds.{WorldState, with_event, with_sends}
use Rattle.eris_nodes.specs.ClientRows.{ClientsOut}
use Rattle.eris_nodes.specs.ReplicaRows.{ReplicasOut}
use Rattle.eris_world.specs.WorldValues.{WorldValue}

-- the world goes on in this state, in which no limit is met
pub record Becomes (before after : WorldValue) (state : WorldState) : Type 0 where
  pub world : after ≡ record before { state = state }
  pub room : limit_met state.sent ≡ None

-- the world after a step of one of all replicas
abbrev pub after_replicas : WorldState → ReplicasOut → WorldState
after_replicas world out = with_sends (record world { replicas = out.rows }) out.sends

-- the world after an act of one of all clients
abbrev pub after_clients : WorldState → ClientsOut → WorldState
after_clients world out = with_sends (record world { clients = out.states; history = with_event world.history out.event }) out.sends
