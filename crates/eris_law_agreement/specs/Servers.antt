-- The servers' side of a world, which the laws of agreement speak of: they never look at what waits, at who
-- crashed, or at the clients.
use Rattle.std.specs.Prelude.{List}
use Rattle.eris_msg.specs.declared.outgoing.Outgoing.{Outgoing}
use Rattle.eris_sequencer.specs.declared.stamping.Stamping.{Stamping}
use Rattle.eris_rules.specs.CoordStates.{CoordState}
use Rattle.eris_rules.specs.ReplicaStates.{ReplicaState}
use Rattle.eris_rules.specs.Worlds.{WorldState}

-- the sequencers, the coordinator, the replicas, and all that was ever sent, by clients too
pub record Servers : Type 0 where
  pub stampings : List Stamping
  pub coordinator : CoordState
  pub replicas : List (List ReplicaState)
  pub sent : List Outgoing

abbrev pub servers_of : WorldState → Servers
servers_of world =
    record { stampings = world.stampings; coordinator = world.coordinator; replicas = world.replicas; sent = world.sent }
