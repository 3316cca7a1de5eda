-- WHERE A STAMPED PACKET COMES FROM: from an Ask that a client of the world sent, whose body rests on the course of that
-- client as it was then.
use Rattle.std.specs.Prelude.{◌≡◌, ℕ, List}
use Rattle.eris_base.specs.declared.ids.ClientId.{ClientId}
use Rattle.eris_base.specs.declared.ids.ShardId.{ShardId}
use Rattle.eris_base.specs.ConfigLimits.{ConfigValue}
use Rattle.eris_txn.specs.declared.packet.Packet.{Packet}
use Rattle.eris_txn.specs.Bodies.{has_shard, participants_of}
use Rattle.eris_locks.specs.Shards.{names_shard}
use Rattle.eris_event.specs.declared.event.Event.{Event}
use Rattle.eris_law_course.specs.Submitted.{HasAsked}

-- the packet was stamped for such an Ask, and its stamp names the shards of its body
pub record WasAsked (config : ConfigValue) (events : List Event) (k : ℕ) (packet : Packet) : Type 0 where
  pub asker : ClientId
  pub asked : HasAsked config events k asker packet.id packet.body
  pub names : (shard : ShardId) → names_shard shard packet ≡ has_shard (participants_of packet.body) shard
