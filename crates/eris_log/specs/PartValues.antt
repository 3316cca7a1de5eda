use Rattle.std.specs.Prelude.{ℕ, List}
use Rattle.eris_base.specs.declared.ids.Epoch.{Epoch}
use Rattle.eris_base.specs.declared.ids.Place.{Place}
use Rattle.eris_base.specs.declared.ids.ShardId.{ShardId}
use Rattle.eris_txn.specs.declared.packet.Packet.{Packet}

-- what a replica of a shard knows of an epoch: the packets that it holds, by number, and the places that
-- were dropped for a time, found, and dropped for good
pub record PartValue : Type 0 where
  pub epoch : Epoch
  pub shard : ShardId
  pub held : List (ℕ × Packet)
  pub temp : List Place
  pub fnd : List Place
  pub perm : List Place
