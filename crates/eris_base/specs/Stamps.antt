use Rattle.std.specs.Prelude.{ℕ, List}
use Rattle.eris_base.specs.declared.ids.Epoch.{Epoch}
use Rattle.eris_base.specs.declared.ids.ShardId.{ShardId}

-- the numbers that one stamping gave, a shard and a number each
pub record StampValue : Type 0 where
  pub epoch : Epoch
  pub places : List (ShardId × ℕ)
