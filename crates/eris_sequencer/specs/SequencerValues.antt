use Rattle.std.specs.Prelude.{ℕ, List}
use Rattle.eris_base.specs.declared.ids.Epoch.{Epoch}

-- the sequencer of an epoch: how many packets it stamped for each shard, shard by shard
pub record SequencerValue : Type 0 where
  pub epoch : Epoch
  pub counters : List ℕ
