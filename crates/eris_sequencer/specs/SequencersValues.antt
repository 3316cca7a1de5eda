use Rattle.std.specs.Prelude.{Bool, List}
use Rattle.eris_base.specs.declared.config.Config.{Config}
use Rattle.eris_sequencer.specs.declared.stamping.Stamping.{Stamping}

-- the sequencers of all epochs, the one of epoch e at index e, and whether they are spent
pub record SequencersValue : Type 0 where
  pub config : Config
  pub stampings : List Stamping
  pub spent : Bool
