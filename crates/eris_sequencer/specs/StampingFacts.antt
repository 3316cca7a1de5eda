-- What the sequencers of all epochs keep.
use Rattle.std.specs.Prelude.{◌≡◌, ◌≢◌, ◌<◌, ◌≤◌, ◌^◌, ℕ, ◌+◌, Bool, true, ◌&&◌, ◌==◌, IsTrue, nat_lt, List, [], ◌∷◌, ◌++◌, length}
use Rattle.std.specs.List.{list_all}
use Rattle.eris_base.specs.declared.config.Config.{Config}
use Rattle.eris_base.specs.declared.ids.Epoch.{Epoch}
use Rattle.eris_txn.specs.declared.packet.Packet.{Packet}
use Rattle.eris_sequencer.specs.declared.stamping.Stamping.{Stamping}
use Rattle.eris_sequencer.specs.SequencerValues.{SequencerValue}
use Rattle.eris_sequencer.specs.Sequencers.{stamped_in}

-- the sequencer of this epoch, with a counter of 32 bits for each of so many shards
abbrev pub is_sequencer : ℕ → ℕ → SequencerValue → Bool
is_sequencer shards epoch sequencer =
    (sequencer.epoch.0 == epoch) && ((length sequencer.counters == shards) && list_all (λ counter. nat_lt counter (2 ^ 32)) sequencer.counters)

-- one for each epoch from this one on
abbrev pub are_from : ℕ → ℕ → List Stamping → Bool
are_from shards epoch [] = true
are_from shards epoch (stamping ∷ stampings) = is_sequencer shards epoch stamping.sequencer && are_from shards (epoch + 1) stampings

-- the sequencers of the epochs from 0 on, at least one
pub record AreStampings (config : Config) (stampings : List Stamping) : Type 0 where
  pub some : 0 < length stampings
  pub few : length stampings ≤ 2 ^ 32
  pub each : IsTrue (are_from config.shards 0 stampings)

-- at most one packet came to those of the epoch, at their end, and none to those of another
pub record AddsAtMostOne (before after : List Stamping) (epoch : Epoch) : Type 0 where
  pub added : List Packet
  pub few : length added ≤ 1
  pub own : stamped_in after epoch ≡ stamped_in before epoch ++ added
  pub others : (other : Epoch) → other.0 ≢ epoch.0 → stamped_in after other ≡ stamped_in before other
