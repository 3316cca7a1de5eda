-- The epochs of a run, each as a run of the machine of one epoch.
use Rattle.std.specs.Prelude.{◌≡◌, ℕ, suc, ◌<◌, ◌≤◌, List, length}
use Rattle.eris_base.specs.declared.ids.Epoch.{Epoch}
use Rattle.eris_base.specs.ConfigLimits.{ConfigValue}
use Rattle.eris_event.specs.declared.event.Event.{Event}
use Rattle.eris_epoch.specs.Closing.{shard_log}
use Rattle.eris_law_epoch.specs.EpochWorlds.{EpochSystem, EpochEvent, moment}
use Rattle.eris_law_agreement.specs.Alone.{IsAlone, Follows}
use Rattle.eris_law_agreement.specs.ClosedBelow.{closed_below}
use Rattle.eris_law_agreement.specs.Servers.{Servers, servers_of}
use Rattle.eris_law_agreement.specs.WorldMoments.{world_at}

-- the servers at a moment of the run
abbrev pub servers_at : ConfigValue → List Event → ℕ → Servers
servers_at config events number = servers_of (world_at config events number)

-- The epoch of a run up to its last moment: its replicas begin it with their shard's log of what was closed
-- below it. That never changes once the epoch is current, so the last moment tells it for all of them.
abbrev pub system_of : ConfigValue → List Event → ℕ → Epoch → EpochSystem
system_of config events last epoch =
    record { config = config; epoch = epoch; prior = λ shard. shard_log (closed_below epoch (servers_at config events last).coordinator.closed) shard }

-- THE RUN OF AN EPOCH: one event of the epoch for each event of the run, up to a moment, so that the epoch's
-- machine is at each moment how the epoch looks in the run
pub record IsEpochRun (config : ConfigValue) (events : List Event) (last : ℕ) (epoch : Epoch) (upto : ℕ) (own : List EpochEvent) : Type 0 where
  pub count : length own ≡ upto
  pub alone : (number : ℕ) → number ≤ upto → IsAlone (system_of config events last epoch) (servers_at config events number) (moment (system_of config events last epoch) own number)
  pub step : (number : ℕ) → number < upto
      → Follows (system_of config events last epoch) (servers_at config events number) (servers_at config events (suc number))
      (moment (system_of config events last epoch) own number) (moment (system_of config events last epoch) own (suc number))
