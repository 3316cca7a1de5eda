-- What was refused gives no world.
use Rattle.std.proofs.Common.{◌≡◌, List, None, Some, [], ◌∷◌}
use Rattle.eris_base.specs.ConfigLimits.{ConfigValue}
use Rattle.eris_event.specs.declared.event.Event.{Event}
use Rattle.eris_rules.specs.Runs.{run_from}
use Rattle.eris_rules.specs.Worlds.{WorldState}

pub none_run : (config : ConfigValue) (events : List Event) (v : WorldState) → run_from config None events ≡ Some v → ⊥
unfolding run_from
none_run config [] v ran = cc
none_run config (event ∷ events) v ran = cc
