-- What contracts see of a coordinator.
use Rattle.std.specs.Prelude.{◌≡◌, Bool, List, IsTrue}
use Rattle.eris_base.specs.declared.ids.Place.{Place}
use Rattle.eris_base.specs.ConfigLimits.{ConfigValue}
use Rattle.eris_log.specs.Places.{places_ascend}
use Rattle.eris_msg.specs.declared.outgoing.Outgoing.{Outgoing}
use Rattle.eris_rules.specs.CoordStates.{CoordState, CoordOut}

-- the config, the state as the rules have it, and whether memory ran out in a step
pub record CoordinatorValue : Type 0 where
  pub config : ConfigValue
  pub state : CoordState
  pub spent : Bool

-- the config, and the state as the rules have it
pub record StateValue : Type 0 where
  pub config : ConfigValue
  pub state : CoordState

-- the state after a step, and what is sent
abbrev pub after : StateValue → CoordOut → StateValue × List Outgoing
after value out = (record value { state = out.state }, out.sends)

-- The tally and the count have the coordinator's config, and the lists of places strictly ascend.
pub record IsState (config of_tally of_count : ConfigValue) (asks drops : List Place) : Type 0 where
  pub tally : of_tally ≡ config
  pub count : of_count ≡ config
  pub asked : IsTrue (places_ascend asks)
  pub dropped : IsTrue (places_ascend drops)
