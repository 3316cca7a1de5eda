use Rattle.std.specs.Prelude.{ℕ, Bool, false, Option, Some, None, ◌==◌, ◌&&◌}
use Rattle.eris_base.specs.declared.ids.Place.{Place}
use Rattle.eris_base.specs.declared.stamp.Stamp.{Stamp}
use Rattle.eris_base.specs.Places.{number_in}

-- the number is there and is this one
abbrev pub is_number : Option ℕ → ℕ → Bool
is_number None number = false
is_number (Some given) number = given == number

-- a place whose epoch, shard and number are in the stamp
abbrev pub has_place : Stamp → Place → Bool
has_place stamp place =
    stamp.epoch.0 == place.epoch.0 && is_number (number_in stamp.places place.shard) place.number
