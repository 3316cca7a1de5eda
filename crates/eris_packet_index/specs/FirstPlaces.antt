-- The packets of a list, found again by the first places of their stamps.
use Rattle.std.specs.Prelude.{◌≡◌, ℕ, false, Option, None, List, [], ◌∷◌}
use Rattle.std.specs.BTreeMap.{is_at}
use Rattle.std.specs.Map.{lookup}
use Rattle.eris_base.specs.declared.ids.Epoch.{Epoch}
use Rattle.eris_base.specs.declared.ids.Place.{Place}
use Rattle.eris_base.specs.declared.ids.ShardId.{ShardId}
use Rattle.eris_base.specs.declared.stamp.Stamp.{Stamp}
use Rattle.eris_txn.specs.declared.packet.Packet.{Packet}
use Rattle.eris_log.specs.Places.{place_at, place_cmp}
use Rattle.eris_epoch.specs.SamePackets.{is_listed}

abbrev pub first_among : Epoch → List (ShardId × ℕ) → Place
first_among epoch [] = record { epoch = epoch; shard = record { 0 = 0 }; number = 0 }
first_among epoch (pair ∷ pairs) = place_at epoch pair

-- the first place that a stamp names; each names one
abbrev pub first_place : Stamp → Place
first_place stamp = first_among stamp.epoch stamp.places

-- where in the list a packet stands whose stamp has this first place
abbrev pub at_first : List (Place × ℕ) → Place → Option ℕ
at_first entries place = lookup (is_at (place_cmp place)) entries

-- a packet whose first place isn't noted doesn't stand in the list
abbrev pub KnowsAll : List (Place × ℕ) → List Packet → Type 0
KnowsAll entries packets = (packet : Packet) → at_first entries (first_place packet.stamp) ≡ None → is_listed packets packet ≡ false

-- of a packet whose first place isn't noted, the rest of the list tells whether it stands in the list
abbrev pub LeavesToRest : List (Place × ℕ) → List Packet → List Packet → Type 0
LeavesToRest entries packets rest =
    (packet : Packet) → at_first entries (first_place packet.stamp) ≡ None → is_listed packets packet ≡ is_listed rest packet
