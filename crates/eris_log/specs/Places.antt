-- Places, their order, and lists of them.
use Rattle.std.specs.Prelude.{ℕ, Bool, ◌&&◌, ◌==◌, List, map}
use Rattle.std.specs.List.{list_any, list_all}
use Rattle.std.specs.Ordering.{nat_cmp, ordering_then}
use Rattle.std.specs.declared.cmp.Ordering.{Ordering}
use Rattle.eris_base.specs.declared.ids.Epoch.{Epoch}
use Rattle.eris_base.specs.declared.ids.Place.{Place}
use Rattle.eris_base.specs.declared.ids.ShardId.{ShardId}
use Rattle.eris_base.specs.declared.stamp.Stamp.{Stamp}
use Rattle.eris_log.specs.Sorted.{ascends, with_item, union}

-- the order of places: by epoch, then shard, then number
abbrev pub place_cmp : Place → Place → Ordering
place_cmp some other =
    ordering_then (nat_cmp some.epoch.0 other.epoch.0)
    (ordering_then (nat_cmp some.shard.0 other.shard.0) (nat_cmp some.number other.number))

-- two places that are equal
unfoldable pub same_place : Place → Place → Bool
same_place some other =
    some.epoch.0 == other.epoch.0 && some.shard.0 == other.shard.0 && some.number == other.number

-- the place stands in the list
unfoldable pub contains_place : List Place → Place → Bool
contains_place places place = list_any (λ other. same_place other place) places

-- the places strictly ascend
abbrev pub places_ascend : List Place → Bool
places_ascend places = ascends (λ place. place) place_cmp places

-- each place is of the epoch
abbrev pub are_of_epoch : Epoch → List Place → Bool
are_of_epoch epoch places = list_all (λ place. place.epoch.0 == epoch.0) places

-- ascending places with one more, where it isn't there yet
unfoldable pub with_place : List Place → Place → List Place
with_place places place = with_item (λ other. other) place_cmp places place

-- ascending places with each of the others that isn't there yet
unfoldable pub with_places : List Place → List Place → List Place
with_places places others = union (λ other. other) place_cmp places others

-- shards and numbers as places of an epoch, and back
abbrev pub place_at : Epoch → ShardId × ℕ → Place
place_at epoch pair = record { epoch = epoch; shard = pair.0; number = pair.1 }

abbrev pub pair_of : Place → ShardId × ℕ
pair_of place = (place.shard, place.number)

abbrev pub places_at : Epoch → List (ShardId × ℕ) → List Place
places_at epoch pairs = map (λ pair. place_at epoch pair) pairs

abbrev pub pairs_of : List Place → List (ShardId × ℕ)
pairs_of places = map (λ place. pair_of place) places

-- the places that a stamp names
unfoldable pub places_of : Stamp → List Place
places_of stamp = map (λ place. record { epoch = stamp.epoch; shard = place.0; number = place.1 }) stamp.places

-- some place of the stamp is in the list
unfoldable pub any_among : List Place → Stamp → Bool
any_among places stamp = list_any (λ place. contains_place places place) (places_of stamp)
