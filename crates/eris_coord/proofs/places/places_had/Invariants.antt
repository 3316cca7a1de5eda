use Rattle.std.proofs.Common.{◌≡◌, take, filter}
use Rattle.eris_base.specs.StampPlaces.{has_place}
use Rattle.eris_coord.proofs.places.places_had.Given as goal

abbrev pub invariant-loop-place : goal.invariant-loop-place
invariant-loop-place l = l.had ≡ filter (λ place. has_place l.stamp place) (take l.place-index l.places)
