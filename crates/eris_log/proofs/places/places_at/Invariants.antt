use Rattle.std.proofs.Common.{◌≡◌, take}
use Rattle.eris_log.specs.Places.{places_at}
use Rattle.eris_log.proofs.places.places_at.Given as goal

abbrev pub invariant-loop-place : goal.invariant-loop-place
invariant-loop-place l = l.places ≡ places_at l.epoch (take l.place-index l.pairs)
