use Rattle.std.proofs.Common.{◌≡◌, take}
use Rattle.eris_log.specs.Places.{pairs_of}
use Rattle.eris_log.proofs.places.pairs_of.Given as goal

abbrev pub invariant-loop-place : goal.invariant-loop-place
invariant-loop-place l = l.pairs ≡ pairs_of (take l.place-index l.places)
