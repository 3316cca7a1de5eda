use Rattle.std.proofs.Common.{◌≡◌, take}
use Rattle.eris_rules.specs.EpochCoords.{forget_all}
use Rattle.eris_coord.proofs.notes.forget_all.Given as goal

abbrev pub invariant-loop-place : goal.invariant-loop-place
invariant-loop-place l = l.count ≡ record l.fn.count { notes = forget_all l.fn.count.notes (take l.place-index l.places) }
