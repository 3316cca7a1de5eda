use Rattle.std.proofs.Common.{◌≡◌, take}
use Rattle.eris_epoch.specs.Closing.{undropped, held_in}
use Rattle.eris_epoch.specs.ClosingSteps.{with_packets, AreByPlaces}
use Rattle.eris_epoch.proofs.closing.add_held.Given as goal

abbrev pub invariant-loop-one : goal.invariant-loop-one
invariant-loop-one l =
    (l.closed ≡ with_packets l.fn.closed (undropped l.dropped (held_in l.last (take l.one-index l.noted)))) × AreByPlaces l.closed
