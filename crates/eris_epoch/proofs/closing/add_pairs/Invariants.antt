use Rattle.std.proofs.Common.{◌≡◌, take}
use Rattle.eris_epoch.specs.Closing.{undropped}
use Rattle.eris_epoch.specs.ClosingSteps.{with_packets, AreByPlaces}
use Rattle.eris_epoch.proofs.Additions.{packets_of}
use Rattle.eris_epoch.proofs.closing.add_pairs.Given as goal

abbrev pub invariant-loop-pair : goal.invariant-loop-pair
invariant-loop-pair l =
    (l.closed ≡ with_packets l.fn.closed (undropped l.dropped (packets_of (take l.pair-index l.held)))) × AreByPlaces l.closed
