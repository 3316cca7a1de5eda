use Rattle.std.proofs.Common.{◌≡◌, take}
use Rattle.eris_epoch.specs.Closing.{undropped}
use Rattle.eris_epoch.specs.ClosingSteps.{with_packets, AreByPlaces}
use Rattle.eris_epoch.proofs.closing.add_found.Given as goal

abbrev pub invariant-loop-packet : goal.invariant-loop-packet
invariant-loop-packet l =
    (l.closed ≡ with_packets l.fn.closed (undropped l.dropped (take l.packet-index l.found))) × AreByPlaces l.closed
