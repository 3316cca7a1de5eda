use Rattle.std.proofs.Common.{drop}
use Rattle.eris_packet_index.specs.FirstPlaces.{LeavesToRest}
use Rattle.eris_packet_index.proofs.index.first_places.Given as goal

abbrev pub invariant-loop-at : goal.invariant-loop-at
invariant-loop-at l = LeavesToRest l.ats.entries l.packets (drop l.at l.packets)
