use Rattle.std.proofs.Common.{length, sym}
use Rattle.std.proofs.lemmas.Bool.{ltb-true}
use Rattle.eris_packet_index.proofs.ListedLaws.{stands_listed}
use Rattle.eris_packet_index.proofs.index.stands_at.Goals as goal

pub returns-in-Some : goal.returns-in-Some
returns-in-Some c same =
    stands_listed c.args.packets.now c.args.at c.args.packet.now c.in-Some.other.now
    (ltb-true c.args.at (length c.args.packets.now) (sym c.in-Some.ensures.lookup.0)) c.in-Some.ensures.lookup.1 (c.same.ensures.0 same)
