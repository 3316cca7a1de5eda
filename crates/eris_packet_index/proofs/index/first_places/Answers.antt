use Rattle.std.proofs.Common.{◌≡◌, get_or, rules}
use Rattle.eris_packet_index.proofs.ListedLaws.{noted_on, none_left}
use Rattle.eris_packet_index.proofs.index.first_places.Goals as goal

pub loop-at-preserved : goal.loop-at-preserved
loop-at-preserved c =
    let is : c.index-packets-at.result ≡ get_or c.args.packets.now c.loop-at.at c.index-packets-at.result = search rules in
    noted_on c.args.packets.now c.loop-at.at c.index-packets-at.result c.loop-at.ats.entries c.insert.new.self.entries c.first_place.result
    c.loop-at-test.true is c.first_place.ensures c.in_ok-insert.ensures.updates.0 c.loop-at.invariant

pub returns : goal.returns
returns c packet none = none_left c.args.packets.now c.loop-at.at packet c.loop-at-test.false (c.loop-at.invariant packet none)
