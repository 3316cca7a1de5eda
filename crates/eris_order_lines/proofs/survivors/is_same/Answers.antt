use Rattle.eris_epoch.proofs.SameLaws.{same_packet-exact}
use Rattle.eris_order_lines.proofs.survivors.is_same.Goals as goal

pub returns : goal.returns
returns c = same_packet-exact c.args.some.now c.args.other.now c.same.result c.same.ensures.0 c.same.ensures.1
