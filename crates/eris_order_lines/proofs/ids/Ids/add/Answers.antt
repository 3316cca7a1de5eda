use Rattle.eris_order_lines.proofs.AmongIds.{one_added}
use Rattle.eris_order_lines.proofs.ids.Ids.add.Goals as goal

pub returns : goal.returns
returns c = rw (← c.self.view_is) (one_added c.self.inside.ids.keys c.insert.new.self.keys c.args.id c.in_ok-insert.ensures.updates.0)
