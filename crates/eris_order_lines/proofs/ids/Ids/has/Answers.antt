use Rattle.std.proofs.Common.{◌∙◌}
use Rattle.eris_order_lines.proofs.AmongIds.{keys_are_among}
use Rattle.eris_order_lines.proofs.ids.Ids.has.Goals as goal

pub returns : goal.returns
returns c = rw (← c.self.view_is) (c.contains.ensures ∙ keys_are_among c.args.id c.self.inside.ids.keys)
