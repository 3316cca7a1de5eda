use Rattle.std.proofs.Common.{◌∙◌, sym}
use Rattle.eris_order_lines.specs.Noted.{noted_in}
use Rattle.eris_order_lines.proofs.NotedLaws.{first_put, first_stays}
use Rattle.eris_order_lines.proofs.firsts.Firsts.put.Goals as goal

pub returns-in_ok-insert : goal.returns-in_ok-insert
returns-in_ok-insert c =
    rw (← c.self.view_is)
    (first_put (noted_in c.self.inside.outcomes.entries) (noted_in c.insert.new.self.entries) c.args.id c.args.outcome
    (sym c.contains_key.ensures ∙ c.if-not-contains_key.true) c.in_ok-insert.ensures.updates.0)

pub returns-else-not-contains_key : goal.returns-else-not-contains_key
returns-else-not-contains_key c =
    rw (← c.self.view_is)
    (first_stays (noted_in c.self.inside.outcomes.entries) c.args.id c.args.outcome (sym c.contains_key.ensures ∙ c.if-not-contains_key.false))
