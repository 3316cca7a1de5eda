use Rattle.std.proofs.Common.{◌∙◌}
use Rattle.eris_nodes.proofs.ObserverLaws.{row_lines-more, no_row_lines}
use Rattle.eris_nodes.proofs.replicas.lines_of.Goals as goal

pub loop-row-init : goal.loop-row-init
loop-row-init c = λ world e config h. c.new-lines.ensures ∙ no_row_lines world

pub loop-row-preserved : goal.loop-row-preserved
loop-row-preserved c =
    λ world e config h. row_lines-more world config c.args.rows.now h c.loop-row.row-index c.row-item.result c.loop-row.lines c.add_lines.new.lines c.loop-row-test.true c.row-item.is
    (c.loop-row.invariant world e config h) (c.in_ok-add_lines.ensures world e)
