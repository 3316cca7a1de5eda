use Rattle.std.proofs.Common.{ℕ, ap, ◌∙◌}
use Rattle.eris_rules.specs.Reports.{replica_line}
use Rattle.eris_nodes.proofs.ObserverLaws.{lines-more, no_lines}
use Rattle.eris_nodes.proofs.members.add_all_lines.Goals as goal

pub loop-number-init : goal.loop-number-init
loop-number-init c = λ world e. no_lines world c.args.shard c.args.lines.now

pub loop-number-preserved : goal.loop-number-preserved
loop-number-preserved c =
    λ world e. lines-more world c.args.shard c.args.members.now c.loop-number.number c.index-members-number.result c.args.lines.now c.loop-number.lines c.push.new.self c.in_ok-line_of.field-0 c.loop-number-test.true c.index-members-number.is
    (c.loop-number.invariant world e) (c.in_ok-push.ensures.ok) (c.in_ok-line_of.ensures world e ∙ ap (λ (m : ℕ). replica_line world c.args.shard (record { 0 = m }) c.index-members-number.result.state) c.in_ok-small.ensures)
