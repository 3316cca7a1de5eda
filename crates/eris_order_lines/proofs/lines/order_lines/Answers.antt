use Rattle.std.proofs.Common.{◌∙◌, ◌+◌, Bool, ap, drop, sym}
use Rattle.eris_order_lines.specs.Noted.{outcome_by_first}
use Rattle.eris_order_lines.proofs.LineLaws.{passed_again, passed_conclusory, passed_first, still_to_come}
use Rattle.eris_order_lines.proofs.lines.order_lines.Goals.{then-is_conclusory+in_ok-add, else-is_conclusory+then-not-has+in_ok-line+in_ok-push+in_ok-add-2, else-is_conclusory+else-not-has}
use Rattle.eris_order_lines.proofs.lines.order_lines.Goals as goal

pub loop-packet-preserved : goal.loop-packet-preserved
loop-packet-preserved c =
    let packets = c.args.packets.now in
    let at = c.loop-packet.packet-index in
    let packet = c.packet-item.result in
    let before = still_to_come packets at packet c.loop-packet.seen c.loop-packet.decided c.loop-packet.lines c.loop-packet-test.true c.packet-item.is c.loop-packet.invariant in
    elim c.if-is_conclusory.branch [
      | then-is_conclusory+in_ok-add w ↦
          rw (w.lines-is, w.seen-is, w.decided-is)
          (passed_conclusory packets (drop (at + 1) packets) packet c.loop-packet.seen c.loop-packet.decided w.add.new.self c.loop-packet.lines
          (sym c.is_conclusory.ensures ∙ w.if-is_conclusory.true) w.in_ok-add.ensures before)
      | else-is_conclusory+then-not-has+in_ok-line+in_ok-push+in_ok-add-2 w ↦
          rw (w.lines-is, w.seen-is, w.decided-is, w.in_ok-push.ensures.ok)
          (passed_first packets (drop (at + 1) packets) packet c.loop-packet.seen w.add-then-not-has.new.self c.loop-packet.decided c.loop-packet.lines
          w.in_ok-line.line w.outcome.result (sym c.is_conclusory.ensures ∙ w.if-is_conclusory.false) (sym w.has.ensures ∙ w.if-not-has.true)
          w.in_ok-add-2.ensures
          (w.outcome.ensures ∙ c.in_ok-firsts.ensures packet.id)
          (w.in_ok-line.ensures ∙ ap (λ (t : Bool). record { id = packet.id; outcome = outcome_by_first packet.body t w.outcome.result; stamp = packet.stamp }) w.has-is_decided.ensures)
          before)
      | else-is_conclusory+else-not-has w ↦
          rw (w.lines-is, w.seen-is, w.decided-is)
          (passed_again packets (drop (at + 1) packets) packet c.loop-packet.seen c.loop-packet.decided c.loop-packet.lines
          (sym c.is_conclusory.ensures ∙ w.if-is_conclusory.false) (sym w.has.ensures ∙ w.if-not-has.false) before)
    ]
