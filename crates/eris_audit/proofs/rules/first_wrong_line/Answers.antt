use Rattle.std.proofs.Common.{[], ◌∙◌, sym, subst}
use Rattle.std.proofs.lemmas.Bool.{both_ways}
use Rattle.eris_base.specs.Each.{EachAfter}
use Rattle.eris_audit.specs.IsSerial.{IsOrderLine}
use Rattle.eris_audit.specs.Lines.{line_of}
use Rattle.eris_audit.proofs.Finds.{line_fails, lines-next, each_next}
use Rattle.eris_audit.proofs.rules.first_wrong_line.Goals as goal

pub returns-then-not-is_order_line-clause-found : goal.returns-then-not-is_order_line-clause-found
returns-then-not-is_order_line-clause-found c =
    line_fails (IsOrderLine c.args.history.now) c.args.order.now c.loop-place.place c.index-order-place.result c.loop-place.table
    c.loop-place-test.true c.index-order-place.is c.loop-place.invariant.0 c.loop-place.invariant.1
    (λ holds. both_ways _ c.if-not-is_order_line.true (c.is_order_line.ensures.1 holds))

pub loop-place-preserved : goal.loop-place-preserved
loop-place-preserved c =
    let line = c.index-order-place.result in (
      c.in_ok-add.ensures ∙ lines-next c.args.order.now c.loop-place.place line c.loop-place.table c.loop-place-test.true c.index-order-place.is c.loop-place.invariant.0,
      subst (EachAfter (IsOrderLine c.args.history.now) []) (sym c.in_ok-add.ensures)
          (each_next (IsOrderLine c.args.history.now) c.loop-place.table (line_of line) c.loop-place.invariant.1 (c.is_order_line.ensures.0 c.if-not-is_order_line.false)),
    )
