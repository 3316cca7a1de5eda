use Rattle.std.proofs.Common.{[], ◌∷◌, ◌++◌, take, refl, ap, sym, subst, ◌∙◌}
use Rattle.eris_txn.specs.Keys.{no_values}
use Rattle.eris_txn.specs.KeyValues.{values_of}
use Rattle.eris_base.specs.Each.{EachAfter}
use Rattle.eris_audit.specs.Histories.{txn_of}
use Rattle.eris_audit.specs.IsSerial.{GuardsHold, IsOrderLine}
use Rattle.eris_audit.specs.Lines.{line_of, lines_of}
use Rattle.eris_audit.specs.SerialRun.{results_of, values_after}
use Rattle.eris_audit.proofs.Finds.{each_next, line_fails, line_holds, lines-next}
use Rattle.eris_audit.proofs.SerialSteps.{next_step, no_result}
use Rattle.eris_audit.proofs.run.first_failing_guard.Goals as goal

pub run_line-requires-clause-submitted : goal.run_line-requires-clause-submitted
run_line-requires-clause-submitted c =
    (line_holds (IsOrderLine c.args.history.now) c.args.order.now c.loop-place.place c.index-order-place.result c.loop-place-test.true c.index-order-place.is c.requires.order_lines).submitted

pub returns-in_default-clause-found : goal.returns-in_default-clause-found
returns-in_default-clause-found c =
    let history = c.args.history.now in
    let order = c.args.order.now in
    let line = c.index-order-place.result in
    let front = lines_of (take c.loop-place.place order) in
    line_fails (GuardsHold history) order c.loop-place.place line front c.loop-place-test.true c.index-order-place.is refl c.loop-place.invariant.3
    (λ holds. no_result history front (line_of line) (values_of c.loop-place.store.entries) c.loop-place.invariant.1 (sym c.in_ok-answer.ensures.answer ∙ c.in_default.is) holds)

pub loop-place-preserved : goal.loop-place-preserved
loop-place-preserved c =
    let history = c.args.history.now in
    let order = c.args.order.now in
    let line = c.index-order-place.result in
    let front = lines_of (take c.loop-place.place order) in
    let step =
    next_step history front (line_of line) c.in-Some.answer (values_of c.loop-place.store.entries) (values_of c.run_line.new.store.entries)
    c.loop-place.invariant.1 (sym c.in_ok-answer.ensures.answer ∙ c.in-Some.is) c.in_ok-answer.ensures.left in
    let more = lines-next order c.loop-place.place line front c.loop-place-test.true c.index-order-place.is refl in (
      c.in_ok-answer.ensures.spent,
      step.values ∙ ap (λ lines. values_after (txn_of history) lines no_values) more,
      c.in_ok-push.ensures.ok
          ∙ ap (λ results. results ++ c.in-Some.answer ∷ []) c.loop-place.invariant.2
          ∙ step.results
          ∙ ap (λ lines. results_of (txn_of history) lines no_values) more,
      subst (EachAfter (GuardsHold history) []) more (each_next (GuardsHold history) front (line_of line) c.loop-place.invariant.3 step.guards),
    )
