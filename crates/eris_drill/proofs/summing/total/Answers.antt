use Rattle.std.proofs.Common.{◌∙◌, Option, [], ap, arith}
use Rattle.std.specs.Option.{unwrap_or}
use Rattle.eris_txn.specs.declared.txn.Txn.{Txn}
use Rattle.eris_txn.specs.declared.txn.Txn.TheVariants.{Whole}
use Rattle.eris_txn.specs.KeyValues.{values_of}
use Rattle.eris_audit.specs.SerialRun.{left_by_step}
use Rattle.eris_drill.proofs.Submits.{steps_end, steps_on}
use Rattle.eris_drill.proofs.summing.total.Goals as goal

pub loop-line-preserved : goal.loop-line-preserved
loop-line-preserved c = (
  c.in_ok-run_line.ensures.spent,
  steps_on c.as_slice.result.now c.args.report.now.history c.as_slice-line-items.result.now c.args.report.now.order c.loop-line.line-index c.line-item.result _ _
      c.as_slice.ensures c.as_slice-line-items.ensures c.loop-line-test.true c.line-item.is
      (c.in_ok-run_line.ensures.left
      ∙ ap (λ (found : Option Txn). left_by_step (unwrap_or found (Whole [])) c.line-item.result.outcome (values_of c.loop-line.store.entries)) (c.in_ok-kept.ensures c.line-item.result.id))
      ∙ (c.loop-line.invariant).1,
)

pub returns : goal.returns
returns c = record {
  entries = c.loop-line.store.entries;
  are = steps_end c.args.report.now.history c.as_slice-line-items.result.now c.args.report.now.order c.loop-line.line-index _ _
      c.as_slice-line-items.ensures (omega (arith, c.loop-line-test.false)) (c.loop-line.invariant).1;
  ordered = c.total.ensures.ordered;
  sum = c.total.ensures.sum;
}
