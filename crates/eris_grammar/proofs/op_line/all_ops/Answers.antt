use Rattle.eris_grammar.specs.OpForms.{op}
use Rattle.eris_words.proofs.FormLaws.{goes_on, next_takes}
use Rattle.eris_grammar.proofs.OpLaws.{is_op}
use Rattle.eris_grammar.proofs.op_line.all_ops.Goals as goal

pub loop-ops-smaller : goal.loop-ops-smaller
loop-ops-smaller c = (next_takes (op c.args.version) (is_op c.args.version) _ _ _ c.in_ok-next_op.ensures).fewer

pub loop-ops-preserved : goal.loop-ops-preserved
loop-ops-preserved c = rw c.in_ok-push-2.ensures.ok (goes_on (op c.args.version) (is_op c.args.version) _ c.loop-ops.words _ _ _ c.in_ok-next_op.ensures c.loop-ops.invariant)
