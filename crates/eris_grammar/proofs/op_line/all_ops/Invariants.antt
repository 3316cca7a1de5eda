use Rattle.std.proofs.Common.{◌≡◌, length}
use Rattle.eris_words.specs.Forms.{more}
use Rattle.eris_grammar.specs.OpForms.{all_ops, op}
use Rattle.eris_words.proofs.FormLaws.{with_front}
use Rattle.eris_grammar.proofs.op_line.all_ops.Given as goal

abbrev pub invariant-loop-ops : goal.invariant-loop-ops
invariant-loop-ops l = with_front l.ops (more (op l.version) l.words) ≡ all_ops l.version l.fn.words

abbrev pub decreases-loop-ops : goal.decreases-loop-ops
decreases-loop-ops l = length l.words
