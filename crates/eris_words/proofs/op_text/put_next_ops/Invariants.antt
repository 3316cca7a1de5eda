use Rattle.std.proofs.Common.{◌≡◌, ◌++◌, take}
use Rattle.std.specs.List.{flat_map}
use Rattle.eris_words.specs.OpText.{next_op_words}
use Rattle.eris_words.specs.Words.{spaced}
use Rattle.eris_words.proofs.op_text.put_next_ops.Given as goal

abbrev pub invariant-loop-op : goal.invariant-loop-op
invariant-loop-op l = l.out ≡ l.fn.out ++ spaced (flat_map next_op_words (take l.op-index l.ops))
