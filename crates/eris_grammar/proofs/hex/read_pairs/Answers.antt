use Rattle.eris_grammar.proofs.HexSteps.{pair_read}
use Rattle.eris_grammar.proofs.hex.read_pairs.Goals as goal

pub loop-high-preserved : goal.loop-high-preserved
loop-high-preserved c = rw c.in_ok-push.ensures.ok (pair_read _ _ _ _ _ _ _ c.in-Some.ensures c.in-Some-byte_of.ensures c.loop-high.invariant)
