use Rattle.std.proofs.Common.{◌≡◌, length}
use Rattle.eris_grammar.specs.PlanForms.{all_keys, keys_of}
use Rattle.eris_grammar.proofs.KeySteps.{with_keys}
use Rattle.eris_grammar.proofs.plan_line.all_keys.Given as goal

abbrev pub invariant-loop-words : goal.invariant-loop-words
invariant-loop-words l = with_keys l.keys (keys_of l.version l.words) ≡ all_keys l.version l.fn.words

abbrev pub decreases-loop-words : goal.decreases-loop-words
decreases-loop-words l = length l.words
