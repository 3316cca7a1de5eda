use Rattle.std.proofs.Common.{◌≡◌, length}
use Rattle.eris_grammar.specs.PlanForms.{all_clauses}
use Rattle.eris_grammar.proofs.ClauseSteps.{with_rows}
use Rattle.eris_grammar.proofs.plan_line.all_clauses.Given as goal

abbrev pub invariant-loop-words : goal.invariant-loop-words
invariant-loop-words l = with_rows (l.guards, l.settings) (all_clauses l.version l.words) ≡ all_clauses l.version l.fn.words

abbrev pub decreases-loop-words : goal.decreases-loop-words
decreases-loop-words l = length l.words
