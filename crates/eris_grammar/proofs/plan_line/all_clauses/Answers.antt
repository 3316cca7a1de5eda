use Rattle.std.proofs.Common.{sym, ◌∙◌, arith}
use Rattle.std.proofs.lemmas.Result.{err_from_is_err_and}
use Rattle.eris_grammar.proofs.ClauseSteps.{clause_goes_on, clause_refused, clause_shorter, clauses_end}
use Rattle.eris_grammar.proofs.plan_line.all_clauses.Goals as goal

pub returns-in_err-clause : goal.returns-in_err-clause
returns-in_err-clause c =
    let p = err_from_is_err_and c.from_residual.result c.from_residual.ensures.1 in
    rw (p.1, p.2) (clause_refused _ _ _ _ _ (sym c.is_at_end.ensures ∙ grind arith) c.in_err-clause.ensures c.loop-words.invariant)

pub loop-words-smaller : goal.loop-words-smaller
loop-words-smaller c = clause_shorter _ _ _ _ c.in_ok-clause.ensures

pub loop-words-preserved : goal.loop-words-preserved
loop-words-preserved c =
    rw (c.in_ok-keep.ensures.guards, c.in_ok-keep.ensures.settings) (clause_goes_on _ _ _ _ _ _ _ c.in_ok-clause.ensures c.loop-words.invariant)

pub returns : goal.returns
returns c = clauses_end _ _ _ _ _ (grind arith) c.loop-words.invariant
