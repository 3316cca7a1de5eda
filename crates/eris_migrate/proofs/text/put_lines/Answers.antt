use Rattle.std.proofs.Common.{◌≡◌, ◌∙◌, ap, sym, subst, arith, ℕ, List, ◌+◌, ◌++◌, ◌∷◌, []}
use Rattle.std.proofs.lemmas.List.{nil_from_length}
use Rattle.std.proofs.lemmas.Result.{err_from_is_err_and}
use Rattle.eris_migrate.specs.Migrated.{migrated_line}
use Rattle.eris_migrate.proofs.PutLines.{HasPut, all_put, all_read, bad_put, none_put, one_more_put}
use Rattle.eris_migrate.proofs.text.put_lines.Goals as goal

pub loop-rest-init : goal.loop-rest-init
loop-rest-init c = none_put _ _ (omega arith)

pub returns-in_err-check_line-clause-bad : goal.returns-in_err-check_line-clause-bad
returns-in_err-check_line-clause-bad c =
    let p = err_from_is_err_and c.from_residual.result c.from_residual.ensures.1 in
    rw (p.1, p.2) (bad_put _ _ _ _ _ _ _ _ c.loop-rest.invariant (c.first_line.ensures.lines (grind arith)) c.in_err-check_line.ensures.bad)

pub loop-rest-preserved : goal.loop-rest-preserved
loop-rest-preserved c =
    let out : c.put_line.new.out ≡ c.loop-rest.out ++ 10 ∷ [] ++ migrated_line c.first_line.result.0.now =
    c.in_ok-put_line.ensures ∙ ap (λ (z : List ℕ). z ++ migrated_line c.first_line.result.0.now) c.in_ok-push.ensures.ok in
    subst (λ (z : List ℕ). HasPut c.args.out.now z c.args.text.now c.first_line.result.1.now (c.loop-rest.number + 1)) (sym out)
    (one_more_put _ _ _ _ _ _ _ c.loop-rest.invariant (c.first_line.ensures.lines (grind arith)) (c.first_line.ensures.shorter (grind arith)) c.in_ok-check_line.ensures.ok)

pub returns-clause-read : goal.returns-clause-read
returns-clause-read c = all_read _ _ _ _ _ c.loop-rest.invariant (nil_from_length _ (grind arith))

pub returns-clause-text : goal.returns-clause-text
returns-clause-text c = all_put _ _ _ _ _ c.loop-rest.invariant (nil_from_length _ (grind arith))
