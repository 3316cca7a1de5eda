use Rattle.std.proofs.Common.{◌≡◌, ◌∙◌, ap, sym, subst, ℕ, List, ◌++◌}
use Rattle.std.proofs.lemmas.Result.{err_from_is_err_and}
use Rattle.eris_words.specs.Cuts.{lines}
use Rattle.eris_migrate.specs.Migrated.{last_lf, migrated_header}
use Rattle.eris_migrate.specs.Migrations.{Refuses}
use Rattle.eris_migrate.proofs.PutLines.{is_migrated, put_of}
use Rattle.eris_migrate.proofs.ReadLines.{header_read, header_refused}
use Rattle.eris_migrate.proofs.text.migrate.Goals as goal

pub returns-in_err-check_header-clause-bad : goal.returns-in_err-check_header-clause-bad
returns-in_err-check_header-clause-bad c =
    let p = err_from_is_err_and c.from_residual.result c.from_residual.ensures.1 in
    rw (p.1, p.2) (header_refused _ _ _ _ c.first_line.ensures.lines c.first_line.ensures.none c.in_err-check_header.ensures.bad)

pub returns-in_err-put_lines-clause-bad : goal.returns-in_err-put_lines-clause-bad
returns-in_err-put_lines-clause-bad c =
    let p = err_from_is_err_and c.from_residual-in_err-put_lines.result c.from_residual-in_err-put_lines.ensures.1 in
    let behind = header_read _ _ _ c.first_line.ensures.lines c.first_line.ensures.none c.in_ok-check_header.ensures.ok in
    rw (p.1, p.2) (subst (λ found. Refuses found c.in_err-put_lines.field-0.0) (sym behind.1) c.in_err-put_lines.ensures.bad)

pub returns-clause-ok : goal.returns-clause-ok
returns-clause-ok c =
    let header : c.put_header.new.out ≡ migrated_header c.first_line.result.0.now =
    c.in_ok-put_header.ensures ∙ ap (λ (z : List ℕ). z ++ migrated_header c.first_line.result.0.now) (c.from_vec-text.ensures ∙ c.in_ok-with_capacity.ensures.items) in
    let whole : c.put_last_lf.new.out ≡ migrated_header c.first_line.result.0.now ++ put_of (lines c.first_line.result.1.now) ++ last_lf c.args.bytes.now =
    c.in_ok-put_last_lf.ensures ∙ ap (λ (z : List ℕ). z ++ last_lf c.args.bytes.now)
    (c.in_ok-put_lines.ensures.text ∙ ap (λ (z : List ℕ). z ++ put_of (lines c.first_line.result.1.now)) header) in
    is_migrated _ _ _ _ c.first_line.ensures.lines c.first_line.ensures.none c.in_ok-check_header.ensures.ok c.in_ok-put_lines.ensures.read whole
