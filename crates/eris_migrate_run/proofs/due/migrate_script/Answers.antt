use Rattle.std.proofs.Common.{refl}
use Rattle.eris_migrate_run.proofs.Migrating.{script_migrated, scripts_refused}
use Rattle.eris_migrate_run.proofs.due.migrate_script.Goals as goal

pub returns-in-Ok : goal.returns-in-Ok
returns-in-Ok c = script_migrated c.args.bytes.now c.migrated_scripts_mean_the_same.ensures.same _ c.requires refl c.in-Ok.ensures.ok

pub returns-in-Err-Bad : goal.returns-in-Err-Bad
returns-in-Err-Bad c =
    scripts_refused c.args.bytes.now
    (record { headers = c.lines_are_refused_by_the_grammar.ensures.headers; lines = c.lines_are_refused_by_the_grammar.ensures.lines })
    c.refuse_line.result c.in-Err-Bad.line c.in-Err-Bad.reason c.requires (rw c.in-Err-Bad.field-0-is at c.in-Err-Bad.ensures.bad) c.refuse_line.ensures
