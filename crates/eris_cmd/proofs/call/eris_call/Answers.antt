use Rattle.std.proofs.Common.{inl, refl, ap}
use Rattle.eris_check_run.specs.Checks.{check_limit}
use Rattle.eris_run.specs.Calls.{input_limit}
use Rattle.eris_cmd.specs.Named.{input_limit_of}
use Rattle.eris_cmd.proofs.AnswersTold.{migration_told, named_line, told}
use Rattle.eris_cmd.proofs.CommandNames.{is_check, is_drill, is_migrate, is_run, names_check, names_reader}
use Rattle.eris_cmd.proofs.InputsDue.{check_accepted, check_due, migrate_accepted, migrate_due, on_some, run_accepted, run_due}
use Rattle.eris_cmd.proofs.StatusMaps.{on_bad_report, on_bad_script}
use Rattle.eris_cmd.proofs.call.eris_call.Goals as goal

pub returns-in-Ok-tell-clause-done : goal.returns-in-Ok-tell-clause-done
returns-in-Ok-tell-clause-done g c = λ run done. (told c.in-Ok.ensures.ok (rw c.as_slice.ensures at c.in-Ok-tell.ensures.ok)).done (is_run c.in-Some.command c.in-Some.ensures.some run) done

pub returns-in-Ok-tell-clause-too_large : goal.returns-in-Ok-tell-clause-too_large
returns-in-Ok-tell-clause-too_large g c = λ run. (told c.in-Ok.ensures.ok (rw c.as_slice.ensures at c.in-Ok-tell.ensures.ok)).too_large (is_run c.in-Some.command c.in-Some.ensures.some run)

pub returns-in-Ok-tell-clause-check_done : goal.returns-in-Ok-tell-clause-check_done
returns-in-Ok-tell-clause-check_done g c = λ check done. (told c.in-Ok.ensures.ok (rw c.as_slice.ensures at c.in-Ok-tell.ensures.ok)).check_done (is_check c.in-Some.command c.in-Some.ensures.some check) done

pub returns-in-Ok-tell-clause-check_no : goal.returns-in-Ok-tell-clause-check_no
returns-in-Ok-tell-clause-check_no g c = λ no. (let says = (told c.in-Ok.ensures.ok (rw c.as_slice.ensures at c.in-Ok-tell.ensures.ok)).check_no no in (names_check c.in-Some.command c.in-Some.ensures.some says.0, says.1))

pub returns-in-Ok-tell-clause-bad_report : goal.returns-in-Ok-tell-clause-bad_report
returns-in-Ok-tell-clause-bad_report g c = on_bad_report c.in-Ok.due.status (λ line says. (names_check c.in-Some.command c.in-Some.ensures.some says.0, says.1)) (told c.in-Ok.ensures.ok (rw c.as_slice.ensures at c.in-Ok-tell.ensures.ok)).bad_report

pub returns-in-Ok-tell-clause-check_too_large : goal.returns-in-Ok-tell-clause-check_too_large
returns-in-Ok-tell-clause-check_too_large g c = λ check. (told c.in-Ok.ensures.ok (rw c.as_slice.ensures at c.in-Ok-tell.ensures.ok)).check_too_large (is_check c.in-Some.command c.in-Some.ensures.some check)

pub returns-in-Ok-tell-clause-migrate_done : goal.returns-in-Ok-tell-clause-migrate_done
returns-in-Ok-tell-clause-migrate_done g c = λ migrate done. (told c.in-Ok.ensures.ok (rw c.as_slice.ensures at c.in-Ok-tell.ensures.ok)).migrate_done (is_migrate c.in-Some.command c.in-Some.ensures.some migrate) done

pub returns-in-Ok-tell-clause-migrate_bad_script : goal.returns-in-Ok-tell-clause-migrate_bad_script
returns-in-Ok-tell-clause-migrate_bad_script g c = λ migrate. on_bad_script c.in-Ok.due.status (λ line reason says. migration_told c.in-Some.command (is_migrate c.in-Some.command c.in-Some.ensures.some migrate) line reason says) (told c.in-Ok.ensures.ok (rw c.as_slice.ensures at c.in-Ok-tell.ensures.ok)).bad_script

pub returns-in-Ok-tell-clause-migrate_too_large : goal.returns-in-Ok-tell-clause-migrate_too_large
returns-in-Ok-tell-clause-migrate_too_large g c = λ migrate. (told c.in-Ok.ensures.ok (rw c.as_slice.ensures at c.in-Ok-tell.ensures.ok)).migrate_too_large (is_migrate c.in-Some.command c.in-Some.ensures.some migrate)

pub returns-in-Ok-tell-clause-bad_script : goal.returns-in-Ok-tell-clause-bad_script
returns-in-Ok-tell-clause-bad_script g c = on_bad_script c.in-Ok.due.status (λ line reason says. named_line c.in-Some.command c.in-Some.ensures.some line reason says) (told c.in-Ok.ensures.ok (rw c.as_slice.ensures at c.in-Ok-tell.ensures.ok)).bad_script

pub returns-in-Ok-tell-clause-drill_done : goal.returns-in-Ok-tell-clause-drill_done
returns-in-Ok-tell-clause-drill_done g c = λ number drill done.
    (told c.in-Ok.ensures.ok (rw c.as_slice.ensures at c.in-Ok-tell.ensures.ok)).drill_done number (is_drill c.in-Some.command c.in-Some.ensures.some number drill) done

pub returns-in-Ok-tell-clause-drill_too_large : goal.returns-in-Ok-tell-clause-drill_too_large
returns-in-Ok-tell-clause-drill_too_large g c = λ number drill.
    (told c.in-Ok.ensures.ok (rw c.as_slice.ensures at c.in-Ok-tell.ensures.ok)).drill_too_large number (is_drill c.in-Some.command c.in-Some.ensures.some number drill)

pub returns-in-Ok-tell-clause-complete : goal.returns-in-Ok-tell-clause-complete
returns-in-Ok-tell-clause-complete g c = λ run _ _. on_some _ (λ bytes says. inl says.0) (run_due _ _ _ (is_run c.in-Some.command c.in-Some.ensures.some run) c.in-Ok.ensures.all)

pub returns-in-Ok-tell-clause-check_complete : goal.returns-in-Ok-tell-clause-check_complete
returns-in-Ok-tell-clause-check_complete g c = λ check _ _. on_some _ (λ bytes says. inl (c.in-Ok.due.text, says.0)) (check_due _ _ _ (is_check c.in-Some.command c.in-Some.ensures.some check) c.in-Ok.ensures.all)

pub returns-in-Ok-tell-clause-migrate_complete : goal.returns-in-Ok-tell-clause-migrate_complete
returns-in-Ok-tell-clause-migrate_complete g c = λ migrate _ _. on_some _ (λ bytes says. inl says.0) (migrate_due _ _ _ (is_migrate c.in-Some.command c.in-Some.ensures.some migrate) c.in-Ok.ensures.all)

pub returns-in-Ok-tell-clause-accepts : goal.returns-in-Ok-tell-clause-accepts
returns-in-Ok-tell-clause-accepts g c = λ run _ _. run_accepted _ _ _ (is_run c.in-Some.command c.in-Some.ensures.some run) c.in-Ok.ensures.all

pub returns-in-Ok-tell-clause-check_accepts : goal.returns-in-Ok-tell-clause-check_accepts
returns-in-Ok-tell-clause-check_accepts g c = λ check _ _. check_accepted _ _ _ (is_check c.in-Some.command c.in-Some.ensures.some check) c.in-Ok.ensures.all

pub returns-in-Ok-tell-clause-migrate_accepts : goal.returns-in-Ok-tell-clause-migrate_accepts
returns-in-Ok-tell-clause-migrate_accepts g c = λ migrate _ _. migrate_accepted _ _ _ (is_migrate c.in-Some.command c.in-Some.ensures.some migrate) c.in-Ok.ensures.all

pub returns-in-Ok-tell-clause-drill_complete : goal.returns-in-Ok-tell-clause-drill_complete
returns-in-Ok-tell-clause-drill_complete g c = λ number drill _. inl (c.in-Ok.ensures.ok.answer.drill_complete number (is_drill c.in-Some.command c.in-Some.ensures.some number drill)).0

pub returns-in-Ok-tell-clause-drill_accepts : goal.returns-in-Ok-tell-clause-drill_accepts
returns-in-Ok-tell-clause-drill_accepts g c = λ number drill _. c.in-Ok.ensures.ok.answer.drill_accepts number (is_drill c.in-Some.command c.in-Some.ensures.some number drill)

pub returns-in-Err-Fault-tell-clause-write_fault : goal.returns-in-Err-Fault-tell-clause-write_fault
returns-in-Err-Fault-tell-clause-write_fault g c = λ run _.
    let failed = (rw c.in-Err-Fault-tell.field-0-is at c.in-Err-Fault-tell.ensures.fault) refl in
    let same = is_run c.in-Some.command c.in-Some.ensures.some run in
    let due = c.in-Ok.ensures.ok in (
      failed.0,
      record {
        bytes = due.bytes;
        came = due.came input_limit (ap input_limit_of same);
        text = c.in-Ok.due.text;
        due = (due.answer.complete same).1;
        front = rw c.as_slice.ensures at failed.1;
      },
    )

pub returns-in-Err-Fault-tell-clause-check_write_fault : goal.returns-in-Err-Fault-tell-clause-check_write_fault
returns-in-Err-Fault-tell-clause-check_write_fault g c = λ check _.
    let failed = (rw c.in-Err-Fault-tell.field-0-is at c.in-Err-Fault-tell.ensures.fault) refl in
    let same = is_check c.in-Some.command c.in-Some.ensures.some check in
    let due = c.in-Ok.ensures.ok in (
      failed.0,
      record {
        bytes = due.bytes;
        came = due.came check_limit (ap input_limit_of same);
        text = c.in-Ok.due.text;
        due = (c.in-Ok.due.status, due.answer.check_complete same);
        front = rw c.as_slice.ensures at failed.1;
      },
    )

pub returns-in-Err-Fault-tell-clause-migrate_write_fault : goal.returns-in-Err-Fault-tell-clause-migrate_write_fault
returns-in-Err-Fault-tell-clause-migrate_write_fault g c = λ migrate _.
    let failed = (rw c.in-Err-Fault-tell.field-0-is at c.in-Err-Fault-tell.ensures.fault) refl in
    let same = is_migrate c.in-Some.command c.in-Some.ensures.some migrate in
    let due = c.in-Ok.ensures.ok in (
      failed.0,
      record {
        bytes = due.bytes;
        came = due.came input_limit (ap input_limit_of same);
        text = c.in-Ok.due.text;
        due = (due.answer.migrate_complete same).1;
        front = rw c.as_slice.ensures at failed.1;
      },
    )

pub returns-in-Err-Fault-tell-clause-drill_write_fault : goal.returns-in-Err-Fault-tell-clause-drill_write_fault
returns-in-Err-Fault-tell-clause-drill_write_fault g c = λ number drill _.
    let failed = (rw c.in-Err-Fault-tell.field-0-is at c.in-Err-Fault-tell.ensures.fault) refl in (
      failed.0,
      record {
        text = c.in-Ok.due.text;
        due = (c.in-Ok.ensures.ok.answer.drill_complete number (is_drill c.in-Some.command c.in-Some.ensures.some number drill)).1;
        front = rw c.as_slice.ensures at failed.1;
      },
    )

pub returns-in-Err-Fault-clause-read_fault : goal.returns-in-Err-Fault-clause-read_fault
returns-in-Err-Fault-clause-read_fault g c = λ _.
    let failed = (rw c.in-Err-Fault.field-0-is at c.in-Err-Fault.ensures.fault) refl in
    (names_reader c.in-Some.command c.in-Some.ensures.some failed.0.0 failed.0.1, failed.1, refl)
